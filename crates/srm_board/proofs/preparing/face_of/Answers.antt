use Rattle.std.proofs.Common.{subst, sym}
use Rattle.srm_board.specs.Places.{IsTokenRoot}
use Rattle.srm_board.proofs.preparing.face_of.Goals as goal

pub returns-clause-token : goal.returns-clause-token
returns-clause-token g c = λ yes. subst (λ root. IsTokenRoot (g.S.TokenSource.gives c.args.source.now) root) (sym c.in_ok-guard.ensures.root) (c.in_ok-root.ensures.token yes)
