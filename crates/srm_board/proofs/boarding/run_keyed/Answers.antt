use Rattle.std.proofs.Common.{subst}
use Rattle.srm_guarded.specs.Guarding.{IsSealBy}
use Rattle.srm_board.proofs.boarding.run_keyed.Goals as goal

pub returns-in-Ok : goal.returns-in-Ok
returns-in-Ok g c = λ whole. (c.in-Ok.seal, subst (λ me. IsSealBy c.args.key me c.in-Ok.seal) c.me.ensures c.in-Ok.ensures, c.run_sealed.ensures whole)
