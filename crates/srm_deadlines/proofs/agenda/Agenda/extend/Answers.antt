use Rattle.std.proofs.Common.{ap, subst, ◌∙◌, ◌≡◌, ◌+◌, ◌≤◌, ◌++◌, length, rules}
use Rattle.std.specs.Prelude.{IsPermutation}
use Rattle.std.specs.Vec.{vec_capacity, vec_len}
use Rattle.srm_deadlines.specs.Agenda.{Agenda}
use Rattle.srm_deadlines.proofs.Agendas.{extended, all_fit}
use Rattle.srm_deadlines.proofs.agenda.Agenda.extend.Goals as goal

pub returns-clause-each : goal.returns-clause-each
returns-clause-each c =
    let room : vec_len c.self.inside.pairs + length c.args.moments.now ≤ vec_capacity c.self.inside.pairs = search rules in
    let items : c.extend_from_slice.new.self.items ≡ c.self.inside.pairs.items ++ c.args.moments.now =
    all_fit _ _ _ _ _ _ c.extend_from_slice.ensures.items c.extend_from_slice.ensures.full room in
    let pairs : c.self.inside.pairs.items ≡ c.args.self.now.pairs = ap (λ (a : Agenda). a.pairs) c.self.view_is in
    extended c.args.self.now.pairs c.args.moments.now _ c.requires.rising c.requires.once c.requires.absent
    (subst (λ xs. IsPermutation xs c.sort_unstable.new.self.items) (items ∙ ap (λ xs. xs ++ c.args.moments.now) pairs) c.sort_unstable.ensures.permutation)
