use Rattle.std.proofs.Common.{sym, ap, subst, ◌∙◌, ◌≡◌, ◌<◌, true, false, rules}
use Rattle.std.specs.List.{insert}
use Rattle.std.specs.List.Sorted.{IsPartitionPoint}
use Rattle.std.specs.Vec.{vec_capacity, vec_len}
use Rattle.std.proofs.lemmas.List.Sorted.{IsPartitionPoint-from_clause}
use Rattle.srm_deadlines.specs.declared.timed.Timed.{Timed}
use Rattle.srm_deadlines.specs.Agenda.{Agenda, of_name}
use Rattle.srm_deadlines.proofs.Agendas.{inserted, not_full}
use Rattle.srm_deadlines.proofs.Orders.{IsInOrder, precedes, parted, put_in_order}
use Rattle.srm_deadlines.proofs.agenda.Agenda.insert.Goals as goal

pub invariant_of-self : goal.invariant_of-self
invariant_of-self c =
    let room : vec_len c.self.inside.pairs < vec_capacity c.self.inside.pairs = search rules in
    let items : c.insert.new.self.items ≡ insert c.self.inside.pairs.items c.partition_point-place.result c.args.timed =
    not_full _ _ _ _ (vec_capacity c.self.inside.pairs) (vec_len c.self.inside.pairs) c.insert.ensures.items c.insert.ensures.full room in
    let sorted : IsInOrder c.deref.result.now = subst IsInOrder (sym c.deref.ensures.value) c.self.invariant in
    let parts : IsPartitionPoint (λ (x : Timed). precedes c.args.timed x ≡ true) (λ (x : Timed). precedes c.args.timed x ≡ false) c.deref.result.now c.partition_point-place.result =
    IsPartitionPoint-from_clause (precedes c.args.timed) _ _ c.partition_point-place.ensures.partitioned (parted _ c.args.timed sorted) (λ a r f k. search rules) in
    subst IsInOrder (ap (λ xs. insert xs c.partition_point-place.result c.args.timed) c.deref.ensures.value ∙ sym items)
    (put_in_order _ c.partition_point-place.result c.args.timed c.partition_point-place.ensures.bound sorted parts)

pub returns-clause-each : goal.returns-clause-each
returns-clause-each c =
    let room : vec_len c.self.inside.pairs < vec_capacity c.self.inside.pairs = search rules in
    let items : c.insert.new.self.items ≡ insert c.self.inside.pairs.items c.partition_point-place.result c.args.timed =
    not_full _ _ _ _ (vec_capacity c.self.inside.pairs) (vec_len c.self.inside.pairs) c.insert.ensures.items c.insert.ensures.full room in
    let pairs : c.self.inside.pairs.items ≡ c.args.self.now.pairs = ap (λ (a : Agenda). a.pairs) c.self.view_is in
    let new : c.insert.new.self.items ≡ insert c.args.self.now.pairs c.partition_point-place.result c.args.timed = items ∙ ap (λ xs. insert xs c.partition_point-place.result c.args.timed) pairs in
    λ n. ap (of_name n) new ∙ inserted c.args.self.now.pairs c.partition_point-place.result c.args.timed c.requires.absent n
