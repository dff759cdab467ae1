use Rattle.std.proofs.Common.{sym, ap, subst, ◌∙◌, ◌≡◌, ◌≤◌, length, take, true, false, rules}
use Rattle.std.specs.Prelude.{vec_capacity}
use Rattle.std.specs.List.{list_any}
use Rattle.std.specs.List.Sorted.{IsPartitionPoint}
use Rattle.std.proofs.lemmas.List.Sorted.{IsPartitionPoint-from_clause, IsPartitionedBy-leb}
use Rattle.srm_names.specs.FullName.{FullName}
use Rattle.srm_names.specs.Names.{AreExactly}
use Rattle.srm_deadlines.specs.declared.timed.Timed.{Timed}
use Rattle.srm_deadlines.specs.Agenda.{Agenda, of_name, is_due, PairsHaveRoom}
use Rattle.srm_deadlines.specs.Places.{names_of}
use Rattle.srm_deadlines.proofs.Dues.{due_names}
use Rattle.srm_deadlines.proofs.Fitting.{front_fits}
use Rattle.srm_deadlines.proofs.Orders.{IsInOrder, moments_rise}
use Rattle.srm_deadlines.proofs.agenda.Agenda.due.Goals as goal

pub returns-clause-names : goal.returns-clause-names
returns-clause-names c =
    let sorted : IsInOrder c.deref.result.now = subst IsInOrder (sym c.deref.ensures.value) c.self.invariant in
    let parts : IsPartitionPoint (λ (t : Timed). is_due c.args.now t ≡ true) (λ (t : Timed). is_due c.args.now t ≡ false) c.deref.result.now c.partition_point-count.result =
    IsPartitionPoint-from_clause (is_due c.args.now) _ _ c.partition_point-count.ensures.partitioned (IsPartitionedBy-leb (λ (t : Timed). t.moment) _ c.args.now (moments_rise _ sorted)) (λ a r f k. search rules) in
    let is : c.deref.result.now ≡ c.args.self.now.pairs = c.deref.ensures.value ∙ ap (λ (a : Agenda). a.pairs) c.self.view_is in
    let names = c.in_ok-put_names.ensures.names ∙ ap (λ pairs. names_of (take c.partition_point-count.result pairs)) (c.deref-2.ensures.value ∙ sym c.deref.ensures.value) in
    subst (λ pairs. AreExactly (λ n. list_any (is_due c.args.now) (of_name n pairs)) c.sort_unstable.new.self.items) is
    (due_names c.args.now c.deref.result.now c.partition_point-count.result _ _
    (subst (λ pairs. (n : FullName) → length (of_name n pairs) ≤ 1) (sym is) c.requires.once) c.partition_point-count.ensures.bound parts names c.sort_unstable.ensures.permutation c.sort_unstable.ensures.sorted)

pub returns-in_err-put_names-clause-room : goal.returns-in_err-put_names-clause-room
returns-in_err-put_names-clause-room c = λ fit.
    let sorted : IsInOrder c.deref.result.now = subst IsInOrder (sym c.deref.ensures.value) c.self.invariant in
    let parts : IsPartitionPoint (λ (t : Timed). is_due c.args.now t ≡ true) (λ (t : Timed). is_due c.args.now t ≡ false) c.deref.result.now c.partition_point-count.result =
    IsPartitionPoint-from_clause (is_due c.args.now) _ _ c.partition_point-count.ensures.partitioned (IsPartitionedBy-leb (λ (t : Timed). t.moment) _ c.args.now (moments_rise _ sorted)) (λ a r f k. search rules) in
    let is : c.deref.result.now ≡ c.args.self.now.pairs = c.deref.ensures.value ∙ ap (λ (a : Agenda). a.pairs) c.self.view_is in
    let few : length (take c.partition_point-count.result c.deref.result.now) ≤ vec_capacity c.args.names.now =
    front_fits c.args.now c.deref.result.now c.partition_point-count.result _ (subst (λ pairs. (n : FullName) → length (of_name n pairs) ≤ 1) (sym is) c.requires.once) c.partition_point-count.ensures.bound parts
    (subst (λ pairs. PairsHaveRoom c.args.now pairs (vec_capacity c.args.names.now)) (sym is) fit) in
    absurd (let k : false ≡ true = c.in_err-put_names.ensures.room (subst (λ pairs. length (take c.partition_point-count.result pairs) ≤ vec_capacity c.args.names.now) (c.deref.ensures.value ∙ sym c.deref-2.ensures.value) few) in cc)
