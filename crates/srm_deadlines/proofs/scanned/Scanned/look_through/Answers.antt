use Rattle.std.proofs.Common.{sym, ap, subst, ◌∙◌, ◌≡◌, ◌<◌, ◌≤◌, length, take, ◌+◌, Vec, Global, false, true, arith}
use Rattle.std.specs.Prelude.{vec_capacity}
use Rattle.std.proofs.lemmas.List.{take_all}
use Rattle.srm_names.specs.declared.name.Name.{Name}
use Rattle.srm_names.specs.Names.{AreExactly}
use Rattle.srm_names.specs.Moments.{has_come}
use Rattle.srm_deadlines.specs.Deadlines.{DueHasRoom}
use Rattle.srm_deadlines.specs.Places.{value_at}
use Rattle.srm_deadlines.proofs.Fitting.{another_fits}
use Rattle.srm_deadlines.proofs.Looking.{DueSoFar, due_more, due_missed, due_all}
use Rattle.srm_deadlines.proofs.scanned.Scanned.look_through.Goals as goal
use Rattle.srm_deadlines.proofs.scanned.Scanned.look_through.Goals.{then-has_come+in_ok-insert_in_order, else-has_come}

pub loop-i-preserved : goal.loop-i-preserved
loop-i-preserved c =
    let lt : c.loop-i.i < length c.self.inside.moments = omega arith in
    let answer : has_come c.args.now (value_at c.self.inside.moments c.place-name.result.name) ≡ c.has_come.result =
    ap (has_come c.args.now) (sym c.get.ensures) ∙ sym c.has_come.ensures in
    elim c.if-has_come.branch [
      | then-has_come+in_ok-insert_in_order w ↦ record {
        due = subst (λ (v : Vec Name Global). DueSoFar c.args.now (take (c.loop-i.i + 1) c.self.inside.moments) c.self.inside.moments v.items) (sym w.names-is)
            (due_more c.args.now c.self.inside.moments c.loop-i.i c.place-name.result c.loop-i.names.items _ lt c.place-name.ensures.place (answer ∙ w.if-has_come.true) c.loop-i.invariant.due
            w.in_ok-insert_in_order.ensures.order w.in_ok-insert_in_order.ensures.exact);
        capacity = subst (λ (v : Vec Name Global). vec_capacity c.clear.new.self ≤ vec_capacity v) (sym w.names-is) (omega (arith, c.loop-i.invariant.capacity, w.in_ok-insert_in_order.ensures.capacity));
      }
      | else-has_come w ↦ record {
        due = subst (λ (v : Vec Name Global). DueSoFar c.args.now (take (c.loop-i.i + 1) c.self.inside.moments) c.self.inside.moments v.items) (sym w.names-is)
            (due_missed c.args.now c.self.inside.moments c.loop-i.i c.place-name.result c.loop-i.names.items lt c.place-name.ensures.place (answer ∙ w.if-has_come.false) c.loop-i.invariant.due);
        capacity = subst (λ (v : Vec Name Global). vec_capacity c.clear.new.self ≤ vec_capacity v) (sym w.names-is) c.loop-i.invariant.capacity;
      }
    ]

pub returns-clause-names : goal.returns-clause-names
returns-clause-names c =
    let le : length c.self.inside.moments ≤ c.loop-i.i = omega arith in
    subst (λ places. AreExactly (λ n. has_come c.args.now (value_at places n)) c.loop-i.names.items) c.self.view_is
    (due_all c.args.now c.self.inside.moments c.loop-i.names.items
    (subst (λ seen. DueSoFar c.args.now seen c.self.inside.moments c.loop-i.names.items) (take_all c.loop-i.i c.self.inside.moments le) c.loop-i.invariant.due))

pub returns-in_err-insert_in_order-clause-room : goal.returns-in_err-insert_in_order-clause-room
returns-in_err-insert_in_order-clause-room c = λ fit.
    let come : has_come c.args.now (value_at c.self.inside.moments c.place-name.result.name) ≡ true = ap (has_come c.args.now) (sym c.get.ensures) ∙ sym c.has_come.ensures ∙ c.if-has_come.true in
    let more : length c.loop-i.names.items < vec_capacity c.args.names.now =
    another_fits c.args.now (vec_capacity c.args.names.now) _ c.self.inside.moments c.loop-i.names.items c.place-name.result.name c.loop-i.invariant.due c.in_err-insert_in_order.ensures.new come
    (subst (λ places. DueHasRoom c.args.now places (vec_capacity c.args.names.now)) (sym c.self.view_is) fit) in
    absurd (omega (arith, c.in_err-insert_in_order.ensures.full, c.loop-i.invariant.capacity, c.clear.ensures.capacity))
