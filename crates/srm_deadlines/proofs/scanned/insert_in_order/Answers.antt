use Rattle.std.proofs.Common.{sym, ap, subst, ◌∙◌, ◌≡◌, true, take, drop}
use Rattle.srm_names.specs.FullName.{FullName}
use Rattle.srm_names.specs.Names.{name_below, ascending, among}
use Rattle.srm_names.proofs.Results.{at_err}
use Rattle.srm_deadlines.proofs.Fitting.{between_new}
use Rattle.srm_deadlines.proofs.Order.{insert_ascending, insert_among}
use Rattle.srm_deadlines.proofs.scanned.insert_in_order.Goals as goal

pub returns-in_ok-insert-clause-order : goal.returns-in_ok-insert-clause-order
returns-in_ok-insert-clause-order c = subst (λ ns. ascending name_below ns ≡ true) (sym c.in_ok-insert.ensures.items) (insert_ascending c.args.names.now.items c.in-Some.i c.args.name c.requires
    (subst (λ ns. (m : FullName) → among (take c.in-Some.i ns) m ≡ true → name_below m c.args.name ≡ true) c.deref.ensures.value c.in-Some.ensures.before)
    (subst (λ ns. (m : FullName) → among (drop c.in-Some.i ns) m ≡ true → name_below c.args.name m ≡ true) c.deref.ensures.value c.in-Some.ensures.after))

pub returns-in_ok-insert-clause-exact : goal.returns-in_ok-insert-clause-exact
returns-in_ok-insert-clause-exact c = λ m. ap (λ ns. among ns m) c.in_ok-insert.ensures.items ∙ insert_among c.args.names.now.items c.in-Some.i c.args.name m

pub returns-in_err-insert-clause-new : goal.returns-in_err-insert-clause-new
returns-in_err-insert-clause-new c = at_err _ (between_new c.args.names.now.items c.in-Some.i c.args.name
    (subst (λ ns. (m : FullName) → among (take c.in-Some.i ns) m ≡ true → name_below m c.args.name ≡ true) c.deref.ensures.value c.in-Some.ensures.before)
    (subst (λ ns. (m : FullName) → among (drop c.in-Some.i ns) m ≡ true → name_below c.args.name m ≡ true) c.deref.ensures.value c.in-Some.ensures.after))
