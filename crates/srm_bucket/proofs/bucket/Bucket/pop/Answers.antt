use Rattle.std.proofs.Common.{◌≡◌, ◌∙◌, None, true, false, ap, refl, rules, sym}
use Rattle.std.specs.Prelude.{if◌then◌else◌}
use Rattle.srm_bucket.specs.Tokens.{spent}
use Rattle.srm_bucket.specs.Waiting.{next_in}
use Rattle.srm_bucket.proofs.Highest.{lengths-lost}
use Rattle.srm_bucket.proofs.Popping.{next_is_short, pop_nothing, pop_refused, pop_first, pop_has_length, pop_leaves_fewer}
use Rattle.srm_bucket.proofs.bucket.Bucket.pop.Goals as goal

pub returns-in_err-length-clause-pops : goal.returns-in_err-length-clause-pops
returns-in_err-length-clause-pops g c =
    let none : c.from_residual.result ≡ None = search rules in
    rw (none, ← c.self.view_is) (pop_nothing c.args.now _ _ (sym c.next_length.ensures ∙ c.in_err-length.was) c.refill.ensures.value (λ k. refl))

pub spend-requires-clause-length : goal.spend-requires-clause-length
spend-requires-clause-length g c = next_is_short c.self.inside.queues _ c.self.invariant.lengths (sym c.next_length.ensures ∙ c.in_ok-length.was)

pub returns-then-not-spend-clause-pops : goal.returns-then-not-spend-clause-pops
returns-then-not-spend-clause-pops g c =
    let no : c.spend.result ≡ false = search rules in
    rw (← c.self.view_is) (pop_refused c.args.now _ _ c.in_ok-length.length c.refill.new.self (sym c.next_length.ensures ∙ c.in_ok-length.was) c.refill.ensures.value
    (sym c.spend.ensures.value ∙ no)
    (c.spend.ensures.spends ∙ ap (λ b. if b then spent c.in_ok-length.length c.refill.new.self else c.refill.new.self) no) (λ k. refl))

pub invariant_of-self-2 : goal.invariant_of-self-2
invariant_of-self-2 g c = record { tokens = c.spend.ensures.range; lengths = lengths-lost (next_in c.self.inside.queues) c.self.inside.queues c.pop.new.self c.pop.ensures.queues c.self.invariant.lengths }

pub returns-clause-pops : goal.returns-clause-pops
returns-clause-pops g c =
    let covered : c.spend.result ≡ true = search rules in
    rw (← c.self.view_is) (pop_first c.args.now _ _ c.pop.result c.in_ok-length.length c.refill.new.self (sym c.next_length.ensures ∙ c.in_ok-length.was) c.refill.ensures.value
    (sym c.spend.ensures.value ∙ covered)
    (c.spend.ensures.spends ∙ ap (λ b. if b then spent c.in_ok-length.length c.refill.new.self else c.refill.new.self) covered)
    c.pop.ensures.value c.pop.ensures.queues)

pub returns-clause-range : goal.returns-clause-range
returns-clause-range g c = pop_has_length c.self.inside.queues c.pop.result c.self.invariant.lengths c.pop.ensures.value

pub returns-clause-fewer : goal.returns-clause-fewer
returns-clause-fewer g c = rw (← c.self.view_is) (pop_leaves_fewer c.self.inside.queues c.pop.new.self c.pop.result c.pop.ensures.value c.pop.ensures.queues)
