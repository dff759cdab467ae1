use Rattle.std.proofs.Common.{◌≡◌, ◌∙◌, None, rules, sym}
use Rattle.srm_bucket.proofs.Popping.{next_is_short, waits_nothing, waits_something}
use Rattle.srm_bucket.proofs.bucket.Bucket.wait_until.Goals as goal

pub returns-in_err-length : goal.returns-in_err-length
returns-in_err-length g c =
    let none : c.from_residual.result ≡ None = search rules in
    rw (none, ← c.self.view_is) (waits_nothing _ (sym c.next_length.ensures ∙ c.in_err-length.was))

pub first_moment-requires-clause-length : goal.first_moment-requires-clause-length
first_moment-requires-clause-length g c = next_is_short c.self.inside.queues _ c.self.invariant.lengths (sym c.next_length.ensures ∙ c.in_ok-length.was)

pub returns : goal.returns
returns g c = rw (← c.self.view_is) (waits_something _ c.in_ok-length.length _ (sym c.next_length.ensures ∙ c.in_ok-length.was) c.first_moment.ensures)
