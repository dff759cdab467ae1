use Rattle.std.proofs.Common.{arith, rules}
use Rattle.srm_timers.proofs.asks.Asks.due.Goals as goal

pub returns-clause-few : goal.returns-clause-few
returns-clause-few g c = λ names all_among. omega (arith, c.in_ok-arms.ensures.few, c.deref.ensures.len, c.in_ok-names.ensures.few names (search (rules, all_among)))
