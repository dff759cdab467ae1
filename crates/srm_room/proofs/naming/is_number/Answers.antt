use Rattle.std.proofs.Common.{sym, rules}
use Rattle.std.specs.Char.{is_ascii_digit}
use Rattle.srm_room.proofs.Letters.{ends, goes_on, stops}
use Rattle.srm_room.proofs.naming.is_number.Goals as goal

pub loop-c-init : goal.loop-c-init
loop-c-init c = (search rules, search rules, record { utf8 = search rules; same = rw c.chars-rest.ensures.rest })

pub loop-c-preserved : goal.loop-c-preserved
loop-c-preserved c = (search rules, search rules, goes_on is_ascii_digit _ _ _ c.in-Some.c c.loop-c.invariant.2 c.in-Some.ensures.steps.0 (search rules))

pub returns-then-not-is_ascii_digit : goal.returns-then-not-is_ascii_digit
returns-then-not-is_ascii_digit c = sym (stops is_ascii_digit _ _ _ c.in-Some.c c.loop-c.invariant.2 c.in-Some.ensures.steps.0 (search rules))

pub returns : goal.returns
returns c = sym (ends is_ascii_digit _ _ c.loop-c.invariant.2 c.in_default.ensures.steps.0.0)
