use Rattle.std.proofs.Common.{rules, arith, ap, ◌≡◌, ℕ, List, length, chars}
use Rattle.std.proofs.lemmas.Bool.Decides.{nat_tests}
use Rattle.srm_room.proofs.Letters.{counted_all, counts_on, too_long}
use Rattle.srm_room.proofs.naming.is_short.Goals as goal

pub loop-c-init : goal.loop-c-init
loop-c-init c =
    let same = ap (λ (t : List ℕ). length (chars t)) c.chars-rest.ensures.rest in
    (search rules, search rules, record { utf8 = search rules; low = omega arith; sum = omega (arith, same) })

pub loop-c-preserved : goal.loop-c-preserved
loop-c-preserved c =
    let low = c.loop-c.invariant.2.low in
    let other = c.if-count-eq-LONGEST_NAME.false in
    (search rules, search rules, counts_on _ _ _ c.loop-c.count c.in-Some._c c.loop-c.invariant.2 c.in-Some.ensures.steps.0 (omega (arith, low, other)))

pub returns-then-count-eq-LONGEST_NAME : goal.returns-then-count-eq-LONGEST_NAME
returns-then-count-eq-LONGEST_NAME c = too_long _ _ _ c.loop-c.count c.in-Some._c c.loop-c.invariant.2 c.in-Some.ensures.steps.0 c.if-count-eq-LONGEST_NAME.true

pub returns : goal.returns
returns c =
    let all : c.loop-c.count ≡ length (chars c.args.text.now) = counted_all _ _ c.loop-c.count c.loop-c.invariant.2 c.in_default.ensures.steps.0.0 in
    let low = c.loop-c.invariant.2.low in
    rw (← all) (grind (arith, nat_tests, low))
