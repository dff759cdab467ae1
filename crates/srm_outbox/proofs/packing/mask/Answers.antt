use Rattle.std.proofs.Common.{◌≡◌, ◌+◌, ◌-◌, ◌^◌, ◌<◌, drop, sym, subst, ◌∙◌, refl, true, arith}
use Rattle.srm_entries.specs.Packing.{is_covered}
use Rattle.srm_names.proofs.Lists.{left_at}
use Rattle.srm_outbox.proofs.Requesting.{MaskSoFar, mask_goes_on, mask_stops, mask_within, mask_short, one_shifted}
use Rattle.srm_outbox.proofs.packing.mask.Goals as goal

pub returns-then-not-is_covered-clause-value : goal.returns-then-not-is_covered-clause-value
returns-then-not-is_covered-clause-value c =
    mask_stops c.args.first c.name-item.result c.args.rest.now (drop (c.loop-name.name-index + 1) c.args.rest.now) c.loop-name.mask (sym c.is_covered.ensures ∙ c.if-not-is_covered.true)
    (subst (λ left. MaskSoFar c.args.first c.args.rest.now left c.loop-name.mask) (left_at c.loop-name.name-index c.name-item.result c.args.rest.now c.loop-name-test.true c.name-item.is) c.loop-name.invariant)

pub returns-then-not-is_covered-clause-within : goal.returns-then-not-is_covered-clause-within
returns-then-not-is_covered-clause-within c = mask_within c.args.first c.args.rest.now _ c.loop-name.mask c.loop-name.invariant

pub overflow_add-mask : goal.overflow_add-mask
overflow_add-mask c =
    let yes : is_covered c.args.first c.name-item.result ≡ true = sym c.is_covered.ensures ∙ c.if-not-is_covered.false in
    let more = mask_goes_on c.args.first c.name-item.result c.args.rest.now (drop (c.loop-name.name-index + 1) c.args.rest.now) c.loop-name.mask (omega arith) yes
    (subst (λ left. MaskSoFar c.args.first c.args.rest.now left c.loop-name.mask) (left_at c.loop-name.name-index c.name-item.result c.args.rest.now c.loop-name-test.true c.name-item.is) c.loop-name.invariant) in
    let short : c.loop-name.mask + 2 ^ (c.name-item.result.number - c.args.first.number - 1) < 2 ^ 32 = mask_short c.args.first c.args.rest.now _ _ more in
    rw (one_shifted c.args.first c.name-item.result c.number.result c.number-in-loop-name.result _ yes c.number.ensures.value c.number-in-loop-name.ensures.value refl) (omega arith)

pub loop-name-preserved : goal.loop-name-preserved
loop-name-preserved c =
    let yes : is_covered c.args.first c.name-item.result ≡ true = sym c.is_covered.ensures ∙ c.if-not-is_covered.false in
    let more = mask_goes_on c.args.first c.name-item.result c.args.rest.now (drop (c.loop-name.name-index + 1) c.args.rest.now) c.loop-name.mask (omega arith) yes
    (subst (λ left. MaskSoFar c.args.first c.args.rest.now left c.loop-name.mask) (left_at c.loop-name.name-index c.name-item.result c.args.rest.now c.loop-name-test.true c.name-item.is) c.loop-name.invariant) in
    rw (one_shifted c.args.first c.name-item.result c.number.result c.number-in-loop-name.result _ yes c.number.ensures.value c.number-in-loop-name.ensures.value refl) more

pub returns-clause-within : goal.returns-clause-within
returns-clause-within c = mask_within c.args.first c.args.rest.now _ c.loop-name.mask c.loop-name.invariant
