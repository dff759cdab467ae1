-- A clock that goes on by steps, at worked readings.
use Rattle.std.specs.Prelude.{◌≡◌, refl}
use Rattle.std.proofs.Common.{ap, arith}
use Rattle.srm_wire.specs.Wires.{greatest_count}
use Rattle.srm_rig_nodes.specs.StepClocks.{Steps, StepClockView}

tells_5_and_then_7 : Steps (record { next = 5; step = 2 }) 5 (record { next = 7; step = 2 })
tells_5_and_then_7 = (refl, refl)

not_6_first : Steps (record { next = 5; step = 2 }) 6 (record { next = 7; step = 2 }) → ⊥
not_6_first h = let k : 6 ≡ 5 = h.0 in absurd (omega (arith, k))

not_5_again : Steps (record { next = 5; step = 2 }) 5 (record { next = 5; step = 2 }) → ⊥
not_5_again h = let k : 5 ≡ 7 = ap (λ (c : StepClockView). c.next) h.1 in absurd (omega (arith, k))

stops_at_the_greatest : Steps (record { next = greatest_count; step = 2 }) greatest_count (record { next = greatest_count; step = 2 })
stops_at_the_greatest = (refl, refl)
