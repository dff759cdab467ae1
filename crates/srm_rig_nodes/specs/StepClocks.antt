-- What contracts see of a clock that goes on by one step at each reading.
use Rattle.std.specs.Prelude.{◌≡◌, ℕ, ◌+◌, min}
use Rattle.srm_wire.specs.Wires.{greatest_count}

-- the moment that it tells next, and how far it goes on then
pub record StepClockView : Type 0 where
  pub next : ℕ
  pub step : ℕ

-- A reading tells the next moment. The one behind it is a step later, at the most the greatest number of 64 bits.
abbrev pub Steps : StepClockView → ℕ → StepClockView → Type 0
Steps old told new = (told ≡ old.next) × (new ≡ record old { next = min (old.next + old.step) greatest_count })
