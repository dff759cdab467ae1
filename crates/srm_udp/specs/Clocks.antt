-- What contracts see of the system's clock.
use Rattle.std.specs.Prelude.{◌≡◌, ℕ, ◌≤◌, Option, Some, MatchOption}

-- the moment that it told last, if it told any
pub record ClockView : Type 0 where
  pub last : Option ℕ

-- The first reading is 0, and each is no earlier than the one before it.
pub record NeverFalls (old : ClockView) (told : ℕ) (new : ClockView) : Type 0 where
  pub not_before : MatchOption old.last (told ≡ 0) (λ last. last ≤ told)
  pub is : new ≡ record { last = Some told }
