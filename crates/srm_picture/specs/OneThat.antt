-- One of several, or none.
use Rattle.std.specs.Prelude.{Option, MatchOption}

-- P holds of this one; None if it holds of none
abbrev pub IsOneThat : {X : Type 0} → (X → Type 0) → Option X → Type 0
IsOneThat {X = X} P o = MatchOption o ((x : X) → ¬ (P x)) P
