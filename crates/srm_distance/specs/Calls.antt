-- The calls that change what a member knows of the others.
use Rattle.std.specs.Prelude.{ℕ, Option}

pub data DistanceCall : Type 0 where
  -- a session message: who sent it and when, its echo for this member (the moment t1 that it answers, and how long
  -- it waited), and when it was heard
  Heard : (from sent : ℕ) (echo : Option (ℕ × ℕ)) (now : ℕ) → DistanceCall
  Forgot : (member : ℕ) → DistanceCall
