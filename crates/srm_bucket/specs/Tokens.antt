-- The tokens that are kept.
use Rattle.std.specs.Prelude.{ℕ, ◌+◌, ◌*◌, ◌-◌, ◌≤◌, ◌<◌, min, max}
use Rattle.srm_names.specs.declared.limits.TheConstants.{LATEST_MOMENT}
use Rattle.srm_bucket.specs.declared.limits.TheConstants.{MILLIONTHS, LEAST_RATE, GREATEST_RATE, LEAST_DEPTH, GREATEST_DEPTH}
use Rattle.srm_bucket.specs.declared.tokens.Tokens.{Tokens}

-- what so many bytes cost, in millionths of a byte
abbrev pub cost_of : ℕ → ℕ
cost_of bytes = bytes * MILLIONTHS

-- the tokens at a moment; a moment below the last one counts as the last
abbrev pub refilled : ℕ → Tokens → Tokens
refilled now t = record t { level = min (cost_of t.depth) (t.level + t.rate * (now - t.last)); last = max t.last now }

abbrev pub spent : ℕ → Tokens → Tokens
spent bytes t = record t { level = t.level - cost_of bytes }

pub record AreInRange (t : Tokens) : Type 0 where
  pub least_rate : LEAST_RATE ≤ t.rate
  pub greatest_rate : t.rate ≤ GREATEST_RATE
  pub least_depth : LEAST_DEPTH ≤ t.depth
  pub greatest_depth : t.depth ≤ GREATEST_DEPTH
  pub level : t.level ≤ cost_of t.depth
  pub last : t.last ≤ LATEST_MOMENT

-- the first moment, from the last one on, at which there are so many tokens
pub record IsFirstLevel (t : Tokens) (tokens moment : ℕ) : Type 0 where
  pub not_before : t.last ≤ moment
  pub covered : tokens ≤ (refilled moment t).level
  pub no_sooner : (m : ℕ) → t.last ≤ m → m < moment → (refilled m t).level < tokens

-- the same of so many bytes
abbrev pub IsFirstMoment : Tokens → ℕ → ℕ → Type 0
IsFirstMoment t bytes moment = IsFirstLevel t (cost_of bytes) moment
