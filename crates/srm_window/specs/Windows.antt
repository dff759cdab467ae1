-- What a window keeps, and which lists of counters it fits.
use Rattle.std.specs.Prelude.{◌≡◌, ℕ, ◌+◌, ◌*◌, ◌/◌, ◌%◌, ◌^◌, ◌-◌, ◌<◌, max, nat_lt, ◌==◌, Bool, true, not, ◌&&◌, bit_or, List, length, get_or, replicate, slice_set, if◌then◌else◌}
use Rattle.std.specs.Int.{bit_at}
use Rattle.srm_window.specs.declared.window.TheConstants.{WINDOW, WORD, SLOTS}
use Rattle.srm_window.specs.Freshness.{greatest, is_among}

-- the greatest counter that came, and of each slot which block its word speaks of, and the word
pub record WindowView : Type 0 where
  pub greatest : ℕ
  pub blocks : List ℕ
  pub bits : List ℕ

-- a window to which no counter came
abbrev pub new_window : WindowView
new_window = record { greatest = 0; blocks = replicate 128 0; bits = replicate 128 0 }

-- where a counter's block has its slot
abbrev pub slot_of : ℕ → ℕ
slot_of c = c / 64 % 128

-- the word of a counter's block, and 0 if its slot has another one's
abbrev pub known_at : WindowView → ℕ → ℕ
known_at w c = if get_or w.blocks (slot_of c) 0 == c / 64 then get_or w.bits (slot_of c) 0 else 0

-- the bit of a counter is set
abbrev pub remembers : WindowView → ℕ → Bool
remembers w c = bit_at (known_at w c) (c % 64) == 1

-- a counter is in the window or above it, and isn't remembered
abbrev pub admits : WindowView → ℕ → Bool
admits w c = nat_lt (w.greatest - c) 4096 && not (remembers w c)

-- with the bit of a counter
abbrev pub noted : ℕ → WindowView → WindowView
noted c w = record {
  greatest = max w.greatest c;
  blocks = slice_set w.blocks (slot_of c) (c / 64);
  bits = slice_set w.bits (slot_of c) (bit_or (known_at w c) (1 * 2 ^ (c % 64) % 2 ^ 64));
}

-- what a counter that comes leaves: with its bit, if the window admits it
abbrev pub after : ℕ → WindowView → WindowView
after c w = if admits w c then noted c w else w

-- A window fits the counters that came: it knows the greatest, what it remembers came, and of what came it remembers all that isn't behind the window.
pub record WindowFits (w : WindowView) (came : List ℕ) : Type 0 where
  pub top : w.greatest ≡ greatest came
  pub only : (c : ℕ) → remembers w c ≡ true → is_among came c ≡ true
  pub all : (c : ℕ) → is_among came c ≡ true → greatest came < c + WINDOW → remembers w c ≡ true
  pub slots : (length w.blocks ≡ 128) × (length w.bits ≡ 128)
