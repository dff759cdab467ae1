-- What a tab draws, which numbers its strokes from 1 on, also where its connection is renewed.
use Rattle.std.specs.Prelude.{◌≡◌, ℕ, ◌+◌, ◌<◌, ◌≤◌, ◌==◌, nat_le, List, [], ◌∷◌, ◌++◌, if◌then◌else◌}
use Rattle.srm_names.specs.declared.page.Page.{Page}
use Rattle.srm_slate.specs.declared.easel.Drawn.{Drawn}
use Rattle.srm_slate.specs.declared.easel.Drawn.TheVariants.{Taken, Full, Over}
use Rattle.srm_slate.specs.declared.hand.Place.{Place}
use Rattle.srm_slate.specs.declared.hand.Place.TheVariants.{Before, Next, Ahead}

-- a stroke that the member took, and its number
pub record GivenView : Type 0 where
  pub number : ℕ
  pub page : Page
  pub body : List ℕ

-- The strokes up to `settled` were taken, or told as not taken; and those that the member took, oldest first.
pub record HandView : Type 0 where
  pub settled : ℕ
  pub given : List GivenView

-- nothing was drawn yet
abbrev pub idle : HandView
idle = record { settled = 0; given = [] }

-- where a number stands: it is settled, it is the next, or one before it is missing
abbrev pub place_of : ℕ → ℕ → Place
place_of settled number = if nat_le number settled then Before else if number == settled + 1 then Next else Ahead

-- The member was handed the next stroke, with this number. What it didn't take can be drawn later.
abbrev pub after_drawn : ℕ → Page → List ℕ → Drawn → HandView → HandView
after_drawn number page body Taken hand = record { settled = number; given = hand.given ++ (record { number = number; page = page; body = body }) ∷ [] }
after_drawn number page body Full hand = hand
after_drawn number page body Over hand = hand

-- the next stroke, with this number, is told as not taken
abbrev pub after_passed : ℕ → HandView → HandView
after_passed number hand = record hand { settled = number }

-- the numbers of these rise from one on, and none is greater than another
abbrev pub Rises : ℕ → List GivenView → ℕ → Type 0
Rises low [] high = low ≤ high
Rises low (one ∷ more) high = (low < one.number) × Rises one.number more high

-- each stroke was taken once at most, and in order
pub record IsOnce (hand : HandView) : Type 0 where
  pub rises : Rises 0 hand.given hand.settled
