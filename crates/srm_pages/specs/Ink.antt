-- The rule of the stroke queue: what a producer sent is its part of what was received, and then of what the queue holds.
use Rattle.std.specs.Prelude.{◌≡◌, ℕ, ◌+◌, ◌<◌, ◌≤◌, ◌==◌, Bool, true, false, List, [], ◌∷◌, ◌++◌, filter}
use mathlib.Core.Option.{some}
use lib.ListN.{get_elem?}
use Rattle.srm_pages.specs.declared.stroke.Stroke.{Stroke}
use Rattle.srm_pages.specs.declared.ink.InkView.{InkView}

abbrev pub ink_view : Bool → List Stroke → ℕ → Bool → ℕ → List Stroke → InkView
ink_view reads received made writes pen sent = record { reads = reads; received = received; made = made; writes = writes; pen = pen; sent = sent }

abbrev pub reader : InkView
reader = ink_view true [] 0 false 0 []

abbrev pub new_pen : ℕ → InkView
new_pen number = ink_view false [] 0 true number []

abbrev pub with_one_pen_more : InkView → InkView
with_one_pen_more v = ink_view v.reads v.received (v.made + 1) v.writes v.pen v.sent

-- the reader's pass with a producer's joined to it, what is left of the latter, and the two split again
abbrev pub with_pen : InkView → InkView → InkView
with_pen reader pen = ink_view reader.reads reader.received reader.made pen.writes pen.pen pen.sent

abbrev pub joined_pass : InkView
joined_pass = ink_view false [] 0 false 0 []

abbrev pub reader_of : InkView → InkView
reader_of v = ink_view v.reads v.received v.made false 0 []

abbrev pub pen_of : InkView → InkView
pen_of v = ink_view false [] 0 v.writes v.pen v.sent

-- the strokes of one producer, in order
abbrev pub strokes_of : ℕ → List Stroke → List Stroke
strokes_of p xs = filter (λ (x : Stroke). p == x.pen) xs

-- what a producer sent is its part of what was received, and then its part of what the queue holds
abbrev pub SentIs : ℕ → List Stroke → List Stroke → List Stroke → Type 0
SentIs pen sent received held = sent ≡ strokes_of pen received ++ strokes_of pen held

-- the same of a reader with a producer joined
pub record KnowsPart (v : InkView) (held : List Stroke) : Type 0 where
  pub sent : SentIs v.pen v.sent v.received held

-- what the producer sent is its part of what was received
abbrev pub ReceivedAll : InkView → Type 0
ReceivedAll v = strokes_of v.pen v.received ≡ v.sent

-- both are of the reader, and of the same producer, which sent the same
pub record HasSameParts (old new : InkView) : Type 0 where
  pub reads : new.reads ≡ old.reads
  pub writes : new.writes ≡ old.writes
  pub pen : new.pen ≡ old.pen
  pub sent : new.sent ≡ old.sent

-- A producer has what it sent, which is its part of what was received and then of what the queue holds. The reader has what was received
pub record FitsInk (seat : ℕ → ℕ) (made : ℕ) (received items : List Stroke) (id : ℕ) (v : InkView) : Type 0 where
  pub pen : v.writes ≡ true → (seat v.pen ≡ id) × (v.pen < made) × (v.sent ≡ strokes_of v.pen (received ++ items))
  pub reader : v.reads ≡ true → (id ≡ 0) × (v.received ≡ received) × (v.made ≡ made)

pub record IsWellState (items : List Stroke) (views : List InkView) : Type 0 where
  pub seat : ℕ → ℕ
  pub made : ℕ
  pub received : List Stroke
  pub blank : (p : ℕ) → made ≤ p → strokes_of p (received ++ items) ≡ []
  pub fits : (id : ℕ) (v : InkView) → get_elem? views id ≡ some v → FitsInk seat made received items id v

abbrev pub PenSends : InkView → Stroke → InkView → Type 0
PenSends v x w = w ≡ ink_view v.reads v.received v.made v.writes v.pen (v.sent ++ x ∷ [])

abbrev pub ReaderReceives : InkView → Stroke → InkView → Type 0
ReaderReceives v x w = w ≡ ink_view v.reads (v.received ++ x ∷ []) v.made v.writes v.pen v.sent
