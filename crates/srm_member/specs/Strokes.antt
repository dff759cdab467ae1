-- What a producer draws.
use Rattle.std.specs.Prelude.{◌≡◌, ℕ, Bool, true, List, [], ◌∷◌, ◌++◌, map}
use Rattle.std.specs.List.{zip}
use Rattle.srm_names.specs.declared.page.Page.{Page}
use Rattle.srm_names.specs.Names.{first_page}
use Rattle.srm_pages.specs.declared.stroke.Stroke.{Stroke}
use Rattle.srm_pages.specs.Ends.{PenView}
use Rattle.srm_member.specs.declared.pens.PenThread.{PenThread}

-- the stroke with this body, of the producer at this place, on a page
abbrev pub stroke_on : Page → ℕ → List ℕ → Stroke
stroke_on page pen body = record { pen = pen; page = page; body = body }

-- on the first page
abbrev pub stroke_of : ℕ → List ℕ → Stroke
stroke_of pen body = stroke_on first_page pen body

-- The producer sent all of these bodies but those that are left behind them, each once and in order.
pub record PenSentAllBut (bodies left : List (List ℕ)) (old new : PenView) : Type 0 where
  pub sent : List (List ℕ)
  pub split : bodies ≡ sent ++ left
  pub is : new ≡ record old { sent = old.sent ++ map (stroke_of old.number) sent }

-- The producer sent a prefix of these bodies, and all of them where that is said.
abbrev pub PenSent : Bool → List (List ℕ) → PenView → PenView → Type 0
PenSent all bodies old new = (left : List (List ℕ)) × (all ≡ true → left ≡ []) × PenSentAllBut bodies left old new

-- a producer, and the bodies that it is to draw
abbrev pub PenAndBodies : Type 0
PenAndBodies = PenView × List (List ℕ)

-- those that a thread was started with
abbrev pub pen_and_bodies : PenThread → PenAndBodies
pen_and_bodies t = (t.handle.promise.0.value, t.handle.promise.1.value.items)

-- the k-th producer is to draw the k-th list of bodies
abbrev pub pens_with : List PenView → List (List (List ℕ)) → List PenAndBodies
pens_with pens dealt = zip pens dealt

-- each producer sent a prefix of its bodies, and all of them where that is said
abbrev pub PensDrew : Bool → List PenAndBodies → List PenView → Type 0
PensDrew all [] [] = Unit {0}
PensDrew all (s ∷ ss) (p ∷ ps) = PenSent all s.1 s.0 p × PensDrew all ss ps
PensDrew all _ _ = ⊥

-- of these threads some were joined, and the others not yet
pub record JoinsPens (all : Bool) (started : List PenAndBodies) (left : List PenThread) (inked : List PenView) : Type 0 where
  pub joined : List PenAndBodies
  pub split : started ≡ joined ++ map pen_and_bodies left
  pub each : PensDrew all joined inked
