-- What becomes of a stroke that a browser draws.
use Rattle.std.specs.Prelude.{◌≡◌, ℕ, Bool, List, [], ◌∷◌, ◌++◌, Option, Some, None}
use Rattle.std.specs.Bool.{MatchBool}
use Rattle.srm_names.specs.declared.page.Page.{Page}
use Rattle.srm_pages.specs.Ends.{PenView}
use Rattle.srm_slate.specs.declared.easel.Drawn.{Drawn}
use Rattle.srm_slate.specs.declared.easel.Drawn.TheVariants.{Taken, Full, Over}

-- the stroke with this body on a page, behind what the producer sent
abbrev pub with_stroke : Page → List ℕ → PenView → PenView
with_stroke page body p = record p { sent = p.sent ++ (record { pen = p.number; page = page; body = body }) ∷ [] }

-- A producer that draws a stroke takes it, or is full and stays as it was.
abbrev pub PenDraws : Page → List ℕ → Drawn → PenView → PenView → Type 0
PenDraws page body Taken old new = new ≡ with_stroke page body old
PenDraws page body Full old new = new ≡ old
PenDraws page body Over old new = ⊥

-- A producer that is lent until somebody asks the member to leave.
pub record InkView : Type 0 where
  pub pen : Option PenView
  pub is_leaving : Bool

-- what became of the producer
abbrev pub PenDrawsTo : Page → List ℕ → Drawn → PenView → Option PenView → Type 0
PenDrawsTo page body drawn old None = ⊥
PenDrawsTo page body drawn old (Some new) = PenDraws page body drawn old new

-- With a producer, it draws. Without one each stroke is over, and nothing changes.
abbrev pub InkDrawsBy : Page → List ℕ → Drawn → Option PenView → InkView → InkView → Type 0
InkDrawsBy page body drawn None old new = (drawn ≡ Over) × (new ≡ old)
InkDrawsBy page body drawn (Some pen) old new = PenDrawsTo page body drawn pen new.pen × (new.is_leaving ≡ old.is_leaving)

-- Once the member is to leave each stroke is over, and nothing changes.
abbrev pub InkDraws : Page → List ℕ → Drawn → InkView → InkView → Type 0
InkDraws page body drawn old new = MatchBool old.is_leaving ((drawn ≡ Over) × (new ≡ old)) (InkDrawsBy page body drawn old.pen old new)
