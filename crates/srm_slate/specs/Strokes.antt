-- What a line says that a tab draws, and what becomes of it.
use Rattle.std.specs.Prelude.{◌≡◌, ℕ, ◌+◌, ◌<◌, ◌≤◌, ◌⊎◌, List, ◌∷◌, ◌++◌, length}
use Rattle.std.specs.Str.Parse.{IsNumeral, digits_value, without_leading_plus}
use Rattle.srm_names.specs.declared.limits.TheConstants.{LONGEST_BODY}
use Rattle.srm_names.specs.declared.page.Page.{Page}
use Rattle.srm_slate.specs.declared.easel.Drawn.{Drawn}
use Rattle.srm_slate.specs.declared.easel.Drawn.TheVariants as was
use Rattle.srm_slate.specs.declared.strokes.End.{End}
use Rattle.srm_slate.specs.declared.strokes.End.TheVariants.{All, Full, Over, Bad, Ahead}
use Rattle.srm_slate.specs.Hands.{HandView, after_drawn, after_passed}

-- a number in decimal digits, behind a plus if there is one
pub record SaysNumber (text : List ℕ) (number : ℕ) : Type 0 where
  pub digits : IsNumeral 10 (without_leading_plus text)
  pub value : number ≡ digits_value 10 (without_leading_plus text)

-- the number of its creator, a dot, and its own number
pub record SaysPage (text : List ℕ) (page : Page) : Type 0 where
  pub creator : List ℕ
  pub number : List ℕ
  pub split : text ≡ creator ++ 46 ∷ number
  pub creator_is : SaysNumber creator page.creator
  pub number_is : SaysNumber number page.number

-- a page, a space, and a body
pub record SaysStroke (line : List ℕ) (page : Page) (body : List ℕ) : Type 0 where
  pub head : List ℕ
  pub split : line ≡ head ++ 32 ∷ body
  pub page_is : SaysPage head page
  pub short : length body ≤ LONGEST_BODY

-- The line is the next one, the member was handed the stroke that it says, once, and this became of it.
pub record IsDrawn {E : Type 0} (Draws : E → Page → List ℕ → Drawn → E → Type 0) (number : ℕ) (line : List ℕ) (drawn : Drawn) (easel : E) (old : HandView) (easel_then : E) (new : HandView) : Type 0 where
  pub page : Page
  pub body : List ℕ
  pub says : SaysStroke line page body
  pub draws : Draws easel page body drawn easel_then
  pub next : number ≡ old.settled + 1
  pub after : new ≡ after_drawn number page body drawn old

-- What became of a line with a number: it was settled before, it was drawn as the next one, it is no stroke and was passed, or one before it is missing.
abbrev pub LineEnds : {E : Type 0} → (E → Page → List ℕ → Drawn → E → Type 0) → ℕ → List ℕ → E → HandView → End → E → HandView → Type 0
LineEnds Draws number line easel old All easel_then new = ((number ≤ old.settled) × ((easel_then ≡ easel) × (new ≡ old))) ⊎ IsDrawn Draws number line was.Taken easel old easel_then new
LineEnds Draws number line easel old Full easel_then new = IsDrawn Draws number line was.Full easel old easel_then new
LineEnds Draws number line easel old Over easel_then new = IsDrawn Draws number line was.Over easel old easel_then new
LineEnds Draws number line easel old Bad easel_then new = (number ≡ old.settled + 1) × ((easel_then ≡ easel) × (new ≡ after_passed number old))
LineEnds Draws number line easel old Ahead easel_then new = (old.settled + 1 < number) × ((easel_then ≡ easel) × (new ≡ old))
