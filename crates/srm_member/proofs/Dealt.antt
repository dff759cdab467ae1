-- Lines that are dealt one after another.
use Rattle.std.proofs.Common.{◌≡◌, ◌≢◌, ℕ, zero, suc, ◌+◌, ◌-◌, ◌<◌, Bool, true, false, List, [], ◌∷◌, ◌++◌, length, map, refl, ap, sym, ◌∙◌, subst, arith, append_assoc, eq-eqb, get_or}
use Rattle.std.specs.Prelude.{◌==◌, nat_lt, slice_get, slice_set, Option, option_map, Some, None, unwrap_or, if◌then◌else◌}
use Rattle.std.proofs.lemmas.List.{append-nil, map-set, length-set}
use Rattle.std.proofs.lemmas.Bool.{eqb-true}
use Rattle.std.proofs.lemmas.Bool.Decides.{nat_tests}
use Rattle.std.proofs.lemmas.Option.{same_Some, slice_get_within, slice_get-map, slice_get_read}
use Rattle.memchr.specs.Find.{IsFirstByte, is_byte}
use Rattle.srm_names.specs.declared.limits.TheConstants.{PENS}
use Rattle.srm_names.proofs.Lists.{get_set_same, set_elsewhere}
use Rattle.srm_member.specs.Lines.{each_fourth, dealt_of, AddsTo, IsLineEnd}

-- how many lines are dealt to others before the next of this producer's, where it is that producer's turn
abbrev pub others_before : ℕ → ℕ → ℕ
others_before turn pen = if nat_lt pen turn then pen + PENS - turn else pen - turn

-- Of these lines all but those that are left were dealt to the producers in turn, and the next is this producer's.
pub record DealtSo (lines left : List (List ℕ)) (turn : ℕ) (dealt : List (List (List ℕ))) : Type 0 where
  pub pens : length dealt ≡ PENS
  pub turn_is : turn < PENS
  pub each : (pen : ℕ) (bodies : List (List ℕ)) → slice_get dealt pen ≡ Some bodies → each_fourth pen lines ≡ bodies ++ each_fourth (others_before turn pen) left

-- what is found is where the first line ends
pub found : (text : List ℕ) (at : Option ℕ) → IsFirstByte (is_byte 10) text at → IsLineEnd text (unwrap_or at (length text))
found text None h = record { within = omega arith; before = λ k few e. h k (omega arith) few (eq-eqb _ _ e); there = λ few. absurd (omega arith) }
found text (Some n) h = record {
  within = omega (arith, h.0.high);
  before = λ k few e. h.0.before k (omega arith) few (eq-eqb _ _ e);
  there = λ few. eqb-true _ _ h.1;
}

-- none is dealt yet
pub dealt_none : (lines : List (List ℕ)) (dealt : List (List (List ℕ))) → dealt ≡ [] ∷ [] ∷ [] ∷ [] ∷ [] → DealtSo lines lines 0 dealt
dealt_none lines dealt is = rw is (record { pens = refl; turn_is = omega arith; each = none })
  where
    none : (pen : ℕ) (bodies : List (List ℕ)) → slice_get ([] ∷ [] ∷ [] ∷ [] ∷ []) pen ≡ Some bodies → each_fourth pen lines ≡ bodies ++ each_fourth (others_before 0 pen) lines
    none zero bodies at = ap (λ bs. bs ++ each_fourth 0 lines) (same_Some [] bodies at)
    none (suc zero) bodies at = ap (λ bs. bs ++ each_fourth 1 lines) (same_Some [] bodies at)
    none (suc (suc zero)) bodies at = ap (λ bs. bs ++ each_fourth 2 lines) (same_Some [] bodies at)
    none (suc (suc (suc zero))) bodies at = ap (λ bs. bs ++ each_fourth 3 lines) (same_Some [] bodies at)
    none (suc (suc (suc (suc k)))) bodies at = cc

-- whose turn it is after this producer
abbrev pub after : ℕ → ℕ
after pen = if pen + 1 == PENS then 0 else pen + 1

after_itself : (turn : ℕ) → turn < PENS → others_before (after turn) turn ≡ PENS - 1
after_itself turn h = grind (arith, nat_tests)

after_other : (turn pen : ℕ) → turn < PENS → pen < PENS → pen ≢ turn → others_before turn pen ≡ suc (others_before (after turn) pen)
after_other turn pen h k other = grind (arith, nat_tests)

module _ {V : Type 0} (f : V → List (List ℕ)) where
  -- a list that is read at its place, with a body more
  pub adds_to : (pen : ℕ) (body : List ℕ) (vs : List V) (v w : V) → pen < length vs → v ≡ get_or vs pen v → f w ≡ f v ++ body ∷ [] → AddsTo pen body (map f vs) (map f (slice_set vs pen w))
  adds_to pen body vs v w below is grew = (
    f v,
    slice_get-map f vs pen ∙ ap (option_map f) (slice_get_read vs (length vs) pen v refl below is),
    map-set f vs pen w ∙ ap (slice_set (map f vs) pen) grew,
  )

-- THE NEXT LINE

turn_passes : (l : List ℕ) (ls lines : List (List ℕ)) (turn pen : ℕ) (dealt now : List (List (List ℕ))) (bodies : List (List ℕ)) → DealtSo lines (l ∷ ls) turn dealt → AddsTo turn l dealt now → slice_get now pen ≡ Some bodies → (same : Bool) → (pen == turn) ≡ same
    → each_fourth pen lines ≡ bodies ++ each_fourth (others_before (after turn) pen) ls
turn_passes l ls lines turn pen dealt now bodies h (held, at_turn, added) at true is =
    let e : pen ≡ turn = eqb-true pen turn is in
    let here : slice_get (slice_set dealt turn (held ++ l ∷ [])) turn ≡ Some (held ++ l ∷ []) = get_set_same dealt turn held (held ++ l ∷ []) at_turn in
    let bodies_are : held ++ l ∷ [] ≡ bodies = same_Some _ _ (sym here ∙ ap (λ xs. slice_get xs turn) (sym added) ∙ ap (slice_get now) (sym e) ∙ at) in
    let was : each_fourth turn lines ≡ held ++ each_fourth (others_before turn turn) (l ∷ ls) = h.each turn held at_turn in
    let none : others_before turn turn ≡ 0 = grind (arith, nat_tests) in
    ap (λ p. each_fourth p lines) e ∙ was ∙ ap (λ n. held ++ each_fourth n (l ∷ ls)) none
    ∙ sym (append_assoc held (l ∷ []) (each_fourth (PENS - 1) ls))
    ∙ ap (λ bs. bs ++ each_fourth (PENS - 1) ls) bodies_are
    ∙ ap (λ n. bodies ++ each_fourth n ls) (sym (after_itself turn h.turn_is) ∙ ap (others_before (after turn)) (sym e))
turn_passes l ls lines turn pen dealt now bodies h (held, at_turn, added) at false is =
    let other : pen ≢ turn = λ e. absurd (cc (eq-eqb pen turn e)) in
    let at_before : slice_get dealt pen ≡ Some bodies = sym (set_elsewhere dealt turn pen (held ++ l ∷ []) other) ∙ ap (λ xs. slice_get xs pen) (sym added) ∙ at in
    let below : pen < PENS = omega (arith, h.pens, slice_get_within dealt pen bodies at_before) in
    h.each pen bodies at_before ∙ ap (λ n. bodies ++ each_fourth n (l ∷ ls)) (after_other turn pen h.turn_is below other)

pub dealt_more : (l : List ℕ) (left ls lines : List (List ℕ)) (turn next : ℕ) (dealt now : List (List (List ℕ))) → DealtSo lines left turn dealt → left ≡ l ∷ ls → AddsTo turn l dealt now → next ≡ after turn → DealtSo lines ls next now
dealt_more l left ls lines turn next dealt now h left_is adds next_is =
    rw next_is (record {
      pens = ap length adds.2 ∙ length-set dealt turn (adds.0 ++ l ∷ []) ∙ h.pens;
      turn_is = below turn h.turn_is;
      each = λ pen bodies at. turn_passes l ls lines turn pen dealt now bodies (subst (λ ls. DealtSo lines ls turn dealt) left_is h) adds at (pen == turn) refl;
    })
  where
    below : (turn : ℕ) → turn < PENS → after turn < PENS
    below turn h = grind (arith, nat_tests)

-- no line is left
pub dealt_all : (lines left : List (List ℕ)) (turn : ℕ) (dealt : List (List (List ℕ))) → DealtSo lines left turn dealt → left ≡ [] → dealt ≡ dealt_of lines
dealt_all lines left turn dealt h none = go dealt h.pens (λ pen bodies at. h.each pen bodies at ∙ ap (λ ls. bodies ++ each_fourth (others_before turn pen) ls) none ∙ append-nil bodies)
  where
    go : (dealt : List (List (List ℕ))) → length dealt ≡ PENS → ((pen : ℕ) (bodies : List (List ℕ)) → slice_get dealt pen ≡ Some bodies → each_fourth pen lines ≡ bodies) → dealt ≡ dealt_of lines
    go [] n each = absurd (omega (arith, n))
    go (a ∷ []) n each = absurd (omega (arith, n))
    go (a ∷ b ∷ []) n each = absurd (omega (arith, n))
    go (a ∷ b ∷ c ∷ []) n each = absurd (omega (arith, n))
    go (a ∷ b ∷ c ∷ d ∷ []) n each = sym (rw (each 0 a refl, each 1 b refl, each 2 c refl, each 3 d refl) refl)
    go (a ∷ b ∷ c ∷ d ∷ e ∷ more) n each = absurd (omega (arith, n))
