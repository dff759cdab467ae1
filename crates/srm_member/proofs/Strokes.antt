-- What a producer sends, body by body.
use Rattle.std.proofs.Common.{◌≡◌, ℕ, Bool, true, false, List, [], ◌∷◌, ◌++◌, refl, sym, ap, ◌∙◌, subst}
use Rattle.std.specs.Prelude.{map}
use Rattle.std.proofs.lemmas.List.{append-nil, append_assoc, map-append}
use Rattle.srm_pages.specs.Ends.{PenView}
use Rattle.srm_member.specs.Strokes.{PenSent, PenSentAllBut, stroke_of}

pub drew_none : (bodies : List (List ℕ)) (pen : PenView) → PenSentAllBut bodies bodies pen pen
drew_none bodies pen = record { sent = []; split = refl; is = ap (λ sent. record pen { sent = sent }) (sym (append-nil pen.sent)) }

pub drew_more : (bodies left : List (List ℕ)) (body : List ℕ) (old new : PenView) → PenSentAllBut bodies (body ∷ left) old new
    → PenSentAllBut bodies left old (record new { sent = new.sent ++ stroke_of new.number body ∷ [] })
drew_more bodies left body old new drew = rw drew.is (record {
  sent = drew.sent ++ body ∷ [];
  split = drew.split ∙ sym (append_assoc drew.sent (body ∷ []) left);
  is = ap (λ sent. record old { sent = sent }) (grown (stroke_of old.number) old.sent drew.sent body);
})
  where
    grown : {X : Type 0} (f : List ℕ → X) (before : List X) (sent : List (List ℕ)) (last : List ℕ) → before ++ map f sent ++ f last ∷ [] ≡ before ++ map f (sent ++ last ∷ [])
    grown f before sent last = append_assoc before (map f sent) (f last ∷ []) ∙ ap (λ more. before ++ more) (sym (map-append f sent (last ∷ [])))

-- where the node ended before, these were left
pub drew_some : (bodies left : List (List ℕ)) (old new done : PenView) (all : Bool) → PenSentAllBut bodies left old new → done ≡ new → all ≡ false → PenSent all bodies old done
drew_some bodies left old new done all drew is none = (left, (λ yes. absurd cc), subst (PenSentAllBut bodies left old) (sym is) drew)

-- else none was
pub drew_all : (bodies left : List (List ℕ)) (old new done : PenView) (all : Bool) → PenSentAllBut bodies left old new → left ≡ [] → done ≡ new → PenSent all bodies old done
drew_all bodies left old new done all drew none is = (left, (λ yes. none), subst (PenSentAllBut bodies left old) (sym is) drew)
