-- What is shown is a front of what the workers took.
use Rattle.std.proofs.Common.{◌≡◌, ℕ, Bool, true, false, List, [], ◌∷◌, ◌++◌, map, filter, refl, ap, sym, ◌∙◌, subst, append_assoc, append-nil, inl, inr}
use Rattle.std.specs.Prelude.{◌==◌, Result, Ok, Err, OnOk, OnErr}
use Rattle.std.proofs.lemmas.List.{map-append}
use Rattle.std.proofs.lemmas.List.Elements.{filter-append}
use Rattle.srm_slate.specs.declared.taken.Taken.{Taken}
use Rattle.srm_slate.specs.RecordView.{RecordView}
use Rattle.srm_slate.specs.Showing.{IsFront, Passes, ShowsFront, ShowsOneMore, of_slot, SlotsShowFront}

pub front_of_none : IsFront {X = Taken} false [] []
front_of_none = record { front = ([], refl); whole = λ _. refl }

front_lost : (is_lossy : Bool) (shown took : List Taken) (one : Taken) → IsFront is_lossy shown took → IsFront true shown (took ++ one ∷ [])
front_lost is_lossy shown took one f =
    let (rest, e) = f.front in
    record { front = (rest ++ one ∷ [], sym (append_assoc shown rest (one ∷ [])) ∙ ap (λ w. w ++ one ∷ []) e); whole = λ lossless. let k : true ≡ false = lossless in cc }

front_kept : (shown took : List Taken) (one : Taken) → IsFront false shown took → IsFront false (shown ++ one ∷ []) (took ++ one ∷ [])
front_kept shown took one f =
    let same : shown ++ one ∷ [] ≡ took ++ one ∷ [] = ap (λ w. w ++ one ∷ []) (f.whole refl) in
    record { front = ([], append-nil (shown ++ one ∷ []) ∙ same); whole = λ _. same }

pub shows_one_more : {U E : Type 0} (result : Result U E) (one : Taken) (old new : RecordView) → OnOk result (new ≡ record old { taken = old.taken ++ one ∷ [] }) → OnOk result (old.is_lossy ≡ false) → OnErr result (new ≡ record old { is_lossy = true }) → ShowsOneMore one old new
shows_one_more (Ok u) one old new kept was_whole lost = λ took f.
    let before : IsFront false old.taken took = subst (λ l. IsFront l old.taken took) was_whole f in
    subst (λ r. ShowsFront r (took ++ one ∷ [])) (sym kept) (subst (λ l. IsFront l (old.taken ++ one ∷ []) (took ++ one ∷ [])) (sym was_whole) (front_kept old.taken took one before))
shows_one_more (Err e) one old new kept was_whole lost = λ took f. subst (λ r. ShowsFront r (took ++ one ∷ [])) (sym lost) (front_lost old.is_lossy old.taken took one f)

pub passes : {U E : Type 0} (result : Result U E) (one : Taken) (old new : RecordView) → OnOk result (new ≡ record old { taken = old.taken ++ one ∷ [] }) → OnOk result (old.is_lossy ≡ false) → OnErr result (new ≡ record old { is_lossy = true }) → Passes one old new
passes (Ok u) one old new kept was_whole lost = inl (was_whole, kept)
passes (Err e) one old new kept was_whole lost = inr lost

of_slot_append : (slot : ℕ) (xs ys : List Taken) → of_slot slot (xs ++ ys) ≡ of_slot slot xs ++ of_slot slot ys
of_slot_append slot xs ys =
    let p = λ (t : Taken). t.slot == slot in
    ap (map (λ (t : Taken). t.message)) (filter-append p xs ys) ∙ map-append (λ (t : Taken). t.message) (filter p xs) (filter p ys)

pub slots_show : SlotsShowFront
slots_show is_lossy shown took slot f =
    let (rest, e) = f.front in
    record { front = (of_slot slot rest, sym (of_slot_append slot shown rest) ∙ ap (of_slot slot) e); whole = λ lossless. ap (of_slot slot) (f.whole lossless) }
