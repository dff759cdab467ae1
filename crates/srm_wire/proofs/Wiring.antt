-- New wires, one after another.
use Rattle.std.proofs.Common.{◌≡◌, ℕ, zero, suc, ◌+◌, List, [], ◌∷◌, ◌++◌, refl, ap, sym, ◌∙◌, inl, inr, add-one}
use Rattle.std.specs.Prelude.{Some, slice_get, drop}
use Rattle.std.proofs.lemmas.List.{length-append}
use Rattle.srm_names.proofs.Lists.{slice_get-snoc}
use Rattle.srm_wire.specs.declared.fates.Fate.{Fate}
use Rattle.srm_wire.specs.Networks.{MemWireView, AreNewWires, NextWire, new_wire_of, fates_of}

-- so many wires were made, and these lists of fates are left
pub record Wiring (me : ℕ) (fates left : List (List Fate)) (wires : List MemWireView) : Type 0 where
  pub wires_are : AreNewWires me fates wires
  pub left_are : left ≡ drop me fates

abbrev front : List (List Fate) → List Fate
front [] = []
front (f ∷ fs) = f

front_is : (fates : List (List Fate)) (me : ℕ) → fates_of fates me ≡ front (drop me fates)
front_is [] zero = refl
front_is [] (suc me) = refl
front_is (f ∷ fs) zero = refl
front_is (f ∷ fs) (suc me) = front_is fs me

rest_is : (fates : List (List Fate)) (me : ℕ) → drop (suc me) fates ≡ drop 1 (drop me fates)
rest_is [] zero = refl
rest_is [] (suc me) = refl
rest_is (f ∷ fs) zero = refl
rest_is (f ∷ fs) (suc me) = rest_is fs me

pub wiring_none : (fates : List (List Fate)) → Wiring 0 fates fates []
wiring_none fates = record { wires_are = record { count = refl; each = λ k w at. none k w at }; left_are = refl }
  where
    none : (k : ℕ) (w : MemWireView) → slice_get [] k ≡ Some w → w ≡ new_wire_of k (fates_of fates k)
    none k w at = cc

pub wiring_more : (me : ℕ) (fates left next : List (List Fate)) (wires : List MemWireView) (w : MemWireView) → Wiring me fates left wires → NextWire me left next w → Wiring (me + 1) fates next (wires ++ w ∷ [])
wiring_more me fates left next wires w h k = record {
  wires_are = record {
    count = length-append wires (w ∷ []) ∙ ap (λ n. n + 1) h.wires_are.count;
    each = λ i v at. elim (slice_get-snoc wires w i v at) [
      | inl old ↦ h.wires_are.each i v old
      | inr (last, is) ↦ sym is ∙ new ∙ ap (λ n. new_wire_of n (fates_of fates n)) (sym (last ∙ h.wires_are.count))
    ];
  };
  left_are = (step left k).0 ∙ ap (drop 1) h.left_are ∙ sym (rest_is fates me) ∙ ap (λ n. drop n fates) (sym (add-one me));
}
  where
    step : (ls : List (List Fate)) → NextWire me ls next w → (next ≡ drop 1 ls) × (w ≡ new_wire_of me (front ls))
    step [] k = k
    step (f ∷ fs) k = k

    new : w ≡ new_wire_of me (fates_of fates me)
    new = (step left k).1 ∙ ap (λ ls. new_wire_of me (front ls)) h.left_are ∙ ap (new_wire_of me) (sym (front_is fates me))
