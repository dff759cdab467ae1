-- What a tab was told is a prefix of what was taken.
use Rattle.std.proofs.Common.{◌≡◌, ℕ, List, [], ◌∷◌, ◌++◌, length, ap, sym, subst, ◌∙◌, append_assoc, take, drop, min}
use Rattle.std.proofs.lemmas.List.{take-append-drop, take_min, drop_min}
use Rattle.std.proofs.Math.Seq.{drop-append_seam}
use Rattle.srm_names.specs.Histories.{IsPrefix}
use Rattle.srm_names.proofs.Lists.{front_more}
use Rattle.srm_slate.specs.declared.taken.Taken.{Taken}
use Rattle.srm_slate.specs.Slates.{told_from, StaysPrefix, KeepsPrefix}

part_front : {X : Type 0} (n from : ℕ) (shown taken : List X) → length shown ≡ from → IsPrefix shown taken → IsPrefix (shown ++ take n (drop from taken)) taken
part_front n from shown taken l (rest, e) = (drop n rest, ap (λ w. (shown ++ take n w) ++ drop n rest) same ∙ append_assoc shown (take n rest) (drop n rest) ∙ ap (λ w. shown ++ w) (take-append-drop n rest) ∙ e)
  where
    same : drop from taken ≡ rest
    same = ap (drop from) (sym e) ∙ ap (λ k. drop k (shown ++ rest)) (sym l) ∙ drop-append_seam shown rest

pub keeps_prefix : (from : ℕ) (taken told : List Taken) → told ≡ told_from from taken → KeepsPrefix from taken told
keeps_prefix from taken told e = record { prefix = λ shown l p. subst (λ ts. IsPrefix (shown ++ ts) taken) (sym e) (part_front 100 from shown taken l p) }

pub stays_behind : (taken : List Taken) (message : Taken) → StaysPrefix taken (taken ++ message ∷ [])
stays_behind taken message shown p = front_more shown taken (message ∷ []) p

pub stays_equal : (taken : List Taken) → StaysPrefix taken taken
stays_equal taken shown p = p

pub take_within : {X : Type 0} (n : ℕ) (xs : List X) → take (min n (length xs)) xs ≡ take n xs
take_within n xs = take_min n xs

pub drop_within : {X : Type 0} (n : ℕ) (xs : List X) → drop (min n (length xs)) xs ≡ drop n xs
drop_within n xs = drop_min n xs
