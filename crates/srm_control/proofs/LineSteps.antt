-- Each step keeps the rule of a line.
use Rattle.std.proofs.Common.{◌≡◌, ◌≢◌, ℕ, true, false, true≢false, List, [], ◌∷◌, ◌++◌, length, set, sym, refl, ap, ◌∙◌, ⊎_elim, append_assoc}
use mathlib.Core.Option.{some}
use lib.ListN.{get_elem?}
use Rattle.crossbeam_channel.specs.Fifo.{Pushes, Pops, Forks, Merges}
use Rattle.atomic_table.proofs.Lists.{at_set}
use Rattle.srm_pages.proofs.Views.{All, all_set, all_one, snoc_cases}
use Rattle.srm_control.specs.declared.line.LineView.{LineView}
use Rattle.srm_control.specs.Line.{line_view, FitsLine, IsLineState, Puts, Takes}

pub begins : {T : Type 0} → IsLineState {T = T} [] (line_view true true [] [] ∷ [])
begins {T} = (0, 0, [], [], refl, all_one (FitsLine {T = T} 0 0 [] []) (line_view true true [] []) ((λ _. (refl, refl)), λ _. (refl, refl)))

pub puts : {T : Type 0} (n id : ℕ) (v : LineView T) (x : T) → v.puts ≡ true → Pushes IsLineState n id v x (Puts v x)
puts {T} n id v x may items views _ h at = let w : LineView T = line_view v.puts v.takes (v.put ++ x ∷ []) v.taken in let mine = h.5 id v at in (
  w,
  (
    h.0,
    h.1,
    h.2 ++ x ∷ [],
    h.3,
    ap (λ l. l ++ x ∷ []) h.4 ∙ append_assoc h.3 items (x ∷ []),
    all_set (FitsLine h.0 h.1 (h.2 ++ x ∷ []) h.3) views id w ((λ _. ((mine.0 may).0, ap (λ l. l ++ x ∷ []) (mine.0 may).1)), mine.1)
        (λ j u other e. ((λ p. absurd (other (((h.5 j u e).0 p).0 ∙ sym (mine.0 may).0))), (h.5 j u e).1)),
  ),
  refl,
)

pub takes : {T : Type 0} (id : ℕ) (v : LineView T) → v.takes ≡ true → Pops IsLineState id v (Takes v)
takes {T} id v may x items views h at = let w : LineView T = line_view v.puts v.takes v.put (v.taken ++ x ∷ []) in let mine = h.5 id v at in (
  w,
  (
    h.0,
    h.1,
    h.2,
    h.3 ++ x ∷ [],
    h.4 ∙ sym (append_assoc h.3 (x ∷ []) items),
    all_set (FitsLine h.0 h.1 h.2 (h.3 ++ x ∷ [])) views id w (mine.0, λ _. ((mine.1 may).0, ap (λ l. l ++ x ∷ []) (mine.1 may).1))
        (λ j u other e. ((h.5 j u e).0, λ p. absurd (other (((h.5 j u e).1 p).0 ∙ sym (mine.1 may).0)))),
  ),
  refl,
)

pub forks : {T : Type 0} (id : ℕ) (v : LineView T) → v.puts ≡ true → v.takes ≡ true → Forks IsLineState id v (line_view true false v.put []) (line_view false true [] v.taken)
forks {T} id v a b items views h at = let l : LineView T = line_view true false v.put [] in let r : LineView T = line_view false true [] v.taken in let mine = h.5 id v at in let vs : List (LineView T) = set views id l in
    let Old : ℕ → LineView T → Type 0 = λ j u. (u.puts ≡ true → (j ≡ h.0) × (u.put ≡ h.2)) × (u.takes ≢ true) in
    let old : All Old vs = all_set Old views id l ((λ _. mine.0 a), λ p. true≢false (sym p)) (λ j u other e. ((h.5 j u e).0, λ p. other (((h.5 j u e).1 p).0 ∙ sym (mine.1 b).0))) in (
      h.0,
      length vs,
      h.2,
      h.3,
      h.4,
      λ j u e. ⊎_elim
          (λ x. ((old j u x).0, λ p. absurd ((old j u x).1 p)))
          (λ (is : (j ≡ length vs) × (r ≡ u)). ((λ p. absurd (true≢false (sym (ap (λ (y : LineView T). y.puts) is.1 ∙ p)))), λ p. (is.0, ap (λ (y : LineView T). y.taken) (sym is.1) ∙ (mine.1 b).1)))
          (snoc_cases vs r u j e),
    )

pub merges : {T : Type 0} (id : ℕ) (v : LineView T) (other : ℕ) (u : LineView T) → v.puts ≡ true → u.takes ≡ true → Merges IsLineState id v other u (line_view true true v.put u.taken) (line_view false false [] [])
merges {T} id v other u a b items views h at two at' = let both : LineView T = line_view true true v.put u.taken in let mine = h.5 id v at in let vs : List (LineView T) = set views id both in
    let was : get_elem? views other ≡ some u = ⊎_elim (λ x. absurd (two x.0)) (λ x. x.1) (at_set views id other both u at') in let theirs = (h.5 other u was).1 b in
    let Now : ℕ → LineView T → Type 0 = λ j y. j ≢ other → FitsLine h.0 id h.2 h.3 j y in
    let now : All Now vs = all_set Now views id both (λ _. ((λ _. mine.0 a), λ _. (refl, theirs.1))) (λ j y _ e apart. ((h.5 j y e).0, λ p. absurd (apart (((h.5 j y e).1 p).0 ∙ sym theirs.0)))) in
    (h.0, id, h.2, h.3, h.4, all_set (FitsLine h.0 id h.2 h.3) vs other (line_view false false [] []) ((λ p. absurd (true≢false (sym p))), λ p. absurd (true≢false (sym p))) (λ j y apart e. now j y e apart))
