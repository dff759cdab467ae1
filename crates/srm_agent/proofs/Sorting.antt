-- Sorting the pages that have slots puts each into order once.
use Rattle.std.proofs.Common.{◌≡◌, ◌≤◌, Bool, true, false, not, List, [], ◌∷◌, length, refl, ap, sym, ◌∙◌, subst, arith}
use Rattle.std.specs.Prelude.{filter, cond}
use Rattle.std.specs.List.Sorted.{IsPermutation, IsSorted}
use Rattle.std.proofs.lemmas.List.Sorted.{list_any-IsPermutation, length_permutation}
use Rattle.std.proofs.lemmas.Bool.Decides.{nat_tests}
use Rattle.srm_names.specs.declared.page.Page.{Page}
use Rattle.srm_names.specs.Histories.{firsts}
use Rattle.srm_names.specs.Names.{same_page, page_below}
use Rattle.srm_names.proofs.Same.{same_page-is, same_page-itself}
use Rattle.srm_deadlines.specs.Agenda.{page_order}
use Rattle.srm_deadlines.proofs.Agendas.{same_count}
use Rattle.srm_deadlines.proofs.Dues.{fewer, rise_by}
use Rattle.srm_deadlines.proofs.Orders.{page_lt_is}
use Rattle.srm_store.specs.PageTables.{IsPageTable}
use Rattle.srm_store.proofs.Pages.{firsts_each_once}
use Rattle.srm_agent.specs.SessionMessages.{AreInOrder}

-- each page stands once
abbrev EachOnce : List Page → Type 0
EachOnce pages = (p : Page) → length (filter (same_page p) pages) ≤ 1

-- of two pages that aren't the same, one is below the other
below_or : (a b : Page) → same_page a b ≡ false → page_below b a ≡ false → page_below a b ≡ true
below_or a b e f = grind (arith, nat_tests)

none_again : (p q : Page) (pages : List Page) → same_page p q ≡ true → filter (same_page p) (filter (λ y. not (same_page q y)) pages) ≡ []
none_again p q [] e = refl
none_again p q (x ∷ pages) e = go (same_page q x) refl (none_again p q pages e)
  where
    go : (b : Bool) → same_page q x ≡ b → filter (same_page p) (filter (λ y. not (same_page q y)) pages) ≡ [] → filter (same_page p) (cond (not b) (x ∷ filter (λ y. not (same_page q y)) pages) (filter (λ y. not (same_page q y)) pages)) ≡ []
    go true f more = more
    go false f more = ap (λ c. cond c (x ∷ filter (same_page p) (filter (λ y. not (same_page q y)) pages)) (filter (same_page p) (filter (λ y. not (same_page q y)) pages))) (ap (λ r. same_page r x) (same_page-is p q e) ∙ f)
        ∙ more

firsts_once : (pages : List Page) → EachOnce (firsts same_page pages)
firsts_once [] p = omega arith
firsts_once (q ∷ pages) p = go (same_page p q) refl (firsts_once pages p)
  where
    go : (b : Bool) → same_page p q ≡ b → length (filter (same_page p) (firsts same_page pages)) ≤ 1 → length (cond b (q ∷ filter (same_page p) (filter (λ y. not (same_page q y)) (firsts same_page pages))) (filter (same_page p) (filter (λ y. not (same_page q y)) (firsts same_page pages)))) ≤ 1
    go true e more = let k : length (filter (same_page p) (filter (λ y. not (same_page q y)) (firsts same_page pages))) ≡ 0 = ap length (none_again p q (firsts same_page pages) e) in omega arith
    go false e more = let l = fewer (same_page p) (λ y. not (same_page q y)) (firsts same_page pages) in omega arith

once_moved : (pages sorted : List Page) → IsPermutation pages sorted → EachOnce pages → EachOnce sorted
once_moved pages sorted moved once p = let k = same_count (same_page p) pages sorted moved in let l = once p in omega arith

pub sorted_pages : (pages sorted : List Page) → IsPageTable pages → IsPermutation pages sorted → IsSorted page_order sorted → AreInOrder pages sorted
sorted_pages pages sorted table moved in_order = record {
  in_order = rise_by page_order page_below same_page page_lt_is below_or same_page-itself sorted in_order (once_moved pages sorted moved (subst EachOnce (firsts_each_once pages table.once) (firsts_once pages)));
  exact = λ p. sym (list_any-IsPermutation (same_page p) pages sorted moved);
  few = let k = length_permutation pages sorted moved in let l = table.few in omega arith;
}
