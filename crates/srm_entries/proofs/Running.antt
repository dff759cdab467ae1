-- A run with one more entry.
use Rattle.std.proofs.Common.{◌≡◌, ℕ, max, List, [], ◌∷◌, ◌++◌, refl, ap, sym, ◌∙◌, subst}
use Rattle.std.specs.Prelude.{Option, Some, None, unwrap_or}
use Rattle.std.specs.List.{flat_map, AllByRecursion}
use Rattle.std.proofs.lemmas.List.{append-nil}
use Rattle.srm_names.specs.declared.page.Page.{Page}
use Rattle.srm_names.specs.Histories.{Step, steps, or_else, last_of, greatest, firsts}
use Rattle.srm_names.specs.Names.{first_page, same_page}
use Rattle.srm_names.proofs.Snoc.{steps-snoc, last_of-snoc, flat_map-snoc}
use Rattle.srm_entries.specs.declared.entry.Entry.{Entry}
use Rattle.srm_entries.specs.Entries.{done, pages_in, slots, page_shown, shown, moments_counted, last_moment}
use Rattle.srm_names.proofs.Lists.{AllByRecursion-snoc, greatest-append}

-- what holds at each step, and at one more
pub steps_more : {X : Type 0} (R : Step X → Type 0) (xs : List X) (x : X) → AllByRecursion R (steps xs) → R (record { before = xs; this = x }) → AllByRecursion R (steps (xs ++ x ∷ []))
steps_more R xs x all right = subst (λ w. AllByRecursion R w) (sym (steps-snoc xs x)) (AllByRecursion-snoc R (steps xs) (record { before = xs; this = x }) all right)

pub last_moment-snoc : (made : ℕ) (past : List Entry) (e : Entry) → last_moment made (past ++ e ∷ []) ≡ max (last_moment made past) (greatest (moments_counted e.verdict e))
last_moment-snoc made past e =
    ap (λ ns. greatest (made ∷ ns)) (flat_map-snoc (λ (x : Entry). moments_counted x.verdict x) past e)
    ∙ greatest-append (made ∷ flat_map (λ (x : Entry). moments_counted x.verdict x) past) (moments_counted e.verdict e)

pub shown-page-snoc : (past : List Entry) (e : Entry) → shown (past ++ e ∷ []) ≡ unwrap_or (page_shown (done e)) (shown past)
shown-page-snoc past e = ap (λ o. unwrap_or o first_page) (last_of-snoc (λ (x : Entry). page_shown (done x)) past e) ∙ go (page_shown (done e)) (last_of (λ (x : Entry). page_shown (done x)) past)
  where
    go : (a b : Option Page) → unwrap_or (or_else a b) first_page ≡ unwrap_or a (unwrap_or b first_page)
    go None b = refl
    go (Some p) b = refl

pub slots-same : (past : List Entry) (e : Entry) → pages_in (done e) ≡ [] → slots (past ++ e ∷ []) ≡ slots past
slots-same past e none =
    ap (λ ps. firsts same_page (first_page ∷ ps)) (flat_map-snoc (λ (x : Entry). pages_in (done x)) past e ∙ ap (λ ps. flat_map (λ (x : Entry). pages_in (done x)) past ++ ps) none ∙ append-nil _)
