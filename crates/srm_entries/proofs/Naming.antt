-- The next page of a member.
use Rattle.std.proofs.Common.{◌≡◌, ℕ, ◌+◌, ◌==◌, max, Bool, true, false, List, [], ◌∷◌, ◌++◌, map, refl, ap, ◌∙◌, arith}
use Rattle.std.specs.Prelude.{filter, cond, if◌then◌else◌}
use Rattle.std.proofs.lemmas.List.{map-append}
use Rattle.std.proofs.lemmas.List.Elements.{filter-append}
use Rattle.srm_names.specs.declared.page.Page.{Page}
use Rattle.srm_names.specs.Histories.{greatest}
use Rattle.srm_entries.specs.Promises.{next_number}
use Rattle.srm_names.proofs.Lists.{greatest-append}

pub next_number-snoc : (me : ℕ) (pages : List Page) (p : Page) → next_number me (pages ++ p ∷ []) ≡ max (next_number me pages) (if p.creator == me then p.number + 1 else 0)
next_number-snoc me pages p =
    ap (λ ps. greatest (map (λ (x : Page). x.number + 1) ps)) (filter-append (λ (x : Page). x.creator == me) pages (p ∷ []))
    ∙ ap greatest (map-append (λ (x : Page). x.number + 1) (filter (λ (x : Page). x.creator == me) pages) (cond (p.creator == me) (p ∷ []) []))
    ∙ greatest-append (map (λ (x : Page). x.number + 1) (filter (λ (x : Page). x.creator == me) pages)) (map (λ (x : Page). x.number + 1) (cond (p.creator == me) (p ∷ []) []))
    ∙ ap (max (next_number me pages)) (one (p.creator == me))
  where
    one : (c : Bool) → greatest (map (λ (x : Page). x.number + 1) (cond c (p ∷ []) [])) ≡ (if c then p.number + 1 else 0)
    one true = omega arith
    one false = refl
