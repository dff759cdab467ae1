-- What was released stays so: one more entry adds to it at its end.
use Rattle.std.proofs.Common.{◌≡◌, ℕ, zero, suc, ◌+◌, ◌≤◌, List, [], ◌∷◌, ◌++◌, map, refl, ap, ◌∙◌, arith}
use Rattle.std.specs.Prelude.{Option, Some, None, find}
use Rattle.std.specs.List.{flat_map}
use Rattle.std.proofs.lemmas.List.{map-append}
use Rattle.std.proofs.lemmas.List.Folds.{find-append}
use Rattle.std.proofs.lemmas.Grind.{flat_map-append}
use Rattle.srm_names.specs.declared.drawop.Drawop.{Drawop}
use Rattle.srm_names.specs.declared.stream.Stream.{Stream}
use Rattle.srm_names.specs.FullName.{FullName}
use Rattle.srm_names.specs.Histories.{IsPrefix, or_else, count_up, until_none, greatest}
use Rattle.srm_names.specs.Names.{named}
use Rattle.srm_entries.specs.declared.entry.Entry.{Entry}
use Rattle.srm_store.specs.Held.{has_name, number_in, greatest_in}
use Rattle.srm_entries.specs.Entries.{held, held_by, held_at, released}
use Rattle.srm_names.proofs.Lists.{greatest-append}

grows_at : (f g : ℕ → Option Drawop) (from : ℕ) (xs ys : List (Option Drawop)) (o : Option Drawop) → f from ≡ o → ((d : Drawop) → f from ≡ Some d → g from ≡ Some d)
    → IsPrefix (until_none xs) (until_none ys) → IsPrefix (until_none (f from ∷ xs)) (until_none (g from ∷ ys))
grows_at f g from xs ys None e keeps more = rw e (until_none (g from ∷ ys), refl)
grows_at f g from xs ys (Some d) e keeps more = rw (e, keeps d e) (more.0, ap (λ zs. d ∷ zs) more.1)

grows : (f g : ℕ → Option Drawop) → ((n : ℕ) (d : Drawop) → f n ≡ Some d → g n ≡ Some d) → (from few many : ℕ) → few ≤ many
    → IsPrefix (until_none (map f (count_up from few))) (until_none (map g (count_up from many)))
grows f g keeps from zero many l = (until_none (map g (count_up from many)), refl)
grows f g keeps from (suc few) zero l = absurd (omega arith)
grows f g keeps from (suc few) (suc many) l =
    grows_at f g from (map f (count_up (from + 1) few)) (map g (count_up (from + 1) many)) (f from) refl (keeps from) (grows f g keeps (from + 1) few many (omega arith))

pub held_at-snoc : (es : List Entry) (e : Entry) (n : FullName) → held_at (es ++ e ∷ []) n ≡ or_else (held_at es n) (held_at (e ∷ []) n)
held_at-snoc es e n = ap (find (has_name n)) (flat_map-append held_by es (e ∷ [])) ∙ find-append (has_name n) (held es) (held (e ∷ []))

-- the first drawop that is held under a name stays
pub held_at-stays : (es : List Entry) (e : Entry) (n : FullName) (d : Drawop) → held_at es n ≡ Some d → held_at (es ++ e ∷ []) n ≡ Some d
held_at-stays es e n d h = held_at-snoc es e n ∙ rw h refl

-- the greatest number of the stream that is held grows
held_numbers-grow : (es : List Entry) (e : Entry) (s : Stream) → greatest_in (map (λ (d : Drawop). d.name) (held es)) s ≤ greatest_in (map (λ (d : Drawop). d.name) (held (es ++ e ∷ []))) s
held_numbers-grow es e s = rw (
    ap (λ ds. greatest_in (map (λ (d : Drawop). d.name) ds) s) (flat_map-append held_by es (e ∷ []))
    ∙ ap (λ ns. greatest_in ns s) (map-append (λ (d : Drawop). d.name) (held es) (held (e ∷ [])))
    ∙ ap greatest (flat_map-append (number_in s) (map (λ (d : Drawop). d.name) (held es)) (map (λ (d : Drawop). d.name) (held (e ∷ []))))
    ∙ greatest-append (flat_map (number_in s) (map (λ (d : Drawop). d.name) (held es))) (flat_map (number_in s) (map (λ (d : Drawop). d.name) (held (e ∷ []))))
    ) (omega arith)

pub released-grows : (es : List Entry) (e : Entry) (s : Stream) → IsPrefix (released es s) (released (es ++ e ∷ []) s)
released-grows es e s =
    grows (λ k. held_at es (named s k)) (λ k. held_at (es ++ e ∷ []) (named s k)) (λ k d h. held_at-stays es e (named s k) d h) 1
    (greatest_in (map (λ (d : Drawop). d.name) (held es)) s) (greatest_in (map (λ (d : Drawop). d.name) (held (es ++ e ∷ []))) s) (held_numbers-grow es e s)
