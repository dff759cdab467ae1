-- What a store that fits answers.
use Rattle.std.proofs.Common.{◌≡◌, ◌≢◌, ℕ, zero, suc, ◌+◌, ◌-◌, ◌<◌, ◌≤◌, ◌⊎◌, List, [], ◌∷◌, ◌++◌, Option, Some, None, Bool, true, false, not, length, refl, sym, ap, ◌∙◌, subst, arith, inl, inr}
use Rattle.std.specs.Prelude.{IsSome, is_some, map, cond, if◌then◌else◌}
use Rattle.std.specs.List.{flat_map}
use Rattle.std.proofs.lemmas.Bool.{cases_eq, false≢true}
use Rattle.srm_names.specs.declared.limits.TheConstants.{MEMBERS}
use Rattle.srm_names.specs.declared.stream.Stream.{Stream}
use Rattle.srm_names.specs.declared.drawop.Drawop.{Drawop}
use Rattle.srm_names.specs.FullName.{FullName}
use Rattle.srm_names.specs.Histories.{greatest, count_up, until_none}
use Rattle.srm_names.specs.Names.{same_name, named}
use Rattle.srm_names.proofs.Same.{same_name-is, same_stream-itself}
use Rattle.srm_names.proofs.Lists.{any_found, greatest-append}
use Rattle.srm_store.specs.Held.{has_name, held_at, is_held, number_in, greatest_in, known, unheld, names_after, missing, newly_missing, released}
use Rattle.srm_store.specs.Finals.{Settling}
use Rattle.srm_store.specs.Places.{place_at, FilledTo}
use Rattle.srm_store.specs.StreamPlaces.{StreamContent, unheld_in_stream}
use Rattle.srm_store.specs.Tables.{TableContent, places_of_stream}
use Rattle.srm_store.specs.Stores.{StoreContent}
use Rattle.srm_store.specs.Fits.{StoreFits}

-- The places of a stream, read from the table of a store.
pub record Reads (s : StoreContent) (u : Stream) (content : StreamContent) : Type 0 where
  pub table : TableContent
  pub is : table ≡ s.table
  pub row_is : content ≡ places_of_stream table u
  pub source : u.source < MEMBERS

module _ {inserted : List Drawop} {evidence : List FullName} {settled : List Settling} {s : StoreContent} (h : StoreFits inserted evidence settled s) {u : Stream} {content : StreamContent} (r : Reads s u content) where
  row_here : content ≡ places_of_stream s.table u
  row_here = r.row_is ∙ ap (λ t. places_of_stream t u) r.is

  pub held_here : (k : ℕ) → place_at content.places k ≡ held_at inserted (named u k)
  held_here k = ap (λ (x : StreamContent). place_at x.places k) row_here ∙ h.held (named u k) r.source

  pub known_here : content.known ≡ known evidence u
  known_here = ap (λ (x : StreamContent). x.known) row_here ∙ h.known u r.source

  pub holds_here : (k : ℕ) → is_some (place_at content.places k) ≡ is_held inserted (named u k)
  holds_here k = ap is_some (held_here k) ∙ sym (any_found (has_name (named u k)) inserted)

  pub unheld_here : (ks : List ℕ) → unheld_in_stream content (map (named u) ks) ≡ unheld inserted (map (named u) ks)
  unheld_here [] = refl
  unheld_here (k ∷ ks) = ap (λ (b : Bool). if not b then named u k ∷ unheld_in_stream content (map (named u) ks) else unheld_in_stream content (map (named u) ks)) (holds_here k)
      ∙ ap (λ ns. if not (is_held inserted (named u k)) then named u k ∷ ns else ns) (unheld_here ks)

  pub missing_here : (n : ℕ) → n ≡ content.known → unheld_in_stream content (names_after u 0 n) ≡ missing inserted evidence u
  missing_here n e = unheld_here (count_up 1 n) ∙ ap (λ k. unheld inserted (map (named u) (count_up 1 k))) (e ∙ known_here)

  pub newly_here : (after count : ℕ) (n : FullName) → u ≡ n.stream → after ≡ content.known → count ≡ n.number - after → unheld_in_stream content (names_after u after count) ≡ newly_missing inserted evidence n
  newly_here after count n stream a c =
      unheld_here (count_up (after + 1) count)
      ∙ ap (λ k. unheld inserted (names_after u after k)) c
      ∙ ap (λ k. unheld inserted (names_after u k (n.number - k))) (a ∙ known_here)
      ∙ ap (λ v. unheld inserted (names_after v (known evidence v) (n.number - known evidence v))) stream

-- the names that a stream doesn't hold, from its first number on, and from the first that wasn't known
pub missing_is : {inserted : List Drawop} {evidence : List FullName} {settled : List Settling} {s : StoreContent} (names : List FullName) (u : Stream) (table : TableContent) (last : ℕ) → StoreFits inserted evidence settled s
    → table ≡ s.table → u.source < MEMBERS → names ≡ unheld_in_stream (places_of_stream table u) (names_after u 0 last) → last ≡ (places_of_stream table u).known → names ≡ missing inserted evidence u
missing_is names u table last h same source is known_is = is ∙ missing_here h (record { table = table; is = same; row_is = refl; source = source }) last known_is

pub newly_is : {inserted : List Drawop} {evidence : List FullName} {settled : List Settling} {s : StoreContent} (names : List FullName) (n : FullName) (u : Stream) (table : TableContent) (after count : ℕ) → StoreFits inserted evidence settled s
    → table ≡ s.table → u ≡ n.stream → u.source < MEMBERS → names ≡ unheld_in_stream (places_of_stream table u) (names_after u after count) → after ≡ (places_of_stream table u).known → count ≡ n.number - after → names ≡ newly_missing inserted evidence n
newly_is names n u table after count h same stream source is after_is count_is = is ∙ newly_here h (record { table = table; is = same; row_is = refl; source = source }) after count n stream after_is count_is

-- the held numbers in front of the first gap
front_length : {X : Type 0} (f : ℕ → Option X) (k : ℕ) → ((n : ℕ) → 1 ≤ n → n ≤ k → IsSome (f n)) → f (k + 1) ≡ None → (m from : ℕ) → from ≤ k → k ≤ from + m → length (until_none (map f (count_up (from + 1) m))) + from ≡ k
front_length f k filled gap zero from low high = omega arith
front_length f k filled gap (suc m) from low high = go (cases_eq from k) (f (from + 1)) refl (λ lt. front_length f k filled gap m (from + 1) lt (omega arith))
  where
    go : ((from ≡ k) ⊎ (from ≢ k)) → (o : Option _) → f (from + 1) ≡ o → (from + 1 ≤ k → length (until_none (map f (count_up (from + 1 + 1) m))) + (from + 1) ≡ k) → length (until_none (o ∷ map f (count_up (from + 1 + 1) m))) + from ≡ k
    go (inl e) None f_is rest = omega arith
    go (inl e) (Some x) f_is rest = absurd (let at : f (from + 1) ≡ None = ap (λ j. f (j + 1)) e ∙ gap in cc)
    go (inr ne) None f_is rest = absurd (let at : IsSome (f (from + 1)) = filled (from + 1) (omega arith) (omega arith) in false≢true (ap is_some (sym f_is) ∙ at))
    go (inr ne) (Some x) f_is rest = let lt : from + 1 ≤ k = omega arith in omega (arith, rest lt)

held_below : (inserted : List Drawop) (u : Stream) (n : ℕ) → is_some (held_at inserted (named u n)) ≡ true → n ≤ greatest_in (map (λ (d : Drawop). d.name) inserted) u
held_below [] u n h = absurd (false≢true h)
held_below (d ∷ inserted) u n h = go (same_name d.name (named u n)) refl h (held_below inserted u n)
  where
    rest : List ℕ
    rest = flat_map (number_in u) (map (λ (e : Drawop). e.name) inserted)

    go : (b : Bool) → same_name d.name (named u n) ≡ b → is_some (cond b (Some d) (held_at inserted (named u n))) ≡ true → (is_some (held_at inserted (named u n)) ≡ true → n ≤ greatest rest) → n ≤ greatest (number_in u d.name ++ rest)
    go true e h below =
        let first : number_in u d.name ≡ n ∷ [] = ap (number_in u) (same_name-is d.name (named u n) e) ∙ rw (same_stream-itself u) refl in
        omega (arith, ap (λ ns. greatest (ns ++ rest)) first)
    go false e h below = omega (arith, below h, greatest-append (number_in u d.name) rest)

pub released_is : (inserted : List Drawop) (u : Stream) (places : List (List (Option Drawop))) (k : ℕ) → ((n : ℕ) → place_at places n ≡ held_at inserted (named u n)) → FilledTo places k → k ≡ length (released inserted u)
released_is inserted u places k same front = omega (arith, at)
  where
    top : ℕ
    top = greatest_in (map (λ (d : Drawop). d.name) inserted) u

    filled : (n : ℕ) → 1 ≤ n → n ≤ k → IsSome (held_at inserted (named u n))
    filled n low high = subst IsSome (same n) (front.filled n low high)

    below : k ≤ 0 + top
    below = go (cases_eq k 0)
      where
        go : ((k ≡ 0) ⊎ (k ≢ 0)) → k ≤ 0 + top
        go (inl e) = omega arith
        go (inr ne) = omega (arith, held_below inserted u k (filled k (omega arith) (omega arith)))

    at : length (until_none (map (λ n. held_at inserted (named u n)) (count_up (0 + 1) top))) + 0 ≡ k
    at = front_length (λ n. held_at inserted (named u n)) k filled (sym (same (k + 1)) ∙ front.gap) top 0 (omega arith) below
