-- The greatest number of a stream among names.
use Rattle.std.proofs.Common.{◌≡◌, ℕ, ◌<◌, max, Bool, true, false, List, [], ◌∷◌, ◌++◌, length, get_or, refl, ap, sym, ◌∙◌, arith}
use Rattle.std.specs.Prelude.{if◌then◌else◌}
use Rattle.std.specs.List.{flat_map}
use Rattle.std.proofs.lemmas.List.Folds.{list_any_at}
use Rattle.srm_names.specs.declared.stream.Stream.{Stream}
use Rattle.srm_names.specs.FullName.{FullName}
use Rattle.srm_names.specs.Histories.{greatest}
use Rattle.srm_names.specs.Names.{same_stream, same_name, among}
use Rattle.srm_store.specs.Held.{greatest_in, number_in}
use Rattle.srm_names.proofs.Same.{same_name-itself}
use Rattle.srm_names.proofs.Lists.{greatest-append}
use Rattle.srm_names.proofs.Snoc.{flat_map-snoc}

-- the greatest number of a stream among names, and one more

one_number : (b : Bool) (n : ℕ) → greatest (if b then n ∷ [] else []) ≡ (if b then n else 0)
one_number true n = omega arith
one_number false n = refl

pub greatest_in-snoc : (names : List FullName) (n : FullName) (s : Stream) → greatest_in (names ++ n ∷ []) s ≡ max (greatest_in names s) (if same_stream s n.stream then n.number else 0)
greatest_in-snoc names n s =
    ap greatest (flat_map-snoc (number_in s) names n) ∙ greatest-append (flat_map (number_in s) names) (number_in s n)
    ∙ ap (max (greatest_in names s)) (one_number (same_stream s n.stream) n.number)

-- a name of a list is among it
pub is_among : (names : List FullName) (i : ℕ) (n : FullName) → n ≡ get_or names i n → i < length names → among names n ≡ true
is_among names i n is l = list_any_at (same_name n) names i n l (ap (same_name n) (sym is) ∙ same_name-itself n)
