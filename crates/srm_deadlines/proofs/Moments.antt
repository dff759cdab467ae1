-- Moments that are set one after the other.
use Rattle.std.proofs.Common.{◌≡◌, ℕ, zero, suc, take, length, get_or, ◌<◌, ◌+◌, Bool, true, false, cond, ◌||◌, List, [], ◌∷◌, refl, sym, ap, subst, ◌∙◌, arith, add-one}
use Rattle.std.specs.Prelude.{Option, Some, None, find, option_map, if◌then◌else◌}
use Rattle.std.proofs.lemmas.Bool.{or_right}
use Rattle.srm_names.specs.FullName.{FullName}
use Rattle.srm_names.specs.Histories.{or_else}
use Rattle.srm_names.specs.Names.{same_name, name_below, ascending, among}
use Rattle.srm_names.proofs.Same.{same_name-is, same_name-itself}
use Rattle.srm_names.proofs.Rising.{ascending_tail}
use Rattle.srm_names.proofs.Orders.{stands_once}
use Rattle.srm_deadlines.specs.declared.by_name.NamedValue.{NamedValue}
use Rattle.srm_deadlines.specs.declared.timed.Timed.{Timed}
use Rattle.srm_deadlines.specs.Places.{names_of, is_timed, value_at, has_place, KeepsPlaces, GivesPlaces, Sets, SetsAll, HasPlaces}
use Rattle.srm_deadlines.proofs.Tables.{given_on}

abbrev given : Option Timed → Option ℕ → Option ℕ
given found o = or_else (option_map (λ t. t.moment) found) o

pub named_at : (moments : List Timed) (i : ℕ) (t : Timed) → i < length moments → t ≡ get_or moments i t → among (names_of moments) t.name ≡ true
named_at [] i t lt is = absurd (omega arith)
named_at (x ∷ xs) zero t lt is = ap (λ (y : Timed). same_name t.name y.name || among (names_of xs) t.name) (sym is) ∙ ap (λ b. b || among (names_of xs) t.name) (same_name-itself t.name)
named_at (x ∷ xs) (suc i) t lt is = or_right (same_name t.name x.name) _ (named_at xs i t (omega arith) is)

-- one more moment of a list in order of name
more : (moments : List Timed) (i : ℕ) (t : Timed) (n : FullName) (o : Option ℕ) → ascending name_below (names_of moments) ≡ true → i < length moments → t ≡ get_or moments i t
    → given (find (is_timed n) (take (suc i) moments)) o ≡ (if same_name n t.name then Some t.moment else given (find (is_timed n) (take i moments)) o)
more [] i t n o asc lt is = absurd (omega arith)
more (x ∷ xs) zero t n o asc lt is = ap (λ (y : Timed). given (cond (same_name n y.name) (Some y) None) o) (sym is) ∙ go (same_name n t.name)
  where
    go : (b : Bool) → given (cond b (Some t) None) o ≡ (if b then Some t.moment else o)
    go true = refl
    go false = refl
more (x ∷ xs) (suc i) t n o asc lt is = go (more xs i t n o (ascending_tail name_below x.name (names_of xs) asc) (omega arith) is) (same_name n x.name) refl (same_name n t.name) refl
  where
    go : given (find (is_timed n) (take (suc i) xs)) o ≡ (if same_name n t.name then Some t.moment else given (find (is_timed n) (take i xs)) o) → (a : Bool) → same_name n x.name ≡ a → (b : Bool) → same_name n t.name ≡ b
        → given (cond a (Some x) (find (is_timed n) (take (suc i) xs))) o ≡ (if b then Some t.moment else given (cond a (Some x) (find (is_timed n) (take i xs))) o)
    go later true e false f = refl
    go later true e true f = absurd (stands_once x.name (names_of xs) asc
        (subst (λ m. among (names_of xs) m ≡ true) (sym (same_name-is n t.name f) ∙ same_name-is n x.name e) (named_at xs i t (omega arith) is)))
    go later false e b f = later ∙ ap (λ c. if c then Some t.moment else given (find (is_timed n) (take i xs)) o) f

-- what a loop has set so far
pub record SetSoFar (moments : List Timed) (old new : List (NamedValue ℕ)) : Type 0 where
  pub sets : SetsAll moments old new
  pub keeps_places : KeepsPlaces old new
  pub only : GivesPlaces [] old new
  pub length : length new ≡ length old

pub more_sets : (moments : List Timed) (i : ℕ) (t : Timed) (old now new : List (NamedValue ℕ)) → ascending name_below (names_of moments) ≡ true → i < length moments → t ≡ get_or moments i t
    → SetsAll (take i moments) old now → Sets t.name (Some t.moment) now new → SetsAll (take (i + 1) moments) old new
more_sets moments i t old now new asc lt is so sets = record {
  each = λ n. sets.each n ∙ ap (λ v. if same_name n t.name then Some t.moment else v) (so.each n)
      ∙ sym (ap (λ k. given (find (is_timed n) (take k moments)) (value_at old n)) (add-one i) ∙ more moments i t n (value_at old n) asc lt is);
}

pub one_more : (moments : List Timed) (i : ℕ) (t : Timed) (old now new : List (NamedValue ℕ)) → ascending name_below (names_of moments) ≡ true → i < length moments → t ≡ get_or moments i t
    → SetSoFar (take i moments) old now → Sets t.name (Some t.moment) now new → KeepsPlaces now new → GivesPlaces [] now new → length new ≡ length now → SetSoFar (take (i + 1) moments) old new
one_more moments i t old now new asc lt is so sets held only len = record {
  sets = more_sets moments i t old now new asc lt is so.sets sets;
  keeps_places = record { each = λ n h. held.each n (so.keeps_places.each n h) };
  only = given_on old now new so.only only;
  length = len ∙ so.length;
}

-- each name has its place when its turn comes
pub place_of_turn : (moments : List Timed) (i : ℕ) (t : Timed) (old now : List (NamedValue ℕ)) → i < length moments → t ≡ get_or moments i t → HasPlaces (names_of moments) old → KeepsPlaces old now → has_place now t.name ≡ true
place_of_turn moments i t old now lt is places held = held.each t.name (places.each t.name (named_at moments i t lt is))
