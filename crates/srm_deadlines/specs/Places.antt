-- Values by name: what a list of places has for each name, and how calls change it. A place is a name that may have a
-- value; one without a value is room.
use Rattle.std.specs.Prelude.{◌≡◌, ℕ, ◌≤◌, ◌||◌, Bool, true, List, find, map, if◌then◌else◌, Option, Some, None, option_map, IsNone, IfSome}
use Rattle.std.specs.List.{list_any}
use Rattle.srm_names.specs.FullName.{FullName}
use Rattle.srm_names.specs.Histories.{or_else}
use Rattle.srm_names.specs.Names.{same_name, among}
use Rattle.srm_deadlines.specs.declared.by_name.NamedValue.{NamedValue}
use Rattle.srm_deadlines.specs.declared.timed.Timed.{Timed}

abbrev pub value_in : {V : Type 0} → Option (NamedValue V) → Option V
value_in None = None
value_in (Some p) = p.value

abbrev pub is_at : {V : Type 0} → FullName → NamedValue V → Bool
is_at n p = same_name n p.name

-- the value of a name
abbrev pub value_at : {V : Type 0} → List (NamedValue V) → FullName → Option V
value_at places n = value_in (find (is_at n) places)

abbrev pub has_place : {V : Type 0} → List (NamedValue V) → FullName → Bool
has_place places n = list_any (is_at n) places

-- the names that have a place
abbrev pub place_names : {V : Type 0} → List (NamedValue V) → List FullName
place_names {V = V} places = map (λ (p : NamedValue V). p.name) places

-- places stay
pub record KeepsPlaces {V : Type 0} (old new : List (NamedValue V)) : Type 0 where
  pub each : (n : FullName) → has_place old n ≡ true → has_place new n ≡ true

-- no other names are given places than these
pub record GivesPlaces {V : Type 0} (names : List FullName) (old new : List (NamedValue V)) : Type 0 where
  pub only : (n : FullName) → has_place new n ≡ true → (has_place old n || among names n) ≡ true

-- no value changes
pub record KeepsValues {V : Type 0} (old new : List (NamedValue V)) : Type 0 where
  pub each : (n : FullName) → value_at new n ≡ value_at old n

-- the value of one name changes
pub record Sets {V : Type 0} (name : FullName) (v : Option V) (old new : List (NamedValue V)) : Type 0 where
  pub each : (n : FullName) → value_at new n ≡ (if same_name n name then v else value_at old n)

-- the values of these names are taken away
pub record ClearsAll {V : Type 0} (names : List FullName) (old new : List (NamedValue V)) : Type 0 where
  pub each : (n : FullName) → value_at new n ≡ (if among names n then None else value_at old n)

-- each of the names has a place
pub record HasPlaces {V : Type 0} (names : List FullName) (places : List (NamedValue V)) : Type 0 where
  pub each : (n : FullName) → among names n ≡ true → has_place places n ≡ true

abbrev pub names_of : List Timed → List FullName
names_of moments = map (λ t. t.name) moments

abbrev pub is_timed : FullName → Timed → Bool
is_timed n t = same_name n t.name

-- the moment that a list of names with moments gives a name
abbrev pub moment_among : List Timed → FullName → Option ℕ
moment_among moments n = option_map (λ t. t.moment) (find (is_timed n) moments)

-- the moments of these names change
pub record SetsAll (moments : List Timed) (old new : List (NamedValue ℕ)) : Type 0 where
  pub each : (n : FullName) → value_at new n ≡ or_else (moment_among moments n) (value_at old n)

-- the least of the moments
pub record IsLeast (places : List (NamedValue ℕ)) (found : Option ℕ) : Type 0 where
  pub none : IsNone found → (n : FullName) → value_at places n ≡ None
  pub is_one : IfSome found (λ t. (n : FullName) × (value_at places n ≡ Some t))
  pub least : IfSome found (λ t. (n : FullName) → IfSome (value_at places n) (λ m. t ≤ m))
