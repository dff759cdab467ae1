-- What a table by name has, read as places.
use Rattle.std.proofs.Common.{◌≡◌, ℕ, ◌+◌, ◌<◌, Bool, true, false, ◌||◌, cond, add-zero, List, [], ◌∷◌, length, take, get_or, Option, Some, None, refl, sym, ap, subst, ◌∙◌}
use Rattle.std.specs.Prelude.{find, is_some, IfSome, if◌then◌else◌, Result, Ok, Err, OnOk, OnErr, IfOk}
use Rattle.std.proofs.Math.Bool.{or-false}
use Rattle.std.proofs.lemmas.List.Folds.{list_any_more}
use Rattle.std.proofs.lemmas.List.{length-map}
use Rattle.std.specs.Map.{keys_of, lookup}
use Rattle.srm_names.specs.FullName.{FullName}
use Rattle.srm_names.specs.Names.{same_name, among}
use Rattle.srm_names.proofs.Same.{same_name-is, same_name-itself}
use Rattle.srm_names.proofs.Lists.{any_found}
use Rattle.srm_deadlines.specs.declared.by_name.NamedValue.{NamedValue}
use Rattle.srm_deadlines.specs.Places.{value_in, value_at, place_names, is_at, has_place, KeepsPlaces, GivesPlaces, KeepsValues, Sets, ClearsAll}
use Rattle.srm_deadlines.specs.PlacesOf.{place_of, places_of}
use Rattle.srm_deadlines.proofs.Same.{same_flip}

pub at_some : {X : Type 0} (P : X → Type 0) (o : Option X) (x : X) → o ≡ Some x → IfSome o P → P x
at_some P o x is h = subst (λ q. IfSome q P) is h

abbrev pub Entries : Type 0 → Type 0
Entries V = List (FullName × Option V)

module _ {V : Type 0} where
  abbrev pub flat : Option (Option V) → Option V
  flat None = None
  flat (Some o) = o

  -- the value, and whether there is a place, by the entry that is looked up
  pub value_found : (es : Entries V) (n : FullName) → value_at (places_of es) n ≡ flat (lookup (same_name n) es)
  value_found [] n = refl
  value_found (e ∷ es) n = go (same_name n e.0) (value_found es n)
    where
      go : (b : Bool) → value_at (places_of es) n ≡ flat (lookup (same_name n) es) → value_in (cond b (Some (place_of e)) (find (is_at n) (places_of es))) ≡ flat (cond b (Some e.1) (lookup (same_name n) es))
      go true h = refl
      go false h = h

  pub names_as_keys : (es : Entries V) → place_names (places_of es) ≡ keys_of es
  names_as_keys [] = refl
  names_as_keys (e ∷ es) = ap (λ ns. e.0 ∷ ns) (names_as_keys es)

  pub place_found : (es : Entries V) (n : FullName) → has_place (places_of es) n ≡ is_some (lookup (same_name n) es)
  place_found [] n = refl
  place_found (e ∷ es) n = go (same_name n e.0) (place_found es n)
    where
      go : (b : Bool) → has_place (places_of es) n ≡ is_some (lookup (same_name n) es) → (b || has_place (places_of es) n) ≡ is_some (cond b (Some e.1) (lookup (same_name n) es))
      go true h = refl
      go false h = h

  -- one name has this value after, and the others have what they had
  pub record Puts (name : FullName) (v : Option V) (old new : Entries V) : Type 0 where
    pub each : (n : FullName) → lookup (same_name n) new ≡ cond (same_name name n) (Some v) (lookup (same_name n) old)

  flat_if : (b : Bool) (v : Option V) (o : Option (Option V)) → flat (cond b (Some v) o) ≡ (if b then v else flat o)
  flat_if true v o = refl
  flat_if false v o = refl

  some_if : (b : Bool) (v : Option V) (o : Option (Option V)) → is_some o ≡ true → is_some (cond b (Some v) o) ≡ true
  some_if true v o h = refl
  some_if false v o h = h

  pub sets_from : (xs : List (NamedValue V)) (name : FullName) (v : Option V) (old new : Entries V) → places_of old ≡ xs → Puts name v old new → Sets name v xs (places_of new)
  sets_from xs name v old new is puts = record {
    each = λ n. value_found new n ∙ ap flat (puts.each n) ∙ flat_if (same_name name n) v (lookup (same_name n) old)
        ∙ ap (λ b. if b then v else flat (lookup (same_name n) old)) (same_flip name n)
        ∙ ap (λ o. if same_name n name then v else o) (sym (value_found old n) ∙ ap (λ ys. value_at ys n) is);
  }

  pub holds_from : (xs : List (NamedValue V)) (name : FullName) (v : Option V) (old new : Entries V) → places_of old ≡ xs → Puts name v old new → KeepsPlaces xs (places_of new)
  holds_from xs name v old new is puts = record {
    each = λ n h. place_found new n ∙ ap is_some (puts.each n)
        ∙ some_if (same_name name n) v (lookup (same_name n) old) (sym (place_found old n) ∙ ap (λ ys. has_place ys n) is ∙ h);
  }

  pub place_from : (name : FullName) (v : Option V) (old new : Entries V) → Puts name v old new → has_place (places_of new) name ≡ true
  place_from name v old new puts =
      place_found new name ∙ ap is_some (puts.each name) ∙ ap (λ b. is_some (cond b (Some v) (lookup (same_name name) old))) (same_name-itself name)

  keep_if : (b : Bool) (o : Option (Option V)) → (b ≡ true → is_some o ≡ false) → flat (cond b (Some None) o) ≡ flat o
  keep_if false o h = refl
  keep_if true None h = refl
  keep_if true (Some o) h = absurd (let k : true ≡ false = h refl in cc)

  -- a new place without a value changes none
  pub keeps_from : (xs : List (NamedValue V)) (name : FullName) (old new : Entries V) → places_of old ≡ xs → is_some (lookup (same_name name) old) ≡ false → Puts name None old new → KeepsValues xs (places_of new)
  keeps_from xs name old new is absent puts = record {
    each = λ n. value_found new n ∙ ap flat (puts.each n)
        ∙ keep_if (same_name name n) (lookup (same_name n) old) (λ e. ap (λ m. is_some (lookup (same_name m) old)) (sym (same_name-is name n e)) ∙ absent)
        ∙ sym (value_found old n) ∙ ap (λ ys. value_at ys n) is;
  }

  -- an insert where the name has a place is not refused
  no_place : (xs : List (NamedValue V)) (name : FullName) (old : Entries V) → places_of old ≡ xs → lookup (same_name name) old ≡ None → has_place xs name ≡ true → ⊥
  no_place xs name old is none has = let k : true ≡ false = sym has ∙ ap (λ ys. has_place ys name) (sym is) ∙ place_found old name ∙ ap is_some none in cc

  pub not_refused : {X Y : Type 0} (r : Result X Y) (P : Type 0) (xs : List (NamedValue V)) (name : FullName) (old : Entries V) → places_of old ≡ xs → has_place xs name ≡ true
      → OnErr r (lookup (same_name name) old ≡ None) → OnOk r P → P
  not_refused (Ok x) P xs name old is has none ok = ok
  not_refused (Err y) P xs name old is has none ok =
      absurd (no_place xs name old is none has)

  pub same_length : {Y : Type 0} (r : Result (Option (Option V)) Y) (xs : List (NamedValue V)) (name : FullName) (old new : Entries V) → places_of old ≡ xs → has_place xs name ≡ true
      → OnErr r (lookup (same_name name) old ≡ None) → IfOk r (λ o. o ≡ lookup (same_name name) old) → IfOk r (λ o. length new ≡ length old + (if is_some o then 0 else 1)) → length (places_of new) ≡ length xs
  same_length (Err y) xs name old new is has none was len = absurd (no_place xs name old is none has)
  same_length (Ok o) xs name old new is has none was len =
      let some : is_some o ≡ true = ap is_some was ∙ sym (place_found old name) ∙ ap (λ ys. has_place ys name) is ∙ has in
      let same : length new ≡ length old = len ∙ ap (λ b. length old + (if b then 0 else 1)) some ∙ add-zero (length old) in
      length-map new place_of ∙ same ∙ sym (length-map old place_of) ∙ ap length is

  pub refused : (xs : List (NamedValue V)) (name : FullName) (old : Entries V) → places_of old ≡ xs → is_some (lookup (same_name name) old) ≡ false → has_place xs name ≡ true → ⊥
  refused xs name old is absent has = let k : true ≡ false = sym has ∙ ap (λ ys. has_place ys name) (sym is) ∙ place_found old name ∙ absent in cc

  -- no name without a place has a value
  pub sets_nothing : (xs : List (NamedValue V)) (name : FullName) → has_place xs name ≡ false → Sets name None xs xs
  sets_nothing xs name e = record { each = λ n. go n (same_name n name) refl }
    where
      none : (o : Option (NamedValue V)) → is_some o ≡ false → value_in o ≡ None
      none None h = refl
      none (Some p) h = absurd (let k : true ≡ false = h in cc)

      go : (n : FullName) (b : Bool) → same_name n name ≡ b → value_at xs n ≡ (if b then None else value_at xs n)
      go n true same = ap (value_at xs) (same_name-is n name same) ∙ none (find (is_at name) xs) (sym (any_found (is_at name) xs) ∙ e)
      go n false other = refl

  -- ---- which names are given places

  some_of : (b : Bool) (v : Option V) (o : Option (Option V)) → is_some (cond b (Some v) o) ≡ true → (is_some o || (b || false)) ≡ true
  some_of true v None h = refl
  some_of true v (Some x) h = refl
  some_of false v None h = h
  some_of false v (Some x) h = refl

  pub given_from : (xs : List (NamedValue V)) (name : FullName) (v : Option V) (old new : Entries V) → places_of old ≡ xs → Puts name v old new → GivesPlaces (name ∷ []) xs (places_of new)
  given_from xs name v old new is puts = record {
    only = λ n h. ap (λ b. b || (same_name n name || false)) (sym (ap (λ ys. has_place ys n) is) ∙ place_found old n)
        ∙ ap (λ b. is_some (lookup (same_name n) old) || (b || false)) (same_flip n name)
        ∙ some_of (same_name name n) v (lookup (same_name n) old) (sym (ap is_some (puts.each n)) ∙ sym (place_found new n) ∙ h);
  }

  -- one that has a place already is given none
  pub none_given : (name : FullName) (xs ys : List (NamedValue V)) → has_place xs name ≡ true → GivesPlaces (name ∷ []) xs ys → GivesPlaces [] xs ys
  none_given name xs ys has given = record { only = λ n h. go n (same_name n name) refl (given.only n h) }
    where
      go : (n : FullName) (b : Bool) → same_name n name ≡ b → (has_place xs n || (same_name n name || false)) ≡ true → (has_place xs n || false) ≡ true
      go n true e h = ap (λ b. b || false) (ap (has_place xs) (same_name-is n name e) ∙ has)
      go n false e h = ap (λ b. has_place xs n || (b || false)) (sym e) ∙ h

  pub given_on : (xs ys zs : List (NamedValue V)) → GivesPlaces [] xs ys → GivesPlaces [] ys zs → GivesPlaces [] xs zs
  given_on xs ys zs p q = record { only = λ n h. p.only n (sym (or-false (has_place ys n)) ∙ q.only n h) }

  pub holds_on : (xs ys zs : List (NamedValue V)) → KeepsPlaces xs ys → KeepsPlaces ys zs → KeepsPlaces xs zs
  holds_on xs ys zs p q = record { each = λ n h. q.each n (p.each n h) }

  -- one more name whose value is taken away
  pub clears_more : (names : List FullName) (i : ℕ) (name : FullName) (old mid new : List (NamedValue V)) → i < length names → name ≡ get_or names i name → ClearsAll (take i names) old mid → Sets name None mid new
      → ClearsAll (take (i + 1) names) old new
  clears_more names i name old mid new lt is so_far sets = record {
    each = λ n. sets.each n ∙ ap (λ v. if same_name n name then None else v) (so_far.each n) ∙ go (same_name n name) (among (take i names) n) (value_at old n)
        ∙ ap (λ b. if b then None else value_at old n) (ap (λ m. among (take i names) n || same_name n m) is ∙ sym (list_any_more (same_name n) names i name lt));
  }
    where
      go : (a b : Bool) (o : Option V) → (if a then None else (if b then None else o)) ≡ (if b || a then None else o)
      go true true o = refl
      go true false o = refl
      go false true o = refl
      go false false o = refl
