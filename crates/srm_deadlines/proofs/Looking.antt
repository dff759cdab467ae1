-- What is due, looked for place by place.
use Rattle.std.proofs.Common.{◌≡◌, ℕ, take, length, get_or, ◌<◌, ◌≤◌, ◌+◌, inl, inr, Bool, true, false, ◌&&◌, ◌||◌, List, refl, sym, ap, subst, ◌∙◌}
use Rattle.std.specs.Prelude.{Option, Some, None, IfSome, find, is_some}
use Rattle.std.specs.List.{list_any}
use Rattle.std.proofs.lemmas.Bool.{or_cases}
use Rattle.std.proofs.lemmas.List.Folds.{list_any_more}
use Rattle.srm_names.specs.FullName.{FullName}
use Rattle.srm_names.specs.Names.{same_name, name_below, ascending, among, AreExactly}
use Rattle.srm_names.proofs.Same.{same_name-is}
use Rattle.srm_names.proofs.Lists.{any_found}
use Rattle.srm_deadlines.specs.declared.by_name.NamedValue.{NamedValue}
use Rattle.srm_names.specs.Moments.{has_come}
use Rattle.srm_deadlines.specs.Least.{lesser}
use Rattle.srm_deadlines.specs.Places.{is_at, value_in, value_at, IsLeast}
use Rattle.srm_deadlines.specs.MomentLists.{IsUnder}
use Rattle.srm_deadlines.proofs.MomentLists.{under_lesser, lesser_under, lesser_is}

-- the names that came, so far
pub record DueSoFar (now : ℕ) (seen places : List (NamedValue ℕ)) (names : List FullName) : Type 0 where
  pub order : ascending name_below names ≡ true
  pub exact : (n : FullName) → among names n ≡ list_any (is_at n) seen && has_come now (value_at places n)

pub due_more : (now : ℕ) (places : List (NamedValue ℕ)) (i : ℕ) (p : NamedValue ℕ) (names names' : List FullName) → i < length places → p ≡ get_or places i p → has_come now (value_at places p.name) ≡ true
    → DueSoFar now (take i places) places names → ascending name_below names' ≡ true → ((m : FullName) → among names' m ≡ among names m || same_name m p.name) → DueSoFar now (take (i + 1) places) places names'
due_more now places i p names names' lt is come h asc added = record {
  order = asc;
  exact = λ n. added n ∙ ap (λ b. b || same_name n p.name) (h.exact n)
      ∙ go (list_any (is_at n) (take i places)) (has_come now (value_at places n)) (same_name n p.name) (λ s. ap (λ m. has_come now (value_at places m)) (same_name-is n p.name s) ∙ come)
      ∙ sym (ap (λ b. b && has_come now (value_at places n)) (list_any_more (is_at n) places i p lt ∙ ap (λ q. list_any (is_at n) (take i places) || is_at n q) (sym is)));
}
  where
    go : (a k s : Bool) → (s ≡ true → k ≡ true) → ((a && k) || s) ≡ ((a || s) && k)
    go true true s e = refl
    go true false true e = sym (e refl)
    go true false false e = refl
    go false k true e = sym (e refl)
    go false k false e = refl

pub due_missed : (now : ℕ) (places : List (NamedValue ℕ)) (i : ℕ) (p : NamedValue ℕ) (names : List FullName) → i < length places → p ≡ get_or places i p → has_come now (value_at places p.name) ≡ false
    → DueSoFar now (take i places) places names → DueSoFar now (take (i + 1) places) places names
due_missed now places i p names lt is come h = record {
  order = h.order;
  exact = λ n. h.exact n
      ∙ go (list_any (is_at n) (take i places)) (has_come now (value_at places n)) (same_name n p.name) (λ s. ap (λ m. has_come now (value_at places m)) (same_name-is n p.name s) ∙ come)
      ∙ sym (ap (λ b. b && has_come now (value_at places n)) (list_any_more (is_at n) places i p lt ∙ ap (λ q. list_any (is_at n) (take i places) || is_at n q) (sym is)));
}
  where
    go : (a k s : Bool) → (s ≡ true → k ≡ false) → (a && k) ≡ ((a || s) && k)
    go true k s e = refl
    go false k true e = sym (e refl)
    go false k false e = refl

pub due_all : (now : ℕ) (places : List (NamedValue ℕ)) (names : List FullName) → DueSoFar now places places names → AreExactly (λ n. has_come now (value_at places n)) names
due_all now places names h = record { in_order = h.order; exact = λ n. h.exact n ∙ ap (λ b. b && has_come now (value_at places n)) (any_found (is_at n) places) ∙ go (find (is_at n) places) }
  where
    go : (o : Option (NamedValue ℕ)) → (is_some o && has_come now (value_in o)) ≡ has_come now (value_in o)
    go None = refl
    go (Some p) = refl

-- the least of the moments of the first places
pub record LeastSoFar (seen places : List (NamedValue ℕ)) (found : Option ℕ) : Type 0 where
  pub is_one : (t : ℕ) → found ≡ Some t → (n : FullName) × (value_at places n ≡ Some t)
  pub under : (n : FullName) → list_any (is_at n) seen ≡ true → IsUnder found (value_at places n)

one_of : (places : List (NamedValue ℕ)) (n : FullName) (a b : Option ℕ) → value_at places n ≡ b → ((t : ℕ) → a ≡ Some t → (n : FullName) × (value_at places n ≡ Some t))
    → (t : ℕ) → lesser a b ≡ Some t → (n : FullName) × (value_at places n ≡ Some t)
one_of places n a b v h t e = elim (lesser_is a b) [
  | inl first ↦ h t (sym first ∙ e)
  | inr second ↦ (n, v ∙ sym second ∙ e)
]

pub least_more : (places : List (NamedValue ℕ)) (i : ℕ) (p : NamedValue ℕ) (found : Option ℕ) → i < length places → p ≡ get_or places i p
    → LeastSoFar (take i places) places found → LeastSoFar (take (i + 1) places) places (lesser found (value_at places p.name))
least_more places i p found lt is h = record {
  is_one = one_of places p.name found (value_at places p.name) refl h.is_one;
  under = λ n at. elim (or_cases (list_any (is_at n) (take i places)) (is_at n p) (ap (λ q. list_any (is_at n) (take i places) || is_at n q) is ∙ sym (list_any_more (is_at n) places i p lt) ∙ at)) [
    | inl old ↦ under_lesser found (value_at places p.name) (value_at places n) (h.under n old)
    | inr new ↦ subst (λ m. IsUnder (lesser found (value_at places p.name)) (value_at places m)) (sym (same_name-is n p.name new)) (lesser_under found (value_at places p.name))
  ];
}

pub none_without : (places : List (NamedValue ℕ)) (n : FullName) → list_any (is_at n) places ≡ false → value_at places n ≡ None
none_without places n e = go (find (is_at n) places) (sym (any_found (is_at n) places) ∙ e)
  where
    go : (o : Option (NamedValue ℕ)) → is_some o ≡ false → value_in o ≡ None
    go None h = refl
    go (Some p) h = absurd (let k : true ≡ false = h in cc)

always_under : (places : List (NamedValue ℕ)) (found : Option ℕ) → LeastSoFar places places found → (n : FullName) → IsUnder found (value_at places n)
always_under places found h n = go (list_any (is_at n) places) refl
  where
    go : (b : Bool) → list_any (is_at n) places ≡ b → IsUnder found (value_at places n)
    go true e = h.under n e
    go false e = subst (IsUnder found) (sym (none_without places n e)) tt

pub least_all : (places : List (NamedValue ℕ)) (found : Option ℕ) → LeastSoFar places places found → IsLeast places found
least_all places None h = record { none = λ e n. go (value_at places n) (always_under places None h n); is_one = tt; least = tt }
  where
    go : (o : Option ℕ) → IsUnder None o → o ≡ None
    go None u = refl
    go (Some m) u = absurd u
least_all places (Some t) h = record { none = λ e n. absurd (let k : true ≡ false = e in cc); is_one = h.is_one t refl; least = λ n. go (value_at places n) (always_under places (Some t) h n) }
  where
    go : (o : Option ℕ) → IsUnder (Some t) o → IfSome o (λ m. t ≤ m)
    go None u = tt
    go (Some m) u = u
