-- Lists in order of name, and what is put into them.
use Rattle.std.proofs.Common.{◌≡◌, ℕ, map, zero, suc, take, drop, length, get_or, ◌<◌, ◌+◌, inl, inr, Bool, true, false, ◌||◌, List, [], ◌∷◌, ◌++◌, refl, sym, ap, subst, ◌∙◌, arith}
use Rattle.std.specs.List.{insert}
use Rattle.std.proofs.lemmas.Bool.{or_left, or_cases}
use Rattle.std.proofs.lemmas.List.{take_more, map-append, take-append-drop}
use Rattle.std.proofs.lemmas.List.Folds.{list_any-append, list_any_more}
use Rattle.srm_names.specs.FullName.{FullName}
use Rattle.srm_names.specs.Names.{same_name, name_below, ascending, among}
use Rattle.srm_names.proofs.Same.{same_name-is, same_name-itself}
use Rattle.srm_names.proofs.Orders.{name_order, below_later}
use Rattle.srm_names.proofs.Rising.{ascending_tail, ascending_drop, ascending_take, ascending_joined}

pub total : (a b : FullName) → same_name a b ≡ false → name_below a b ≡ false → name_below b a ≡ true
total a b differ not_below = elim (name_order.total a b) [
  | inl below ↦ absurd (let k : true ≡ false = sym below ∙ not_below in cc)
  | inr (inl same) ↦ absurd (let k : true ≡ false = sym (same_name-itself a) ∙ ap (same_name a) same ∙ differ in cc)
  | inr (inr above) ↦ above
]

pub before_more : (names : List FullName) (i : ℕ) (other name : FullName) → i < length names → other ≡ get_or names i other
    → ((m : FullName) → among (take i names) m ≡ true → name_below m name ≡ true) → same_name name other ≡ false → name_below name other ≡ false
    → (m : FullName) → among (take (i + 1) names) m ≡ true → name_below m name ≡ true
before_more names i other name lt is below p q m h =
    elim (or_cases (among (take i names) m) (same_name m (get_or names i other)) (sym (list_any_more (same_name m) names i other lt) ∙ h)) [
      | inl old ↦ below m old
      | inr new ↦ subst (λ n. name_below n name ≡ true) (is ∙ sym (same_name-is m (get_or names i other) new)) (total name other p q)
    ]

pub drop_below : (y : FullName) (xs : List FullName) (i : ℕ) (d : FullName) → ascending name_below xs ≡ true → i < length xs → name_below y (get_or xs i d) ≡ true
    → (m : FullName) → among (drop i xs) m ≡ true → name_below y m ≡ true
drop_below y [] i d asc lt b m h = absurd (omega arith)
drop_below y (x ∷ xs) zero d asc lt b m h = elim (or_cases (same_name m x) (among xs m) h) [
  | inl here ↦ subst (λ n. name_below y n ≡ true) (sym (same_name-is m x here)) b
  | inr later ↦ name_order.transitive y x m b (below_later x m xs asc later)
]
drop_below y (x ∷ xs) (suc i) d asc lt b m h = drop_below y xs i d (ascending_tail name_below x xs asc) (omega arith) b m h

ascending_from : (y : FullName) (bs : List FullName) → ascending name_below bs ≡ true → ((m : FullName) → among bs m ≡ true → name_below y m ≡ true) → ascending name_below (y ∷ bs) ≡ true
ascending_from y [] asc after = refl
ascending_from y (b ∷ bs) asc after = rw (after b (or_left (same_name b b) _ (same_name-itself b))) asc

ascending_join : (as_ bs : List FullName) (y : FullName) → ascending name_below as_ ≡ true → ((m : FullName) → among as_ m ≡ true → name_below m y ≡ true)
    → ascending name_below (y ∷ bs) ≡ true → ascending name_below (as_ ++ y ∷ bs) ≡ true
ascending_join as_ bs y asc before rest = ascending_joined as_ (y ∷ bs) asc rest (λ m n h k. elim (or_cases (same_name n y) (among bs n) k) [
  | inl here ↦ subst (λ z. name_below m z ≡ true) (sym (same_name-is n y here)) (before m h)
  | inr later ↦ name_order.transitive m y n (before m h) (below_later y n bs rest later)
])

pub insert_ascending : (xs : List FullName) (i : ℕ) (y : FullName) → ascending name_below xs ≡ true → ((m : FullName) → among (take i xs) m ≡ true → name_below m y ≡ true)
    → ((m : FullName) → among (drop i xs) m ≡ true → name_below y m ≡ true) → ascending name_below (insert xs i y) ≡ true
insert_ascending xs i y asc before after = ascending_join (take i xs) (drop i xs) y (ascending_take name_below i xs asc) before (ascending_from y (drop i xs) (ascending_drop name_below i xs asc) after)

pub insert_among : (xs : List FullName) (i : ℕ) (y m : FullName) → among (insert xs i y) m ≡ among xs m || same_name m y
insert_among xs i y m =
    list_any-append (same_name m) (take i xs) (y ∷ drop i xs) ∙ turn (among (take i xs) m) (same_name m y) (among (drop i xs) m)
    ∙ ap (λ b. b || same_name m y) (sym (list_any-append (same_name m) (take i xs) (drop i xs)) ∙ ap (λ ys. among ys m) (take-append-drop i xs))
  where
    turn : (a s b : Bool) → (a || (s || b)) ≡ ((a || b) || s)
    turn true s b = refl
    turn false true true = refl
    turn false true false = refl
    turn false false true = refl
    turn false false false = refl

-- one more element of a list that is gone through
pub map_take : {X Y : Type 0} (f : X → Y) (xs : List X) (i : ℕ) (x : X) → i < length xs → x ≡ get_or xs i x → map f (take (i + 1) xs) ≡ map f (take i xs) ++ f x ∷ []
map_take f xs i x lt is = ap (map f) (take_more xs i x lt) ∙ map-append f (take i xs) (get_or xs i x ∷ []) ∙ ap (λ y. map f (take i xs) ++ f y ∷ []) (sym is)
