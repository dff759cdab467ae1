-- What goes next of what waits, and what its going leaves.
use Rattle.std.proofs.Common.{◌≡◌, ℕ, ◌+◌, ◌<◌, List, [], ◌∷◌, ◌++◌, length, Option, Some, None, refl, sym, ap, subst, ◌∙◌, arith}
use Rattle.std.specs.Prelude.{IfSome}
use Rattle.std.specs.List.{All}
use Rattle.std.proofs.lemmas.List.Elements.{All-head, All-tail}
use Rattle.srm_names.specs.Histories.{or_else}
use Rattle.srm_bucket.specs.declared.class.Class.{Class}
use Rattle.srm_bucket.specs.declared.class.Class.TheVariants.{Shown, New, Other}
use Rattle.srm_bucket.specs.declared.item.Item.{Item}
use Rattle.srm_bucket.specs.Calls.{Classed}
use Rattle.srm_bucket.specs.Classes.{rank, in_class, first_in, first_of_highest}
use Rattle.srm_bucket.specs.Waiting.{Waiting, HasLength, Loses, queue, count_of}

pub next-same : {T : Type 0} (a b : Class → List (Item T)) → ((k : Class) → a k ≡ b k) → first_of_highest a ≡ first_of_highest b
next-same a b h = rw (h Shown, h New, h Other) refl

abbrev pick : {T : Type 0} → List (Item T) → List (Item T) → List (Item T) → Class → List (Item T)
pick x y z Shown = x
pick x y z New = y
pick x y z Other = z

pick-all : {T : Type 0} (a : Class → List (Item T)) (k : Class) → pick (a Shown) (a New) (a Other) k ≡ a k
pick-all a Shown = refl
pick-all a New = refl
pick-all a Other = refl

abbrev rank_of : {T : Type 0} → Option (Classed T) → ℕ
rank_of None = 0
rank_of (Some c) = rank c.class

-- where an item goes next, nothing waits in a higher class
none_higher : {T : Type 0} (x y z : List (Item T)) (c : Classed T) → or_else (first_in Shown x) (or_else (first_in New y) (first_in Other z)) ≡ Some c
    → (k : Class) → rank k < rank c.class → pick x y z k ≡ []
none_higher (i ∷ x) y z c e Shown lt = let r : 1 ≡ rank c.class = ap rank_of e in absurd (omega arith)
none_higher (i ∷ x) y z c e New lt = let r : 1 ≡ rank c.class = ap rank_of e in absurd (omega arith)
none_higher (i ∷ x) y z c e Other lt = let r : 1 ≡ rank c.class = ap rank_of e in absurd (omega arith)
none_higher [] (i ∷ y) z c e Shown lt = refl
none_higher [] (i ∷ y) z c e New lt = let r : 2 ≡ rank c.class = ap rank_of e in absurd (omega arith)
none_higher [] (i ∷ y) z c e Other lt = let r : 2 ≡ rank c.class = ap rank_of e in absurd (omega arith)
none_higher [] [] (i ∷ z) c e Shown lt = refl
none_higher [] [] (i ∷ z) c e New lt = refl
none_higher [] [] (i ∷ z) c e Other lt = let r : 3 ≡ rank c.class = ap rank_of e in absurd (omega arith)
none_higher [] [] [] c e k lt = let r : 0 ≡ rank c.class = ap rank_of e in absurd (omega arith)

pub next-highest : {T : Type 0} (a : Class → List (Item T)) (c : Classed T) → first_of_highest a ≡ Some c → (k : Class) → rank k < rank c.class → a k ≡ []
next-highest a c e k lt = sym (pick-all a k) ∙ none_higher (a Shown) (a New) (a Other) c e k lt

-- and it is one of those that wait
has_length : {T : Type 0} (x y z : List (Item T)) → All HasLength x → All HasLength y → All HasLength z
    → IfSome (or_else (first_in Shown x) (or_else (first_in New y) (first_in Other z))) (λ c. HasLength c.item)
has_length (i ∷ x) y z p q r = All-head HasLength i x p
has_length [] (i ∷ y) z p q r = All-head HasLength i y q
has_length [] [] (i ∷ z) p q r = All-head HasLength i z r
has_length [] [] [] p q r = tt

pub next-length : {T : Type 0} (a : Class → List (Item T)) → ((k : Class) → All HasLength (a k)) → IfSome (first_of_highest a) (λ c. HasLength c.item)
next-length a all = has_length (a Shown) (a New) (a Other) (all Shown) (all New) (all Other)

rest_of : {T : Type 0} (xs ys : List (Item T)) → All HasLength (xs ++ ys) → All HasLength ys
rest_of [] ys all = all
rest_of (x ∷ xs) ys all = rest_of xs ys (All-tail HasLength x (xs ++ ys) all)

pub lengths-lost : {T : Type 0} (went : Option (Classed T)) (old new : Waiting T) → Loses went old new
    → ((k : Class) → All HasLength (queue old k)) → (k : Class) → All HasLength (queue new k)
lengths-lost went old new loses all k = rest_of (in_class k went) (queue new k) (subst (All HasLength) (loses k) (all k))

count-of-class : {T : Type 0} (class : Class) (item : Item T) (old new : Waiting T) → Loses (Some (record { class = class; item = item })) old new → count_of new + 1 ≡ count_of old
count-of-class Shown item old new h = omega (arith, ap length (h Shown), ap length (h New), ap length (h Other))
count-of-class New item old new h = omega (arith, ap length (h Shown), ap length (h New), ap length (h Other))
count-of-class Other item old new h = omega (arith, ap length (h Shown), ap length (h New), ap length (h Other))

pub count-lost : {T : Type 0} (c : Classed T) (old new : Waiting T) → Loses (Some c) old new → count_of new + 1 ≡ count_of old
count-lost c old new h = count-of-class c.class c.item old new h
