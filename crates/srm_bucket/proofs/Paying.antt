-- What paying for items one after another leaves.
use Rattle.std.proofs.Common.{◌≡◌, ℕ, ◌+◌, ◌-◌, ◌≤◌, ◌<◌, List, [], ◌∷◌, ◌++◌, length, Some, None, Bool, true, false, refl, sym, ap, ◌∙◌, arith}
use Rattle.std.specs.Prelude.{nat_le}
use Rattle.std.proofs.lemmas.Bool.Decides.{nat_tests}
use Rattle.std.proofs.lemmas.Option.{same_Some}
use Rattle.srm_bucket.specs.declared.item.Item.{Item}
use Rattle.srm_bucket.specs.Tokens.{cost_of}
use Rattle.srm_bucket.specs.Admitting.{cost_of_all}
use Rattle.srm_bucket.specs.Paying.{rest_after}

pub rest-covers : {T : Type 0} (tokens : ℕ) (items : List (Item T)) → cost_of_all items ≤ tokens → rest_after tokens items ≡ Some (tokens - cost_of_all items)
rest-covers tokens items l = let t : nat_le (cost_of_all items) tokens ≡ true = grind (arith, nat_tests) in rw t refl

pub rest-short : {T : Type 0} (tokens : ℕ) (items : List (Item T)) → tokens < cost_of_all items → rest_after tokens items ≡ None
rest-short tokens items l = let t : nat_le (cost_of_all items) tokens ≡ false = grind (arith, nat_tests) in rw t refl

pub rest-nothing : {T : Type 0} (tokens : ℕ) (items : List (Item T)) → length items ≡ 0 → rest_after tokens items ≡ Some tokens
rest-nothing {T = T} tokens [] e = let none : List (Item T) = [] in let free : cost_of_all none ≤ tokens = omega arith in rest-covers tokens none free ∙ ap (λ (n : ℕ). Some n) (omega arith)
rest-nothing tokens (x ∷ items) e = absurd (omega (arith, e))

-- one more item that the tokens pay for
pub rest-paid : {T : Type 0} (tokens : ℕ) (item : Item T) (items : List (Item T)) → cost_of item.length ≤ tokens → rest_after tokens (item ∷ items) ≡ rest_after (tokens - cost_of item.length) items
rest-paid tokens item items l = go (nat_le (cost_of_all items) (tokens - cost_of item.length)) refl
  where
    go : (b : Bool) → nat_le (cost_of_all items) (tokens - cost_of item.length) ≡ b → rest_after tokens (item ∷ items) ≡ rest_after (tokens - cost_of item.length) items
    go true e =
        let low : cost_of_all items ≤ tokens - cost_of item.length = grind (arith, nat_tests) in
        rest-covers tokens (item ∷ items) (omega (arith, l, low)) ∙ ap (λ (n : ℕ). Some n) (omega (arith, l, low)) ∙ sym (rest-covers (tokens - cost_of item.length) items low)
    go false e =
        let high : tokens - cost_of item.length < cost_of_all items = grind (arith, nat_tests) in
        rest-short tokens (item ∷ items) (omega (arith, l, high)) ∙ sym (rest-short (tokens - cost_of item.length) items high)

pub rest-unpaid : {T : Type 0} (tokens : ℕ) (item : Item T) (items : List (Item T)) → tokens < cost_of item.length → rest_after tokens (item ∷ items) ≡ None
rest-unpaid tokens item items l = rest-short tokens (item ∷ items) (omega (arith, l))

-- some items, and then others
pub cost-append : {T : Type 0} (xs ys : List (Item T)) → cost_of_all (xs ++ ys) ≡ cost_of_all xs + cost_of_all ys
cost-append [] ys = omega arith
cost-append (x ∷ xs) ys = let rest = cost-append xs ys in omega (arith, rest)

pub rest_both : {T : Type 0} (tokens : ℕ) (xs ys : List (Item T)) (rest : ℕ) → rest_after tokens xs ≡ Some rest → rest_after tokens (xs ++ ys) ≡ rest_after rest ys
rest_both tokens xs ys rest e = go (nat_le (cost_of_all xs) tokens) (nat_le (cost_of_all ys) (tokens - cost_of_all xs)) refl refl
  where
    both : cost_of_all (xs ++ ys) ≡ cost_of_all xs + cost_of_all ys
    both = cost-append xs ys

    go : (a b : Bool) → nat_le (cost_of_all xs) tokens ≡ a → nat_le (cost_of_all ys) (tokens - cost_of_all xs) ≡ b → rest_after tokens (xs ++ ys) ≡ rest_after rest ys
    go false b p q = let high : tokens < cost_of_all xs = grind (arith, nat_tests) in (let none : None ≡ Some rest = sym (rest-short tokens xs high) ∙ e in absurd (cc))
    go true true p q =
        let low : cost_of_all xs ≤ tokens = grind (arith, nat_tests) in
        let left : rest ≡ tokens - cost_of_all xs = same_Some rest (tokens - cost_of_all xs) (sym e ∙ rest-covers tokens xs low) in
        let more : cost_of_all ys ≤ tokens - cost_of_all xs = grind (arith, nat_tests) in
        rest-covers tokens (xs ++ ys) (omega (arith, low, more, both)) ∙ ap (λ (n : ℕ). Some n) (omega (arith, both, left)) ∙ sym (rest-covers rest ys (omega (arith, left, more)))
    go true false p q =
        let low : cost_of_all xs ≤ tokens = grind (arith, nat_tests) in
        let left : rest ≡ tokens - cost_of_all xs = same_Some rest (tokens - cost_of_all xs) (sym e ∙ rest-covers tokens xs low) in
        let more : tokens - cost_of_all xs < cost_of_all ys = grind (arith, nat_tests) in
        rest-short tokens (xs ++ ys) (omega (arith, low, more, both)) ∙ sym (rest-short rest ys (omega (arith, left, more)))

pub rest_neither : {T : Type 0} (tokens : ℕ) (xs ys : List (Item T)) → rest_after tokens xs ≡ None → rest_after tokens (xs ++ ys) ≡ None
rest_neither tokens xs ys e = go (nat_le (cost_of_all xs) tokens) refl
  where
    both : cost_of_all (xs ++ ys) ≡ cost_of_all xs + cost_of_all ys
    both = cost-append xs ys

    go : (a : Bool) → nat_le (cost_of_all xs) tokens ≡ a → rest_after tokens (xs ++ ys) ≡ None
    go true p = let low : cost_of_all xs ≤ tokens = grind (arith, nat_tests) in let some : Some (tokens - cost_of_all xs) ≡ None = sym (rest-covers tokens xs low) ∙ e in absurd (cc)
    go false p = let high : tokens < cost_of_all xs = grind (arith, nat_tests) in rest-short tokens (xs ++ ys) (omega (arith, high, both))

-- and a third kind
pub rest_third : {T : Type 0} (tokens : ℕ) (xs ys zs : List (Item T)) (rest last : ℕ) → rest_after tokens xs ≡ Some rest → rest_after rest ys ≡ Some last → rest_after tokens (xs ++ (ys ++ zs)) ≡ rest_after last zs
rest_third tokens xs ys zs rest last e f = rest_both tokens xs (ys ++ zs) rest e ∙ rest_both rest ys zs last f

pub rest_not_third : {T : Type 0} (tokens : ℕ) (xs ys zs : List (Item T)) (rest : ℕ) → rest_after tokens xs ≡ Some rest → rest_after rest ys ≡ None → rest_after tokens (xs ++ (ys ++ zs)) ≡ None
rest_not_third tokens xs ys zs rest e f = rest_both tokens xs (ys ++ zs) rest e ∙ rest_neither rest ys zs f
