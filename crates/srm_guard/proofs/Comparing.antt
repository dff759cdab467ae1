-- Bytes that are compared one by one, with no early end.
use Rattle.std.proofs.Common.{◌≡◌, ℕ, ◌+◌, ◌<◌, ◌≤◌, List, [], take, get_or, length, bit_or, bit_xor, refl, ap, sym, ◌∙◌, arith}
use Rattle.std.specs.Int.Bits.{xor_add_and, xor_self}
use Rattle.std.proofs.lemmas.Nat.{le_or_l, le_or_r, and_le_l, and_le_r}
use Rattle.std.proofs.lemmas.List.{take_more_same, take-take, get_or-take, take_all}

-- the number is 0 exactly where the lists are the same
pub record Tells (differing : ℕ) (xs ys : List ℕ) : Type 0 where
  pub same : differing ≡ 0 → xs ≡ ys
  pub none : xs ≡ ys → differing ≡ 0

or_none : (a b : ℕ) → bit_or a b ≡ 0 → (a ≡ 0) × (b ≡ 0)
or_none a b h = (omega (arith, le_or_l a b, h), omega (arith, le_or_r a b, h))

xor_none : (a b : ℕ) → bit_xor a b ≡ 0 → a ≡ b
xor_none a b h = omega (arith, xor_add_and a b, and_le_l a b, and_le_r a b, h)

-- no byte was looked at
pub tells_none : Tells 0 [] []
tells_none = record { same = λ _. refl; none = λ _. refl }

-- one more of each
pub tells_more : (d i : ℕ) (xs ys : List ℕ) → i < length xs → i < length ys → Tells d (take i xs) (take i ys) → Tells (bit_or d (bit_xor (get_or xs i 0) (get_or ys i 0))) (take (i + 1) xs) (take (i + 1) ys)
tells_more d i xs ys in_xs in_ys h = record {
  same = λ none. let both = or_none d (bit_xor (get_or xs i 0) (get_or ys i 0)) none in
      take_more_same xs ys i 0 in_xs in_ys (h.same both.0) (xor_none (get_or xs i 0) (get_or ys i 0) both.1);
  none = λ is. let front : take i xs ≡ take i ys = sym (take-take i (i + 1) xs (omega arith)) ∙ ap (take i) is ∙ take-take i (i + 1) ys (omega arith) in
      let here : get_or xs i 0 ≡ get_or ys i 0 = sym (get_or-take (i + 1) xs i 0 (omega arith)) ∙ ap (λ (zs : List ℕ). get_or zs i 0) is ∙ get_or-take (i + 1) ys i 0 (omega arith) in
      ap (λ e. bit_or e (bit_xor (get_or xs i 0) (get_or ys i 0))) (h.none front) ∙ ap (λ x. bit_xor x (get_or ys i 0)) here ∙ xor_self (get_or ys i 0);
}

-- all of them, of lists of one length
pub tells_all : (d n : ℕ) (xs ys : List ℕ) → length xs ≤ n → length ys ≤ n → Tells d (take n xs) (take n ys) → Tells d xs ys
tells_all d n xs ys in_xs in_ys h = record {
  same = λ none. sym (take_all n xs in_xs) ∙ h.same none ∙ take_all n ys in_ys;
  none = λ is. h.none (ap (take n) is);
}
