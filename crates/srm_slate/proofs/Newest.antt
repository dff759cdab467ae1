-- The last of a list that grows.
use Rattle.std.proofs.Common.{◌≡◌, ℕ, ◌≤◌, ◌-◌, ◌+◌, List, length, drop, ap, arith}
use Rattle.srm_slate.specs.Happenings.{newest}

pub newest_all : {X : Type 0} (n : ℕ) (xs : List X) → length xs ≤ n → newest n xs ≡ xs
newest_all n xs few = ap (λ k. drop k xs) none
  where
    none : length xs - n ≡ 0
    none = omega arith

pub newest_but_one : {X : Type 0} (n : ℕ) (xs : List X) → length xs ≡ n + 1 → newest n xs ≡ drop 1 xs
newest_but_one n xs e = ap (λ k. drop k xs) one
  where
    one : length xs - n ≡ 1
    one = omega arith
