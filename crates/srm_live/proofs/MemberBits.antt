-- Single bits of a set.
use Rattle.std.proofs.Common.{◌≡◌, ℕ, ◌-◌, ◌*◌, ◌/◌, ◌%◌, ◌^◌, ◌<◌, ◌==◌, Bool, true, false, ◌||◌, ◌&&◌, not, bit_and, bit_or, w32, ap, sym, ◌∙◌, ◌⊎◌, inl, inr}
use Rattle.std.specs.Int.{bit_at}
use Rattle.std.proofs.lemmas.Nat.Bits.{shr_and_one, bit_at_set_same, bit_at_set_other, bit_at_clear_same, bit_at_clear_other}
use Rattle.std.proofs.lemmas.Bool.Decides.{eqb_tells}
use Rattle.srm_live.specs.MemberSets.{has, Gains, Loses}

pub is_bit : (set m : ℕ) → (bit_and (set / 2 ^ m) 1 == 1) ≡ has set m
is_bit set m = ap (λ (n : ℕ). n == 1) (shr_and_one set m)

pub gains : (set m : ℕ) → m < 32 → Gains set m (bit_or set (1 * 2 ^ m % 4294967296))
gains set m within n short = by (eqb_tells n m)
  where
    new : ℕ
    new = bit_or set (1 * 2 ^ m % 4294967296)

    by : ((n == m) ≡ true × n ≡ m) ⊎ ((n == m) ≡ false × ¬ (n ≡ m)) → has new n ≡ (n == m || has set n)
    by (inl (same, is)) = ap (λ (k : ℕ). bit_at new k == 1) is ∙ ap (λ (bit : ℕ). bit == 1) (bit_at_set_same w32 set m within) ∙ sym (ap (λ (b : Bool). b || has set n) same)
    by (inr (other, isnt)) = ap (λ (bit : ℕ). bit == 1) (bit_at_set_other w32 set m within n isnt) ∙ sym (ap (λ (b : Bool). b || has set n) other)

pub loses : (set m : ℕ) → m < 32 → Loses set m (bit_and set (4294967295 - 1 * 2 ^ m % 4294967296))
loses set m within n short = by (eqb_tells n m)
  where
    new : ℕ
    new = bit_and set (4294967295 - 1 * 2 ^ m % 4294967296)

    by : ((n == m) ≡ true × n ≡ m) ⊎ ((n == m) ≡ false × ¬ (n ≡ m)) → has new n ≡ (not (n == m) && has set n)
    by (inl (same, is)) = ap (λ (k : ℕ). bit_at new k == 1) is ∙ ap (λ (bit : ℕ). bit == 1) (bit_at_clear_same w32 set m within) ∙ sym (ap (λ (b : Bool). not b && has set n) same)
    by (inr (other, isnt)) = ap (λ (bit : ℕ). bit == 1) (bit_at_clear_other w32 set m within n short isnt) ∙ sym (ap (λ (b : Bool). not b && has set n) other)
