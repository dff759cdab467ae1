-- The numbers that a mask names.
use Rattle.std.proofs.Common.{◌≡◌, ℕ, zero, suc, ◌+◌, ◌-◌, ◌/◌, ◌%◌, ◌^◌, ◌<◌, ◌≤◌, ◌==◌, Bool, true, false, ◌&&◌, List, [], ◌∷◌, map, refl, ap, ◌∙◌, inl, inr, arith}
use Rattle.std.specs.Prelude.{nat_lt, nat_le, if◌then◌else◌}
use Rattle.std.specs.List.{list_all}
use Rattle.std.proofs.Math.Nat.{two-pow-succ, div-eq_of_lt}
use Rattle.std.proofs.Math.Pow.{pow_mono}
use Rattle.std.proofs.lemmas.Bool.{cases_lt}
use Rattle.std.proofs.lemmas.Bool.Decides.{nat_tests}
use Rattle.std.proofs.lemmas.List.Folds.{list_all-append}
use Rattle.std.proofs.lemmas.Nat.{pow_pos, le-div}
use Rattle.srm_names.specs.FullName.{FullName}
use Rattle.srm_names.specs.Names.{named}
use Rattle.srm_codec.specs.Spelling.{bits_set, asked_by}

list_all_by : {X Y : Type 0} (p : Y → Bool) (f : X → Y) (q : X → Bool) → ((x : X) → p (f x) ≡ q x) → (xs : List X) → list_all p (map f xs) ≡ list_all q xs
list_all_by p f q same [] = refl
list_all_by p f q same (x ∷ xs) = ap (λ b. b && list_all p (map f xs)) (same x) ∙ ap (λ b. q x && b) (list_all_by p f q same xs)

lower : (bit room : ℕ) → nat_lt (bit + 1) room ≡ nat_lt bit (room - 1)
lower bit room = grind (arith, nat_tests)

double : (mask k : ℕ) → nat_lt (mask / 2) k ≡ nat_lt mask (k + k)
double mask k = grind (arith, nat_tests)

sub-one : (n : ℕ) → suc n - 1 ≡ n
sub-one n = omega arith

half : (mask room : ℕ) (odd : Bool) → (mask % 2 == 1) ≡ odd → list_all (λ bit. nat_lt bit room) (if odd then 0 ∷ [] else []) && nat_lt (mask / 2) (2 ^ (room - 1)) ≡ nat_lt mask (2 ^ room)
half mask zero true e = grind (arith, nat_tests)
half mask zero false e = grind (arith, nat_tests)
half mask (suc room) true e =
    let here : nat_lt 0 (suc room) ≡ true = grind (arith, nat_tests) in
    rw (here, sub-one room, two-pow-succ room) (double mask (2 ^ room))
half mask (suc room) false e = rw (sub-one room, two-pow-succ room) (double mask (2 ^ room))

-- all bits are below the room where the mask is below its power
pub bits_below : (k mask room : ℕ) → mask < 2 ^ k → list_all (λ bit. nat_lt bit room) (bits_set k mask) ≡ nat_lt mask (2 ^ room)
unfolding bits_set
bits_below zero mask room lt = grind (arith, nat_tests, pow_pos room)
bits_below (suc k) mask room lt =
    list_all-append (λ bit. nat_lt bit room) (if mask % 2 == 1 then 0 ∷ [] else []) (map (λ bit. bit + 1) (bits_set k (mask / 2)))
    ∙ ap (λ b. list_all (λ bit. nat_lt bit room) (if mask % 2 == 1 then 0 ∷ [] else []) && b)
    (list_all_by (λ bit. nat_lt bit room) (λ bit. bit + 1) (λ bit. nat_lt bit (room - 1)) (λ bit. lower bit room) (bits_set k (mask / 2)) ∙ bits_below k (mask / 2) (room - 1) (omega arith))
    ∙ half mask room (mask % 2 == 1) refl

-- no named number is past the limit where the mask is below the power of the room under it
pub named_within : (name : FullName) (mask limit : ℕ) → name.number ≤ limit → mask < 2 ^ 32 → list_all (λ n. nat_le n.number limit) (asked_by name mask) ≡ nat_lt mask (2 ^ (limit - name.number))
named_within name mask limit le lt =
    let here : nat_le name.number limit ≡ true = grind (arith, nat_tests) in
    ap (λ b. b && list_all (λ n. nat_le n.number limit) (map (λ bit. named name.stream (name.number + 1 + bit)) (bits_set 32 mask))) here
    ∙ list_all_by (λ n. nat_le n.number limit) (λ bit. named name.stream (name.number + 1 + bit)) (λ bit. nat_lt bit (limit - name.number)) (λ bit. grind (arith, nat_tests)) (bits_set 32 mask)
    ∙ bits_below 32 mask (limit - name.number) lt

pub all_of_them : (mask room : ℕ) → mask < 2 ^ 32 → 32 ≤ room → nat_le 32 room ≡ nat_lt mask (2 ^ room)
all_of_them mask room lt le =
    let wide : 2 ^ 32 ≤ 2 ^ room = pow_mono le in
    grind (arith, nat_tests)

pub shifted_out : (mask room : ℕ) → (mask / 2 ^ room == 0) ≡ nat_lt mask (2 ^ room)
shifted_out mask room = gone mask (2 ^ room) (pow_pos room)
  where
    gone : (n k : ℕ) → 0 < k → (n / k == 0) ≡ nat_lt n k
    gone n k lt = elim (cases_lt n k) [
      | inl below ↦ (let e : n / k ≡ 0 = div-eq_of_lt below in grind (arith, nat_tests))
      | inr above ↦ (let e : 1 ≤ n / k = le-div 1 n k lt (omega arith) in grind (arith, nat_tests))
    ]
