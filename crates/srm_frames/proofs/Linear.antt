-- Each bit of the register, and of the bytes to come, counts by itself: what is left of a sum without carry is the sum of what is left of each.
use Rattle.std.proofs.Common.{◌≡◌, ℕ, zero, suc, ◌+◌, ◌*◌, ◌<◌, ◌^◌, ◌/◌, ◌%◌, refl, sym, arith, ap, ◌∙◌, lit<}
use Rattle.std.specs.Prelude.{if◌then◌else◌, ◌==◌, bit_and, bit_xor}
use Rattle.std.specs.Int.Bits.{xor_self, xor_zero_l, xor_zero_r, xor_assoc, xor_add_and}
use Rattle.std.proofs.lemmas.Nat.{xor_comm, xor_shr, xor_block, and_mask}
use native.Mathlib.Nat.{pow-suc, mul_assoc}
use Rattle.srm_frames.specs.Checksums.{polynomial, after_bit, after_bits, remainder_of, remainder_after, after_byte}

both : (x y u v : ℕ) → x ≡ y → u ≡ v → bit_xor x u ≡ bit_xor y v
both x y u v p q = ap (λ z. bit_xor z u) p ∙ ap (bit_xor y) q

swap : (a b c d : ℕ) → bit_xor (bit_xor a b) (bit_xor c d) ≡ bit_xor (bit_xor a c) (bit_xor b d)
swap a b c d =
    xor_assoc a b (bit_xor c d)
    ∙ ap (bit_xor a) (sym (xor_assoc b c d) ∙ ap (λ x. bit_xor x d) (xor_comm b c) ∙ xor_assoc c b d)
    ∙ sym (xor_assoc a c (bit_xor b d))

-- what a division leaves, by the lowest bit and the others
divided : ℕ → ℕ → ℕ
divided low half = if low == 1 then bit_xor polynomial half else half

divides : (x y u v : ℕ) → x < 2 → y < 2 → divided ((x + y) % 2) (bit_xor u v) ≡ bit_xor (divided x u) (divided y v)
unfolding divided
divides zero zero u v p q = refl
divides zero (suc zero) u v p q = sym (xor_assoc polynomial u v) ∙ ap (λ x. bit_xor x v) (xor_comm polynomial u) ∙ xor_assoc u polynomial v
divides (suc zero) zero u v p q = sym (xor_assoc polynomial u v)
divides (suc zero) (suc zero) u v p q =
    sym (swap polynomial u polynomial v ∙ ap (λ x. bit_xor x (bit_xor u v)) (xor_self polynomial) ∙ xor_zero_l (bit_xor u v))
divides zero (suc (suc y)) u v p q = absurd (omega arith)
divides (suc zero) (suc (suc y)) u v p q = absurd (omega arith)
divides (suc (suc x)) y u v p q = absurd (omega arith)

bit_is : (r : ℕ) → after_bit r ≡ divided (r % 2) (r / 2)
unfolding divided
bit_is r = refl

linear_bit : (a b : ℕ) → after_bit (bit_xor a b) ≡ bit_xor (after_bit a) (after_bit b)
linear_bit a b =
    let low : bit_xor a b % 2 ≡ (a % 2 + b % 2) % 2 = omega (arith, xor_add_and a b) in
    let half : bit_xor a b / 2 ≡ bit_xor (a / 2) (b / 2) = xor_shr a b 1 in
    let p : a % 2 < 2 = omega arith in
    let q : b % 2 < 2 = omega arith in
    bit_is (bit_xor a b)
    ∙ ap (λ x. divided x (bit_xor a b / 2)) low
    ∙ ap (divided ((a % 2 + b % 2) % 2)) half
    ∙ divides (a % 2) (b % 2) (a / 2) (b / 2) p q
    ∙ both _ _ _ _ (sym (bit_is a)) (sym (bit_is b))

linear : (n a b : ℕ) → after_bits n (bit_xor a b) ≡ bit_xor (after_bits n a) (after_bits n b)
linear zero a b = refl
linear (suc n) a b = ap (after_bits n) (linear_bit a b) ∙ linear n (after_bit a) (after_bit b)

then_more : (m n x : ℕ) → after_bits n (after_bits m x) ≡ after_bits (m + n) x
then_more zero n x = let e : n ≡ zero + n = omega arith in ap (λ k. after_bits k x) e
then_more (suc m) n x =
    let e : suc (m + n) ≡ suc m + n = omega arith in
    then_more m n (after_bit x) ∙ ap (λ k. after_bits k x) e

even_is : (y : ℕ) → y * 2 / 2 ≡ y → divided 0 (y * 2 / 2) ≡ y
unfolding divided
even_is y half = half

even : (y : ℕ) → after_bit (y * 2) ≡ y
even y =
    let low : y * 2 % 2 ≡ 0 = omega arith in
    let half : y * 2 / 2 ≡ y = omega arith in
    bit_is (y * 2) ∙ ap (λ x. divided x (y * 2 / 2)) low ∙ even_is y half

-- a number behind n bits that are none
shifted : (n y : ℕ) → after_bits n (y * 2 ^ n) ≡ y
shifted zero y = omega arith
shifted (suc n) y =
    let e : y * 2 ^ suc n ≡ y * 2 ^ n * 2 = ap (λ k. y * k) (pow-suc 2 n) ∙ sym (mul_assoc y (2 ^ n) 2) in
    ap (λ x. after_bits n (after_bit x)) e ∙ ap (after_bits n) (even (y * 2 ^ n)) ∙ shifted n y

in_two : (x : ℕ) → bit_xor (x / 256 * 256) (x % 256) ≡ x
in_two x =
    let left : x / 256 * 256 ≡ x / 256 * 2 ^ 8 + 0 = omega arith in
    let right : x % 256 ≡ 0 * 2 ^ 8 + x % 256 = omega arith in
    let fits : x % 256 < 2 ^ 8 = omega arith in
    let all : (x / 256) * 2 ^ 8 + x % 256 ≡ x = omega arith in
    both _ _ _ _ left right
    ∙ xor_block 8 (x / 256) 0 0 (x % 256) (lit< tt) fits
    ∙ ap (λ k. k * 2 ^ 8 + bit_xor 0 (x % 256)) (xor_zero_r (x / 256))
    ∙ ap (λ k. (x / 256) * 2 ^ 8 + k) (xor_zero_l (x % 256))
    ∙ all

eight : (x : ℕ) → after_bits 8 x ≡ bit_xor (remainder_of (x % 256)) (x / 256)
eight x =
    ap (after_bits 8) (sym (in_two x))
    ∙ linear 8 (x / 256 * 256) (x % 256)
    ∙ ap (λ k. bit_xor k (after_bits 8 (x % 256))) (shifted 8 (x / 256))
    ∙ xor_comm (x / 256) (remainder_of (x % 256))

byte_is : (r byte : ℕ) → byte < 256 → after_byte r byte ≡ after_bits 8 (bit_xor r byte)
unfolding after_byte
byte_is r byte lt =
    let none : byte / 256 ≡ 0 = omega arith in
    let high : bit_xor r byte / 256 ≡ r / 256 = xor_shr r byte 8 ∙ ap (bit_xor (r / 256)) none ∙ xor_zero_r (r / 256) in
    both _ _ _ _ (ap remainder_of (and_mask (bit_xor r byte) 8)) (sym high) ∙ sym (eight (bit_xor r byte))

aside : (x y byte : ℕ) → byte < 256 → after_byte (bit_xor x y) byte ≡ bit_xor (after_bits 8 x) (after_byte y byte)
aside x y byte lt =
    byte_is (bit_xor x y) byte lt
    ∙ ap (after_bits 8) (xor_assoc x y byte)
    ∙ linear 8 x (bit_xor y byte)
    ∙ ap (bit_xor (after_bits 8 x)) (sym (byte_is y byte lt))

by_parts : (r byte : ℕ) → after_byte r byte ≡ bit_xor (after_bits 8 (bit_and (bit_xor r byte) 0xff)) (r / 256)
unfolding after_byte
by_parts r byte = refl

-- what n bits left, and one byte more: it meets the rest of the register alone
one_more : (n x y byte : ℕ) → byte < 256 → after_byte (bit_xor (after_bits n x) y) byte ≡ bit_xor (after_bits (n + 8) x) (after_byte y byte)
one_more n x y byte lt = aside (after_bits n x) y byte lt ∙ ap (λ k. bit_xor k (after_byte y byte)) (then_more n 8 x)

-- four bytes, one after another, leave what each of them and of the register's leave by itself
pub four_bytes : (r a b c d : ℕ) → r < 2 ^ 32 → a < 256 → b < 256 → c < 256 → d < 256
    → after_byte (after_byte (after_byte (after_byte r a) b) c) d
    ≡ bit_xor (remainder_after 32 (bit_and (bit_xor r a) 0xff))
    (bit_xor (remainder_after 24 (bit_and (bit_xor (r / 2 ^ 8) b) 0xff))
    (bit_xor (remainder_after 16 (bit_and (bit_xor (r / 2 ^ 16) c) 0xff)) (remainder_of (bit_and (bit_xor (r / 2 ^ 24) d) 0xff))))
unfolding remainder_after
four_bytes r a b c d small p q s t =
    let two : r / 2 ^ 8 / 256 ≡ r / 2 ^ 16 = omega arith in
    let three : r / 2 ^ 16 / 256 ≡ r / 2 ^ 24 = omega arith in
    let none : r / 2 ^ 24 / 256 ≡ 0 = omega arith in
    let u : ℕ = bit_and (bit_xor r a) 0xff in
    let v : ℕ = bit_and (bit_xor (r / 2 ^ 8) b) 0xff in
    let w : ℕ = bit_and (bit_xor (r / 2 ^ 16) c) 0xff in
    let x : ℕ = bit_and (bit_xor (r / 2 ^ 24) d) 0xff in
    let first : after_byte r a ≡ bit_xor (after_bits 8 u) (r / 2 ^ 8) = by_parts r a in
    let second : after_byte (r / 2 ^ 8) b ≡ bit_xor (after_bits 8 v) (r / 2 ^ 16) = by_parts (r / 2 ^ 8) b ∙ ap (bit_xor (after_bits 8 v)) two in
    let third : after_byte (r / 2 ^ 16) c ≡ bit_xor (after_bits 8 w) (r / 2 ^ 24) = by_parts (r / 2 ^ 16) c ∙ ap (bit_xor (after_bits 8 w)) three in
    let last : after_byte (r / 2 ^ 24) d ≡ after_bits 8 x = by_parts (r / 2 ^ 24) d ∙ ap (bit_xor (after_bits 8 x)) none ∙ xor_zero_r (after_bits 8 x) in
    let after_two : after_byte (after_byte r a) b ≡ bit_xor (after_bits 16 u) (bit_xor (after_bits 8 v) (r / 2 ^ 16)) =
    ap (λ k. after_byte k b) first ∙ one_more 8 u (r / 2 ^ 8) b q ∙ ap (bit_xor (after_bits 16 u)) second in
    let after_three : after_byte (after_byte (after_byte r a) b) c ≡ bit_xor (after_bits 24 u) (bit_xor (after_bits 16 v) (bit_xor (after_bits 8 w) (r / 2 ^ 24))) =
    ap (λ k. after_byte k c) after_two
    ∙ one_more 16 u (bit_xor (after_bits 8 v) (r / 2 ^ 16)) c s
    ∙ ap (bit_xor (after_bits 24 u)) (one_more 8 v (r / 2 ^ 16) c s ∙ ap (bit_xor (after_bits 16 v)) third) in
    ap (λ k. after_byte k d) after_three
    ∙ one_more 24 u (bit_xor (after_bits 16 v) (bit_xor (after_bits 8 w) (r / 2 ^ 24))) d t
    ∙ ap (bit_xor (after_bits 32 u))
    (one_more 16 v (bit_xor (after_bits 8 w) (r / 2 ^ 24)) d t
    ∙ ap (bit_xor (after_bits 24 v)) (one_more 8 w (r / 2 ^ 24) d t ∙ ap (bit_xor (after_bits 16 w)) last))

-- four bytes that come to a sum meet one part of it alone
pub four_aside : (r a b c d : ℕ) → a < 256 → b < 256 → c < 256 → d < 256
    → after_byte (after_byte (after_byte (after_byte r a) b) c) d ≡ bit_xor (remainder_after 32 r) (after_byte (after_byte (after_byte (after_byte 0 a) b) c) d)
unfolding remainder_after
four_aside r a b c d p q s t =
    let one : ℕ = after_byte 0 a in
    let two : ℕ = after_byte one b in
    let three : ℕ = after_byte two c in
    ap (λ k. after_byte (after_byte (after_byte (after_byte k a) b) c) d) (sym (xor_zero_r r))
    ∙ ap (λ k. after_byte (after_byte (after_byte k b) c) d) (aside r 0 a p)
    ∙ ap (λ k. after_byte (after_byte k c) d) (one_more 8 r one b q)
    ∙ ap (λ k. after_byte k d) (one_more 16 r two c s)
    ∙ one_more 24 r three d t

module _ (k : ℕ) where
  more : (m n x : ℕ) → m + 8 * k ≡ n → after_bits (8 * k) (after_bits m x) ≡ after_bits n x
  more m n x e = then_more m (8 * k) x ∙ ap (λ j. after_bits j x) e

  -- four bytes, and so many bytes of zeros behind them
  pub four_and_zeros : (r a b c d : ℕ) → r < 2 ^ 32 → a < 256 → b < 256 → c < 256 → d < 256
      → remainder_after (8 * k) (after_byte (after_byte (after_byte (after_byte r a) b) c) d)
      ≡ bit_xor (remainder_after (8 * (k + 3) + 8) (bit_and (bit_xor r a) 0xff))
      (bit_xor (remainder_after (8 * (k + 2) + 8) (bit_and (bit_xor (r / 2 ^ 8) b) 0xff))
      (bit_xor (remainder_after (8 * (k + 1) + 8) (bit_and (bit_xor (r / 2 ^ 16) c) 0xff)) (remainder_after (8 * k + 8) (bit_and (bit_xor (r / 2 ^ 24) d) 0xff))))
  unfolding remainder_after
  four_and_zeros r a b c d small p q s t =
      let u : ℕ = bit_and (bit_xor r a) 0xff in
      let v : ℕ = bit_and (bit_xor (r / 2 ^ 8) b) 0xff in
      let w : ℕ = bit_and (bit_xor (r / 2 ^ 16) c) 0xff in
      let x : ℕ = bit_and (bit_xor (r / 2 ^ 24) d) 0xff in
      ap (after_bits (8 * k)) (four_bytes r a b c d small p q s t)
      ∙ linear (8 * k) (after_bits 32 u) (bit_xor (after_bits 24 v) (bit_xor (after_bits 16 w) (after_bits 8 x)))
      ∙ both _ _ _ _ (more 32 (8 * (k + 3) + 8) u (omega arith))
      (linear (8 * k) (after_bits 24 v) (bit_xor (after_bits 16 w) (after_bits 8 x))
      ∙ both _ _ _ _ (more 24 (8 * (k + 2) + 8) v (omega arith))
      (linear (8 * k) (after_bits 16 w) (after_bits 8 x) ∙ both _ _ _ _ (more 16 (8 * (k + 1) + 8) w (omega arith)) (more 8 (8 * k + 8) x (omega arith))))

-- a register that was nothing yet, four times four bytes, and what the register leaves by itself
abbrev four : ℕ → ℕ → ℕ → ℕ → ℕ → ℕ
four r a b c d = after_byte (after_byte (after_byte (after_byte r a) b) c) d

turned : (w x y z : ℕ) → bit_xor (bit_xor (bit_xor w x) y) z ≡ bit_xor (bit_xor (bit_xor z y) x) w
turned w x y z =
    xor_comm (bit_xor (bit_xor w x) y) z
    ∙ ap (bit_xor z) (xor_comm (bit_xor w x) y)
    ∙ sym (xor_assoc z y (bit_xor w x))
    ∙ ap (bit_xor (bit_xor z y)) (xor_comm w x)
    ∙ sym (xor_assoc (bit_xor z y) x w)

pub sixteen_bytes : (r a b c d e f g h i j k l m n o p : ℕ) → e < 256 → f < 256 → g < 256 → h < 256 → i < 256 → j < 256 → k < 256 → l < 256 → m < 256 → n < 256 → o < 256 → p < 256
    → four (four (four (four r a b c d) e f g h) i j k l) m n o p
    ≡ bit_xor (bit_xor (bit_xor (remainder_after 0 (four 0 m n o p)) (remainder_after 32 (four 0 i j k l))) (remainder_after 64 (four 0 e f g h))) (remainder_after 96 (four r a b c d))
unfolding remainder_after
sixteen_bytes r a b c d e f g h i j k l m n o p e' f' g' h' i' j' k' l' m' n' o' p' =
    let x : ℕ = four r a b c d in
    let y : ℕ = four 0 e f g h in
    let z : ℕ = four 0 i j k l in
    let eight : four x e f g h ≡ bit_xor (after_bits 32 x) y = four_aside x e f g h e' f' g' h' in
    let twelve : four (four x e f g h) i j k l ≡ bit_xor (bit_xor (after_bits 64 x) (after_bits 32 y)) z =
    ap (λ s. four s i j k l) eight
    ∙ four_aside (bit_xor (after_bits 32 x) y) i j k l i' j' k' l'
    ∙ ap (λ s. bit_xor s z) (linear 32 (after_bits 32 x) y ∙ ap (λ s. bit_xor s (after_bits 32 y)) (then_more 32 32 x)) in
    ap (λ s. four s m n o p) twelve
    ∙ four_aside (bit_xor (bit_xor (after_bits 64 x) (after_bits 32 y)) z) m n o p m' n' o' p'
    ∙ ap (λ s. bit_xor s (four 0 m n o p))
    (linear 32 (bit_xor (after_bits 64 x) (after_bits 32 y)) z
    ∙ ap (λ s. bit_xor s (after_bits 32 z))
    (linear 32 (after_bits 64 x) (after_bits 32 y) ∙ both _ _ _ _ (then_more 64 32 x) (then_more 32 32 y)))
    ∙ turned (after_bits 96 x) (after_bits 64 y) (after_bits 32 z) (four 0 m n o p)
