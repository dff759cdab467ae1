-- Bytes, many at once and then one at once, leave what they leave one after another.
use Rattle.std.proofs.Common.{◌≡◌, ℕ, zero, suc, ◌+◌, ◌*◌, ◌/◌, ◌<◌, ◌^◌, List, [], ◌∷◌, length, take, drop, slice_index_or, refl, sym, arith, ap, ◌∙◌}
use Rattle.std.specs.Prelude.{fold, bit_and, bit_xor}
use Rattle.std.specs.Simd.{first_chunks}
use Rattle.std.proofs.lemmas.List.{take-append-drop, drop-drop}
use Rattle.std.proofs.lemmas.List.Sums.{fold-append}
use native.Mathlib.Nat.{suc-mul}
use Rattle.srm_frames.specs.Checksums.{after_byte, remainder_of, remainder_after, crc_32}
use Rattle.srm_frames.proofs.Linear.{four_and_zeros, sixteen_bytes}

drop_none : {A : Type 0} (xs : List A) → drop 0 xs ≡ xs
drop_none [] = refl
drop_none (x ∷ xs) = refl

chunks_first : {A B : Type 0} (f : B → A → B) (n k : ℕ) (a : B) (xs : List A) → fold f (fold (fold f) a (first_chunks n k xs)) (drop (k * n) xs) ≡ fold f a xs
chunks_first f n zero a xs =
    let e : zero * n ≡ 0 = omega arith in
    ap (λ m. fold f a (drop m xs)) e ∙ ap (fold f a) (drop_none xs)
chunks_first f n (suc k) a xs =
    let e : suc k * n ≡ n + k * n = omega (arith, suc-mul k n) in
    ap (λ m. fold f (fold (fold f) (fold f a (take n xs)) (first_chunks n k (drop n xs))) (drop m xs)) e
    ∙ ap (fold f (fold (fold f) (fold f a (take n xs)) (first_chunks n k (drop n xs)))) (sym (drop-drop (k * n) n xs))
    ∙ chunks_first f n k (fold f a (take n xs)) (drop n xs)
    ∙ sym (fold-append f a (take n xs) (drop n xs))
    ∙ ap (fold f a) (take-append-drop n xs)

-- whole chunks, and what is left of the bytes
pub in_chunks : (n k before : ℕ) (bytes : List ℕ) (chunks : List (List ℕ)) (rest : List ℕ) (r s : ℕ) → chunks ≡ first_chunks n k bytes → rest ≡ drop (k * n) bytes
    → r ≡ fold (fold after_byte) before chunks → s ≡ fold after_byte r rest → s ≡ fold after_byte before bytes
in_chunks n k before bytes chunks rest r s p q e h =
    h
    ∙ ap (fold after_byte r) q
    ∙ ap (λ x. fold after_byte x (drop (k * n) bytes)) (e ∙ ap (fold (fold after_byte) before) p)
    ∙ chunks_first after_byte n k before bytes

pub turned_over : (bytes : List ℕ) (s : ℕ) → s ≡ fold after_byte 0xffffffff bytes → bit_xor s 0xffffffff ≡ crc_32 bytes
unfolding crc_32
turned_over bytes s is = ap (λ x. bit_xor x 0xffffffff) is

pub one_byte : (r byte b x : ℕ) → b ≡ byte → x ≡ remainder_after (8 * 0 + 8) (bit_and (bit_xor r b) 0xff) → bit_xor x (r / 256) ≡ after_byte r byte
unfolding after_byte remainder_after
one_byte r byte b x is e = ap (λ y. bit_xor y (r / 256)) (e ∙ ap (λ y. remainder_of (bit_and (bit_xor r y) 0xff)) is)

pub without_zeros : (x y : ℕ) → x ≡ remainder_after (8 * 0) y → x ≡ y
unfolding remainder_after
without_zeros x y e = e

same : (w x y z w' x' y' z' : ℕ) → w ≡ w' → x ≡ x' → y ≡ y' → z ≡ z' → bit_xor w (bit_xor x (bit_xor y z)) ≡ bit_xor w' (bit_xor x' (bit_xor y' z'))
same w x y z w' x' y' z' p q s t =
    ap (λ k. bit_xor k (bit_xor x (bit_xor y z))) p
    ∙ ap (λ k. bit_xor w' (bit_xor k (bit_xor y z))) q
    ∙ ap (λ k. bit_xor w' (bit_xor x' (bit_xor k z))) s
    ∙ ap (λ k. bit_xor w' (bit_xor x' (bit_xor y' k))) t

at_once : (k r : ℕ) (four : List ℕ) → length four ≡ 4 → r < 2 ^ 32 → ((i : ℕ) → slice_index_or four i 0 < 256)
    → bit_xor (remainder_after (8 * (k + 3) + 8) (bit_and (bit_xor r (slice_index_or four 0 0)) 0xff))
    (bit_xor (remainder_after (8 * (k + 2) + 8) (bit_and (bit_xor (r / 2 ^ 8) (slice_index_or four 1 0)) 0xff))
    (bit_xor (remainder_after (8 * (k + 1) + 8) (bit_and (bit_xor (r / 2 ^ 16) (slice_index_or four 2 0)) 0xff))
    (remainder_after (8 * k + 8) (bit_and (bit_xor (r / 2 ^ 24) (slice_index_or four 3 0)) 0xff))))
    ≡ remainder_after (8 * k) (fold after_byte r four)
at_once k r [] e lt fit = absurd (omega (arith, e))
at_once k r (a ∷ []) e lt fit = absurd (omega (arith, e))
at_once k r (a ∷ b ∷ []) e lt fit = absurd (omega (arith, e))
at_once k r (a ∷ b ∷ c ∷ []) e lt fit = absurd (omega (arith, e))
at_once k r (a ∷ b ∷ c ∷ d ∷ []) e lt fit = sym (four_and_zeros k r a b c d lt (fit 0) (fit 1) (fit 2) (fit 3))
at_once k r (a ∷ b ∷ c ∷ d ∷ x ∷ more) e lt fit = absurd (omega (arith, e))

pub four_at_once : (k r : ℕ) (four : List ℕ) (a b c d w x y z : ℕ) → length four ≡ 4 → r < 2 ^ 32 → ((i : ℕ) → slice_index_or four i 0 < 256)
    → a ≡ slice_index_or four 0 0 → b ≡ slice_index_or four 1 0 → c ≡ slice_index_or four 2 0 → d ≡ slice_index_or four 3 0
    → w ≡ remainder_after (8 * (k + 3) + 8) (bit_and (bit_xor r a) 0xff) → x ≡ remainder_after (8 * (k + 2) + 8) (bit_and (bit_xor (r / 2 ^ 8) b) 0xff)
    → y ≡ remainder_after (8 * (k + 1) + 8) (bit_and (bit_xor (r / 2 ^ 16) c) 0xff) → z ≡ remainder_after (8 * k + 8) (bit_and (bit_xor (r / 2 ^ 24) d) 0xff)
    → bit_xor w (bit_xor x (bit_xor y z)) ≡ remainder_after (8 * k) (fold after_byte r four)
four_at_once n r four a b c d w x y z e lt fit p q s t i j k l =
    same _ _ _ _ _ _ _ _
    (i ∙ ap (λ v. remainder_after (8 * (n + 3) + 8) (bit_and (bit_xor r v) 0xff)) p)
    (j ∙ ap (λ v. remainder_after (8 * (n + 2) + 8) (bit_and (bit_xor (r / 2 ^ 8) v) 0xff)) q)
    (k ∙ ap (λ v. remainder_after (8 * (n + 1) + 8) (bit_and (bit_xor (r / 2 ^ 16) v) 0xff)) s)
    (l ∙ ap (λ v. remainder_after (8 * n + 8) (bit_and (bit_xor (r / 2 ^ 24) v) 0xff)) t)
    ∙ at_once n r four e lt fit

four_fours : (r : ℕ) (sixteen : List ℕ) → length sixteen ≡ 16 → ((i : ℕ) → slice_index_or sixteen i 0 < 256)
    → bit_xor
    (bit_xor
    (bit_xor (remainder_after (8 * 0) (fold after_byte 0 (slice_index_or sixteen 12 0 ∷ slice_index_or sixteen 13 0 ∷ slice_index_or sixteen 14 0 ∷ slice_index_or sixteen 15 0 ∷ [])))
    (remainder_after (8 * 4) (fold after_byte 0 (slice_index_or sixteen 8 0 ∷ slice_index_or sixteen 9 0 ∷ slice_index_or sixteen 10 0 ∷ slice_index_or sixteen 11 0 ∷ []))))
    (remainder_after (8 * 8) (fold after_byte 0 (slice_index_or sixteen 4 0 ∷ slice_index_or sixteen 5 0 ∷ slice_index_or sixteen 6 0 ∷ slice_index_or sixteen 7 0 ∷ []))))
    (remainder_after (8 * 12) (fold after_byte r (slice_index_or sixteen 0 0 ∷ slice_index_or sixteen 1 0 ∷ slice_index_or sixteen 2 0 ∷ slice_index_or sixteen 3 0 ∷ [])))
    ≡ fold after_byte r sixteen
four_fours r [] is fit = absurd (omega (arith, is))
four_fours r (x0 ∷ []) is fit = absurd (omega (arith, is))
four_fours r (x0 ∷ x1 ∷ []) is fit = absurd (omega (arith, is))
four_fours r (x0 ∷ x1 ∷ x2 ∷ []) is fit = absurd (omega (arith, is))
four_fours r (x0 ∷ x1 ∷ x2 ∷ x3 ∷ []) is fit = absurd (omega (arith, is))
four_fours r (x0 ∷ x1 ∷ x2 ∷ x3 ∷ x4 ∷ []) is fit = absurd (omega (arith, is))
four_fours r (x0 ∷ x1 ∷ x2 ∷ x3 ∷ x4 ∷ x5 ∷ []) is fit = absurd (omega (arith, is))
four_fours r (x0 ∷ x1 ∷ x2 ∷ x3 ∷ x4 ∷ x5 ∷ x6 ∷ []) is fit = absurd (omega (arith, is))
four_fours r (x0 ∷ x1 ∷ x2 ∷ x3 ∷ x4 ∷ x5 ∷ x6 ∷ x7 ∷ []) is fit = absurd (omega (arith, is))
four_fours r (x0 ∷ x1 ∷ x2 ∷ x3 ∷ x4 ∷ x5 ∷ x6 ∷ x7 ∷ x8 ∷ []) is fit = absurd (omega (arith, is))
four_fours r (x0 ∷ x1 ∷ x2 ∷ x3 ∷ x4 ∷ x5 ∷ x6 ∷ x7 ∷ x8 ∷ x9 ∷ []) is fit = absurd (omega (arith, is))
four_fours r (x0 ∷ x1 ∷ x2 ∷ x3 ∷ x4 ∷ x5 ∷ x6 ∷ x7 ∷ x8 ∷ x9 ∷ x10 ∷ []) is fit = absurd (omega (arith, is))
four_fours r (x0 ∷ x1 ∷ x2 ∷ x3 ∷ x4 ∷ x5 ∷ x6 ∷ x7 ∷ x8 ∷ x9 ∷ x10 ∷ x11 ∷ []) is fit = absurd (omega (arith, is))
four_fours r (x0 ∷ x1 ∷ x2 ∷ x3 ∷ x4 ∷ x5 ∷ x6 ∷ x7 ∷ x8 ∷ x9 ∷ x10 ∷ x11 ∷ x12 ∷ []) is fit = absurd (omega (arith, is))
four_fours r (x0 ∷ x1 ∷ x2 ∷ x3 ∷ x4 ∷ x5 ∷ x6 ∷ x7 ∷ x8 ∷ x9 ∷ x10 ∷ x11 ∷ x12 ∷ x13 ∷ []) is fit = absurd (omega (arith, is))
four_fours r (x0 ∷ x1 ∷ x2 ∷ x3 ∷ x4 ∷ x5 ∷ x6 ∷ x7 ∷ x8 ∷ x9 ∷ x10 ∷ x11 ∷ x12 ∷ x13 ∷ x14 ∷ []) is fit = absurd (omega (arith, is))
four_fours r (x0 ∷ x1 ∷ x2 ∷ x3 ∷ x4 ∷ x5 ∷ x6 ∷ x7 ∷ x8 ∷ x9 ∷ x10 ∷ x11 ∷ x12 ∷ x13 ∷ x14 ∷ x15 ∷ []) is fit =
    sym (sixteen_bytes r x0 x1 x2 x3 x4 x5 x6 x7 x8 x9 x10 x11 x12 x13 x14 x15 (fit 4) (fit 5) (fit 6) (fit 7) (fit 8) (fit 9) (fit 10) (fit 11) (fit 12) (fit 13) (fit 14) (fit 15))
four_fours r (x0 ∷ x1 ∷ x2 ∷ x3 ∷ x4 ∷ x5 ∷ x6 ∷ x7 ∷ x8 ∷ x9 ∷ x10 ∷ x11 ∷ x12 ∷ x13 ∷ x14 ∷ x15 ∷ y ∷ more) is fit = absurd (omega (arith, is))

all_same : (w x y z w' x' y' z' : ℕ) → w ≡ w' → x ≡ x' → y ≡ y' → z ≡ z' → bit_xor (bit_xor (bit_xor w x) y) z ≡ bit_xor (bit_xor (bit_xor w' x') y') z'
all_same w x y z w' x' y' z' p q s t =
    ap (λ k. bit_xor (bit_xor (bit_xor k x) y) z) p
    ∙ ap (λ k. bit_xor (bit_xor (bit_xor w' k) y) z) q
    ∙ ap (λ k. bit_xor (bit_xor (bit_xor w' x') k) z) s
    ∙ ap (λ k. bit_xor (bit_xor (bit_xor w' x') y') k) t

pub sixteen_at_once : (r first second third last : ℕ) (sixteen : List ℕ) → length sixteen ≡ 16 → ((i : ℕ) → slice_index_or sixteen i 0 < 256)
    → last ≡ remainder_after (8 * 0) (fold after_byte 0 (slice_index_or sixteen 12 0 ∷ slice_index_or sixteen 13 0 ∷ slice_index_or sixteen 14 0 ∷ slice_index_or sixteen 15 0 ∷ []))
    → third ≡ remainder_after (8 * 4) (fold after_byte 0 (slice_index_or sixteen 8 0 ∷ slice_index_or sixteen 9 0 ∷ slice_index_or sixteen 10 0 ∷ slice_index_or sixteen 11 0 ∷ []))
    → second ≡ remainder_after (8 * 8) (fold after_byte 0 (slice_index_or sixteen 4 0 ∷ slice_index_or sixteen 5 0 ∷ slice_index_or sixteen 6 0 ∷ slice_index_or sixteen 7 0 ∷ []))
    → first ≡ remainder_after (8 * 12) (fold after_byte r (slice_index_or sixteen 0 0 ∷ slice_index_or sixteen 1 0 ∷ slice_index_or sixteen 2 0 ∷ slice_index_or sixteen 3 0 ∷ []))
    → bit_xor (bit_xor (bit_xor last third) second) first ≡ fold after_byte r sixteen
sixteen_at_once r first second third last sixteen is fit p q s t = all_same _ _ _ _ _ _ _ _ p q s t ∙ four_fours r sixteen is fit
