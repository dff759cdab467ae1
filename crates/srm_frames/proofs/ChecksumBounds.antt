-- A checksum has 32 bits.
use Rattle.std.proofs.Common.{ℕ, zero, suc, ◌<◌, ◌^◌, ◌/◌, ◌%◌, Bool, true, false, List, [], ◌∷◌, arith, lit<}
use Rattle.std.specs.Prelude.{fold, if◌then◌else◌, ◌==◌, bit_and, bit_xor}
use Rattle.std.proofs.lemmas.Nat.{xor_lt, and_le_r}
use Rattle.srm_frames.specs.Checksums.{polynomial, after_bit, after_bits, remainder_of, after_byte, crc_32}

either_fits : (b : Bool) (x y : ℕ) → x < 2 ^ 32 → y < 2 ^ 32 → (if b then x else y) < 2 ^ 32
either_fits true x y p q = p
either_fits false x y p q = q

bit_fits : (r : ℕ) → r < 2 ^ 32 → after_bit r < 2 ^ 32
bit_fits r lt =
    let half : r / 2 < 2 ^ 32 = omega arith in
    either_fits (r % 2 == 1) (bit_xor polynomial (r / 2)) (r / 2) (xor_lt 32 polynomial (r / 2) (lit< tt) half) half

bits_fit : (n r : ℕ) → r < 2 ^ 32 → after_bits n r < 2 ^ 32
bits_fit zero r lt = lt
bits_fit (suc n) r lt = bits_fit n (after_bit r) (bit_fits r lt)

byte_fits : (r byte : ℕ) → r < 2 ^ 32 → after_byte r byte < 2 ^ 32
unfolding after_byte
byte_fits r byte lt =
    let low : bit_and (bit_xor r byte) 0xff < 2 ^ 32 = omega (arith, and_le_r (bit_xor r byte) 0xff) in
    let high : r / 256 < 2 ^ 32 = omega arith in
    xor_lt 32 (remainder_of (bit_and (bit_xor r byte) 0xff)) (r / 256) (bits_fit 8 (bit_and (bit_xor r byte) 0xff) low) high

bytes_fit : (bytes : List ℕ) (r : ℕ) → r < 2 ^ 32 → fold after_byte r bytes < 2 ^ 32
bytes_fit [] r lt = lt
bytes_fit (byte ∷ bytes) r lt = bytes_fit bytes (after_byte r byte) (byte_fits r byte lt)

pub checksum_fits : (bytes : List ℕ) → crc_32 bytes < 2 ^ 32
unfolding crc_32
checksum_fits bytes = xor_lt 32 (fold after_byte 0xffffffff bytes) 0xffffffff (bytes_fit bytes 0xffffffff (lit< tt)) (lit< tt)
