-- Sums as other programs print them.
use Rattle.std.specs.Prelude.{◌≡◌, [], ◌∷◌, codes, replicate, refl}
use Rattle.srm_frames.specs.Checksums.{after_byte, crc_32}

-- the check value that catalogues of CRCs give
nine_digits : crc_32 (codes "123456789") ≡ 0xcbf43926
unfolding crc_32 after_byte
nine_digits = refl

none : crc_32 [] ≡ 0
unfolding crc_32
none = refl

-- Python's zlib.crc32 of a byte 0, of four, and of "a"
one_zero : crc_32 (0 ∷ []) ≡ 0xd202ef8d
unfolding crc_32 after_byte
one_zero = refl

four_zeros : crc_32 (replicate 4 0) ≡ 0x2144df1c
unfolding crc_32 after_byte
four_zeros = refl

one_letter : crc_32 (codes "a") ≡ 0xe8b7be43
unfolding crc_32 after_byte
one_letter = refl
