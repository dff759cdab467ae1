-- The CRC-32 of zip, PNG and Ethernet: what is left when bytes are divided by a polynomial, bit by bit, the lowest of each byte first.
use Rattle.std.specs.Prelude.{ℕ, zero, suc, ◌==◌, ◌/◌, ◌%◌, List, fold, if◌then◌else◌, bit_and, bit_xor}

-- the polynomial, its lowest power in the highest bit
abbrev pub polynomial : ℕ
polynomial = 0xedb88320

-- one bit is divided out
abbrev pub after_bit : ℕ → ℕ
after_bit register = if register % 2 == 1 then bit_xor polynomial (register / 2) else register / 2

abbrev pub after_bits : ℕ → ℕ → ℕ
after_bits zero register = register
after_bits (suc n) register = after_bits n (after_bit register)

-- what eight bits leave
abbrev pub remainder_of : ℕ → ℕ
remainder_of low = after_bits 8 low

-- what a byte leaves once so many bits are divided out: its own eight, and those of zeros behind it
unfoldable pub remainder_after : ℕ → ℕ → ℕ
remainder_after bits low = after_bits bits low

-- one byte more
unfoldable pub after_byte : ℕ → ℕ → ℕ
after_byte register byte = bit_xor (remainder_of (bit_and (bit_xor register byte) 0xff)) (register / 256)

-- all bits are set at first, and each is turned over in the end
unfoldable pub crc_32 : List ℕ → ℕ
crc_32 bytes = bit_xor (fold after_byte 0xffffffff bytes) 0xffffffff
