-- What is printed of a body that others drew.
use Rattle.std.specs.Prelude.{ℕ, List, map, Bool, ◌||◌, ◌&&◌, ◌==◌, nat_lt, nat_le, if◌then◌else◌}
use Rattle.std.specs.Str.{encode_utf8_all}
use Rattle.bstr.specs.Utf8.{lossy_chars, replacement}

-- a control character, of C0 or C1
abbrev pub is_control : ℕ → Bool
is_control c = nat_lt c 0x20 || (nat_le 0x7F c && nat_lt c 0xA0)

-- a character that turns the direction of the text around it
abbrev pub is_bidirectional : ℕ → Bool
is_bidirectional c = (c == 0x61C) || (nat_le 0x200E c && nat_le c 0x200F) || (nat_le 0x202A c && nat_le c 0x202E) || (nat_le 0x2066 c && nat_le c 0x2069)

-- such a one, and what stands for bytes that are no character, is shown as a question mark, and any other as it is
abbrev pub shown_character : ℕ → ℕ
shown_character c = if is_control c || is_bidirectional c || (c == replacement) then 63 else c

-- the bytes that are printed of a body, character by character; each run of bytes that is no character counts as one
abbrev pub readable_text : List ℕ → List ℕ
readable_text body = encode_utf8_all (map shown_character (lossy_chars body))
