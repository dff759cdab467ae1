-- The tag of a datagram, by a key that the members share.
use Rattle.std.specs.Prelude.{◌≡◌, ℕ, ◌-◌, ◌≤◌, List, [], ◌∷◌, ◌++◌, length, take, drop, map, replicate, bit_xor, nat_le, if◌then◌else◌}
use Rattle.sha2.specs.Sha256.{sha256}

-- bytes in a block of 64, filled up with zeros
abbrev pub filled : List ℕ → List ℕ
filled bytes = bytes ++ replicate (64 - length bytes) 0

-- a key in a block; of a longer one its digest (RFC 2104, 2)
abbrev pub key_block : List ℕ → List ℕ
key_block key = filled (if nat_le (length key) 64 then key else sha256 key)

-- a block, each byte combined with the same
abbrev pub padded : List ℕ → ℕ → List ℕ
padded block byte = map (λ b. bit_xor b byte) block

-- HMAC-SHA256 (RFC 2104, 2)
abbrev pub hmac_sha256 : List ℕ → List ℕ → List ℕ
hmac_sha256 key message = sha256 (padded (key_block key) 0x5c ++ sha256 (padded (key_block key) 0x36 ++ message))

-- `ringyew-numbered`, in ASCII: so no tag of another use of the key is that of a datagram
abbrev pub label : List ℕ
label = 114 ∷ 105 ∷ 110 ∷ 103 ∷ 121 ∷ 101 ∷ 119 ∷ 45 ∷ 110 ∷ 117 ∷ 109 ∷ 98 ∷ 101 ∷ 114 ∷ 101 ∷ 100 ∷ []

-- the tag of bytes that go to a member: the first 16 bytes of the code of the label, the member's number and the bytes
abbrev pub tag_of : List ℕ → ℕ → List ℕ → List ℕ
tag_of key to bytes = take 16 (hmac_sha256 key ((label ++ to ∷ []) ++ bytes))

-- bytes with their tag behind them
abbrev pub tagged : List ℕ → ℕ → List ℕ → List ℕ
tagged key to bytes = bytes ++ tag_of key to bytes

-- these bytes are none with their tag
abbrev pub HasNoTag : List ℕ → ℕ → List ℕ → Type 0
HasNoTag key to bytes = (text : List ℕ) → bytes ≡ tagged key to text → ⊥

-- `ringyew-datagram`, in ASCII: the label of an older version, whose tag covers the datagram alone, and stands alone behind it
abbrev pub old_label : List ℕ
old_label = 114 ∷ 105 ∷ 110 ∷ 103 ∷ 121 ∷ 101 ∷ 119 ∷ 45 ∷ 100 ∷ 97 ∷ 116 ∷ 97 ∷ 103 ∷ 114 ∷ 97 ∷ 109 ∷ []

-- the bytes before the last 16, and these
abbrev pub before_tag : List ℕ → List ℕ
before_tag bytes = take (length bytes - 16) bytes

abbrev pub tag_at_end : List ℕ → List ℕ
tag_at_end bytes = drop (length bytes - 16) bytes

-- the tag of an older version
abbrev pub old_tag_of : List ℕ → List ℕ → List ℕ
old_tag_of key datagram = take 16 (hmac_sha256 key (old_label ++ datagram))

-- an older version with this key sent these bytes
abbrev pub HasOldTag : List ℕ → List ℕ → Type 0
HasOldTag key bytes = (16 ≤ length bytes) × (tag_at_end bytes ≡ old_tag_of key (before_tag bytes))
