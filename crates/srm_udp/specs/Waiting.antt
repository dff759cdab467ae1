-- Datagrams that came and wait to be received.
use Rattle.std.specs.Prelude.{◌≡◌, ◌⊎◌, ℕ, ◌+◌, ◌≤◌, List, [], ◌∷◌, length, take, drop, Option, MatchOption}

-- how many bytes these have together
abbrev pub total : List ℕ → ℕ
total [] = 0
total (n ∷ ns) = n + total ns

-- bytes as datagrams of these lengths, one behind the other
abbrev pub cut : List ℕ → List ℕ → List (List ℕ)
cut [] bytes = []
cut (n ∷ ns) bytes = take n bytes ∷ cut ns (drop n bytes)

-- how many bytes wait
abbrev pub bytes_of : List (List ℕ) → ℕ
bytes_of [] = 0
bytes_of (datagram ∷ more) = length datagram + bytes_of more

-- There may be no room for one more: 32,768 wait, or these and it have 3.75 MiB at least.
abbrev pub IsFull : List (List ℕ) → List ℕ → Type 0
IsFull waiting datagram = (32768 ≤ length waiting) ⊎ (3932160 ≤ bytes_of waiting + length datagram)

-- What is taken is the one that waits longest, cut to the buffer; the others stay, in order. Nothing is taken where none waits.
abbrev pub Takes : List (List ℕ) → List ℕ → Option ℕ → List (List ℕ) → Type 0
Takes old buffer answer new = MatchOption answer ((old ≡ []) × (new ≡ [])) (λ count. (first : List ℕ) × (old ≡ first ∷ new) × (count ≤ length buffer) × (take count buffer ≡ take (length buffer) first))

-- The datagrams stand behind bytes that were taken, and there is room for 4 MiB and 32,768 lengths.
pub record KeepsRoom (bytes lengths : List ℕ) (taken capacity places : ℕ) : Type 0 where
  pub whole : taken + total lengths ≡ length bytes
  pub room_for_bytes : 4194304 ≤ capacity
  pub room_for_lengths : 32768 ≤ places
