-- What stands behind a datagram where members share a key: who sends it, which of its datagrams to this member it is, and the tag of all that.
use Rattle.std.specs.Prelude.{◌≡◌, ℕ, ◌+◌, ◌-◌, ◌<◌, ◌≤◌, ◌^◌, true, false, List, [], ◌∷◌, ◌++◌, length, replicate, take, drop, get_or, slice_set}
use Rattle.std.specs.Int.{w64, to_be_bytes, from_be_bytes}
use Rattle.srm_names.specs.declared.limits.TheConstants.{MEMBERS}
use Rattle.srm_window.specs.Windows.{WindowView}
use Rattle.srm_window.specs.Senders.{Numbered, WindowsFit, numbered, admits_of, windows_after}
use Rattle.srm_guard.specs.declared.seal.Opened.{Opened}
use Rattle.srm_guard.specs.declared.seal.Opened.TheVariants.{Foreign, Older, Again, Datagram}
use Rattle.srm_guard.specs.Tags.{tagged, HasOldTag}

-- the key, the member, the counter of its next datagram to each member, and a window for each member
pub record SealView : Type 0 where
  pub key : List ℕ
  pub me : ℕ
  pub next : List ℕ
  pub windows : List WindowView

-- a new seal of a member by this key: its counters begin here, and it opened nothing
pub record IsNewSeal (key : List ℕ) (me start : ℕ) (s : SealView) : Type 0 where
  pub by : s.key ≡ key
  pub of : s.me ≡ me
  pub counters : s.next ≡ replicate 32 start
  pub nothing_came : WindowsFit s.windows []

-- a datagram, its sender in one byte, and its counter in eight
abbrev pub with_number : Numbered → List ℕ → List ℕ
with_number n datagram = datagram ++ n.sender ∷ to_be_bytes w64 n.counter

-- a datagram as it goes to a member
abbrev pub sealed : List ℕ → ℕ → Numbered → List ℕ → List ℕ
sealed key to n datagram = tagged key to (with_number n datagram)

-- what could be a number: the sender is a member, and the counter has its place in eight bytes
abbrev pub IsNumber : Numbered → Type 0
IsNumber n = (n.sender < MEMBERS) × (n.counter < 2 ^ 64)

-- these bytes have no number at their end
abbrev pub HasNoNumber : List ℕ → Type 0
HasNoNumber text = (n : Numbered) (datagram : List ℕ) → IsNumber n → text ≡ with_number n datagram → ⊥

-- these bytes are no datagram that was sealed for this member
abbrev pub HasNoSeal : List ℕ → ℕ → List ℕ → Type 0
HasNoSeal key me bytes = (n : Numbered) (datagram : List ℕ) → IsNumber n → bytes ≡ sealed key me n datagram → ⊥

-- the number at the end of bytes
unfoldable pub number_at : List ℕ → Numbered
number_at text = numbered (get_or text (length text - 9) 0) (from_be_bytes w64 (drop (length text - 8) text))

-- the number that stands before a tag
abbrev pub number_in : List ℕ → Numbered
number_in bytes = number_at (take (length bytes - 16) bytes)

-- the next counter to a member, and the seal once it was used
abbrev pub next_to : ℕ → SealView → ℕ
next_to to s = get_or s.next to 0

abbrev pub one_sent : ℕ → SealView → SealView
one_sent to s = record s { next = slice_set s.next to (next_to to s + 1) }

-- what one that opened leaves: its sender's window notes its counter
abbrev pub one_opened : List ℕ → SealView → SealView
one_opened bytes s = record s { windows = windows_after (number_in bytes) s.windows }

-- Bytes are opened. Those that nobody sealed for this member change nothing, whether an older version sent them or not. Of the others the number is noted: the
-- datagram is passed on if its sender's window admits its counter, and else it came again.
abbrev pub Opens : Opened → List ℕ → SealView → SealView → Type 0
Opens Foreign bytes s t = HasNoSeal s.key s.me bytes × (HasOldTag s.key bytes → ⊥) × (t ≡ s)
Opens Older bytes s t = HasNoSeal s.key s.me bytes × HasOldTag s.key bytes × (t ≡ s)
Opens Again bytes s t = (datagram : List ℕ) × (bytes ≡ sealed s.key s.me (number_in bytes) datagram) × IsNumber (number_in bytes) × (admits_of (number_in bytes) s.windows ≡ false) × (t ≡ one_opened bytes s)
Opens (Datagram count) bytes s t = (count ≤ length bytes) × (bytes ≡ sealed s.key s.me (number_in bytes) (take count bytes)) × IsNumber (number_in bytes) × (admits_of (number_in bytes) s.windows ≡ true) × (t ≡ one_opened bytes s)
