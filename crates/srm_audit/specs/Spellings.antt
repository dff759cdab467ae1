-- The bytes of the datagrams that were sent.
use Rattle.std.specs.Prelude.{◌≡◌, ℕ, Bool, true, List, ◌++◌, Some, Contains, ◌↔◌}
use Rattle.std.specs.List.{list_any}
use Rattle.std.specs.Str.{bytes_eq}
use Rattle.srm_codec.specs.declared.datagram.Datagram.{Datagram}
use Rattle.srm_codec.specs.Spelling.{IsSpellable, spelling}
use Rattle.srm_entries.specs.declared.entry.Entry.{Entry}
use Rattle.srm_entries.specs.Entries.{accepted}
use Rattle.srm_audit.specs.declared.spellings.TheConstants.{ANY_SESSION}

-- the bytes that stand for a datagram
abbrev pub spelling_of : Datagram → List ℕ
spelling_of g = spelling ANY_SESSION g

-- these bytes are among the texts
abbrev pub is_spelling : List (List ℕ) → List ℕ → Bool
is_spelling spellings bytes = list_any (bytes_eq bytes) spellings

-- these are the bytes of the datagrams gs, as far as they can be encoded
pub record Knows (gs : List Datagram) (spellings : List (List ℕ)) : Type 0 where
  pub each : (g : Datagram) → IsSpellable g → (is_spelling spellings (spelling_of g) ≡ true) ↔ Contains gs g

-- the set has these datagrams more, whatever it had before
pub record Learns (more : List Datagram) (old new : List (List ℕ)) : Type 0 where
  pub each : (gs : List Datagram) → Knows gs old → Knows (gs ++ more) new

-- the entry hears a datagram that isn't among these
abbrev pub HearsOther : List Datagram → Entry → Type 0
HearsOther gs e = (g : Datagram) × (accepted e ≡ Some g) × ¬ (Contains gs g)
