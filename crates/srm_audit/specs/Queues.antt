-- What is left of a journal.
use Rattle.std.specs.Prelude.{◌≡◌, ℕ, ◌<◌, Bool, true, false, List, ◌∷◌, length, slice_get, Option, Some, None, IfSome, Contains}
use Rattle.std.specs.List.{AllByRecursion}
use Rattle.srm_codec.specs.declared.datagram.Datagram.{Datagram}
use Rattle.srm_codec.specs.Spelling.{IsSpellable}
use Rattle.srm_entries.specs.declared.entry.Entry.{Entry}
use Rattle.srm_entries.specs.Entries.{accepted}
use Rattle.srm_audit.specs.Spellings.{spelling_of, Knows, HearsOther}

-- what the entry sends and hears can be encoded
pub record IsReadable (e : Entry) : Type 0 where
  pub outs : AllByRecursion IsSpellable e.effects.outs
  pub read : IfSome (accepted e) IsSpellable

abbrev pub AreReadable : List Entry → Type 0
AreReadable es = AllByRecursion IsReadable es

-- the entry hears the datagram that has this text
abbrev pub HearsText : List ℕ → Entry → Type 0
HearsText text e = (g : Datagram) × (accepted e ≡ Some g) × (text ≡ spelling_of g)

-- all entries are readable, and a text that is kept is that of what the first one hears
pub record IsQueue (entries : List Entry) (text : List ℕ) : Type 0 where
  pub readable : AreReadable entries
  pub kept : 0 < length text → IfSome (slice_get entries 0) (HearsText text)

-- if these are the bytes of what was sent, the entry hears nothing, or a datagram that was sent
abbrev pub HearsSent : List (List ℕ) → Entry → Type 0
HearsSent spellings e = (gs : List Datagram) → Knows gs spellings → IfSome (accepted e) (Contains gs)

-- the entry hears a datagram that wasn't sent
abbrev pub HearsUnknown : List (List ℕ) → Entry → Type 0
HearsUnknown spellings e = (gs : List Datagram) → Knows gs spellings → HearsOther gs e

-- whether there is a next entry, and it can go
abbrev pub MayGo : List (List ℕ) → List Entry → Bool → Type 0
MayGo spellings entries true = (e : Entry) × (slice_get entries 0 ≡ Some e) × HearsSent spellings e
MayGo spellings entries false = IfSome (slice_get entries 0) (HearsUnknown spellings)

-- the first entry could go, and was taken out; or none could, and nothing changed
abbrev pub PopsReady : List (List ℕ) → List Entry → List Entry → Option Entry → Type 0
PopsReady spellings old new (Some e) = (old ≡ e ∷ new) × HearsSent spellings e × IsReadable e
PopsReady spellings old new None = (new ≡ old) × MayGo spellings old false
