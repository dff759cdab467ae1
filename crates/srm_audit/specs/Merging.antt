-- Journals while they are merged into one order.
use Rattle.std.specs.Prelude.{◌≡◌, ℕ, ◌+◌, ◌≤◌, ◌<◌, Bool, false, List, [], ◌∷◌, ◌++◌, length, map, take, slice_get, slice_set, if◌then◌else◌, Some, IfSome, MatchBool}
use Rattle.std.specs.List.{AllByRecursion}
use Rattle.srm_entries.specs.declared.entry.Entry.{Entry}
use Rattle.srm_entries.specs.Entries.{sent}
use Rattle.srm_world.specs.declared.start.Start.{Start}
use Rattle.srm_world.specs.Traces.{Journal, of_member, IsHonest, IsRoster}
use Rattle.srm_audit.specs.declared.mismatch.Mismatch.{Mismatch}
use Rattle.srm_audit.specs.declared.mismatch.Mismatch.TheVariants.{Unsent, Memory}
use Rattle.srm_audit.specs.declared.merge.Merge.TheInside.{Inside}
use Rattle.srm_audit.specs.Audits.{entries_at, starts_of, IsUnsent}
use Rattle.srm_audit.specs.Spellings.{Knows, Learns}
use Rattle.srm_audit.specs.Queues.{HearsSent, HearsUnknown}

-- what is left of each journal, the entries in their order so far, and what these sent
pub record MergingContent : Type 0 where
  pub queues : List (List Entry)
  pub entries : List Entry
  pub spellings : List (List ℕ)

abbrev pub content_of : Inside → MergingContent
content_of m = record { queues = m.queues.items; entries = m.entries.items; spellings = m.spellings }

-- how many entries are left
abbrev pub entries_remaining : List (List Entry) → ℕ
entries_remaining [] = 0
entries_remaining (es ∷ rest) = length es + entries_remaining rest

-- The merge is of these journals: the entries of a member so far, and then what is left, are its journal. The order is honest, and what
-- it sent is known.
pub record Merges (q : List Journal) (m : MergingContent) : Type 0 where
  pub count : length m.queues ≡ length q
  pub own : (k : ℕ) → AllByRecursion (λ (e : Entry). e.member ≡ k) (entries_at q k)
  pub each : (k : ℕ) (rest : List Entry) → slice_get m.queues k ≡ Some rest → of_member k m.entries ++ rest ≡ entries_at q k
  pub inside : AllByRecursion (λ (e : Entry). e.member < length q) m.entries
  pub honest : IsHonest m.entries
  pub knows : Knows (sent m.entries) m.spellings

-- the merge is still of the same journals, whichever they are
pub record KeepsJournals (old new : MergingContent) : Type 0 where
  pub each : (q : List Journal) → Merges q old → Merges q new
  pub count : length new.queues ≡ length old.queues

-- the next entry of a member has moved to the end of the order
pub record Advances (member : ℕ) (old new : MergingContent) : Type 0 where
  pub entry : Entry
  pub rest : List Entry
  pub next : slice_get old.queues member ≡ Some (entry ∷ rest)
  pub queues : new.queues ≡ slice_set old.queues member rest
  pub entries : new.entries ≡ old.entries ++ entry ∷ []
  pub hears : HearsSent old.spellings entry
  pub learns : Learns entry.effects.outs old.spellings new.spellings

-- no entry of a member is left, or its next one hears what wasn't sent
pub record IsStalled (m : MergingContent) (member : ℕ) : Type 0 where
  pub queue : List Entry
  pub at : slice_get m.queues member ≡ Some queue
  pub next : IfSome (slice_get queue 0) (HearsUnknown m.spellings)

-- whether a member went on by one entry
abbrev pub TriesOne : ℕ → MergingContent → MergingContent → Bool → Type 0
TriesOne member old new went = MatchBool went (Advances member old new) ((new ≡ old) × IsStalled old member)

-- a member went on, by one entry or more
pub record Moves (old new : MergingContent) : Type 0 where
  pub keeps : KeepsJournals old new
  pub less : entries_remaining new.queues + 1 ≤ entries_remaining old.queues

-- whether a member went on
abbrev pub TriesMember : ℕ → MergingContent → MergingContent → Bool → Type 0
TriesMember member old new moved = MatchBool moved (Moves old new) ((new ≡ old) × IsStalled old member)

-- the members below this number were tried, and whether any of them went on
pub record Tries (count : ℕ) (old new : MergingContent) (moved : Bool) : Type 0 where
  pub keeps : KeepsJournals old new
  pub less : entries_remaining new.queues + (if moved then 1 else 0) ≤ entries_remaining old.queues
  pub still : moved ≡ false → new ≡ old
  pub waits : moved ≡ false → (k : ℕ) → k < count → IsStalled old k

-- no member can go on
pub record Stops (old new : MergingContent) : Type 0 where
  pub keeps : KeepsJournals old new
  pub waits : (k : ℕ) → k < length new.queues → IsStalled new k

abbrev pub IsEmptied : List Entry → Type 0
IsEmptied queue = queue ≡ []

-- the queue at the place is the first that isn't empty
pub record IsFirstNonEmpty (queues : List (List Entry)) (place : ℕ) : Type 0 where
  pub queue : List Entry
  pub at : slice_get queues place ≡ Some queue
  pub left : 0 < length queue
  pub emptied : AllByRecursion IsEmptied (take place queues)

-- all entries of the journals in one honest order
pub record Completes (q : List Journal) (es : List Entry) : Type 0 where
  pub each : (k : ℕ) → of_member k es ≡ entries_at q k
  pub inside : AllByRecursion (λ (e : Entry). e.member < length q) es
  pub honest : IsHonest es

-- whichever journals the merge is of, these are all their entries
pub record Orders (old : MergingContent) (es : List Entry) : Type 0 where
  pub each : (q : List Journal) → Merges q old → Completes q es

-- whichever journals the merge is of, in order of member, they are stuck at this entry
pub record LeadNoFurther (starts : List Start) (old : MergingContent) (member entry : ℕ) : Type 0 where
  pub each : (q : List Journal) → Merges q old → starts ≡ starts_of q → IsRoster starts → IsUnsent q member entry

abbrev pub Refuses : List Start → MergingContent → Mismatch → Type 0
Refuses starts old (Unsent member entry) = LeadNoFurther starts old member entry
Refuses starts old Memory = Unit {0}
Refuses starts old _ = ⊥

-- the journals are in the queues, and none of their entries is merged yet
pub record Opens (q : List Journal) (m : MergingContent) : Type 0 where
  pub queues : m.queues ≡ map (λ (j : Journal). j.entries) q
  pub entries : m.entries ≡ []
  pub knows : Knows [] m.spellings

-- the next entry of the member at a place
abbrev pub IsUnsentAt : List Start → List Entry → ℕ → Mismatch → Type 0
IsUnsentAt starts entries member mismatch = (a : Start) × (slice_get starts member ≡ Some a) × (mismatch ≡ Unsent a.config.me (length (of_member member entries)))
