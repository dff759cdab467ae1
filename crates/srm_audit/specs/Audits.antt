-- When journals, and what page workers took, are those of one trace of all members.
use Rattle.std.specs.Prelude.{◌≡◌, ℕ, ◌==◌, ◌<◌, ◌≤◌, Bool, false, ◌&&◌, if◌then◌else◌, List, ◌∷◌, [], ◌++◌, length, map, slice_get, Option, Some, None, option_map, unwrap_or, IfSome, IsSome}
use Rattle.std.specs.List.{flat_map, list_any, AllByRecursion}
use Rattle.std.specs.List.Sorted.{IsPermutation}
use Rattle.srm_names.specs.declared.limits.TheConstants.{PAGES}
use Rattle.srm_names.specs.declared.page_msg.PageMsg.{PageMsg}
use Rattle.srm_names.specs.Histories.{IsPrefix, Step, steps}
use Rattle.srm_entries.specs.declared.entry.Entry.{Entry}
use Rattle.srm_entries.specs.declared.entry.Input.{Input}
use Rattle.srm_entries.specs.declared.entry.Input.TheVariants.{Took}
use Rattle.srm_entries.specs.Entries.{sent}
use Rattle.srm_entries.specs.Giving.{given}
use Rattle.srm_world.specs.declared.start.Start.{Start}
use Rattle.srm_world.specs.Traces.{Trace, Journal, of_member, taken_by, IsHonest, IsRoster}
use Rattle.srm_audit.specs.Spellings.{HearsOther}
use Rattle.srm_audit.specs.declared.got.Got.{Got}
use Rattle.srm_audit.specs.declared.mismatch.Mismatch.{Mismatch}
use Rattle.srm_audit.specs.declared.mismatch.Mismatch.TheVariants.{Unsent, Foreign, Memory, Roster}

abbrev pub starts_of : List Journal → List Start
starts_of js = map (λ (j : Journal). j.start) js

-- q has the journals js, and they are one for each member of one roster in one session, in order of member
pub record InOrder (js q : List Journal) : Type 0 where
  pub same : IsPermutation js q
  pub roster : IsRoster (starts_of q)

-- the entries in the journal of a member; none if there is no journal
abbrev pub entries_at : List Journal → ℕ → List Entry
entries_at q m = unwrap_or (option_map (λ (j : Journal). j.entries) (slice_get q m)) []

-- the entries of each member are the first ones of its journal, and there are no others
pub record ArePrefixes (q : List Journal) (es : List Entry) : Type 0 where
  pub each : (m : ℕ) → IsPrefix (of_member m es) (entries_at q m)

-- the next entry of a member's journal
abbrev pub next_entry_of : List Journal → List Entry → ℕ → Option Entry
next_entry_of q es m = slice_get (entries_at q m) (length (of_member m es))

-- the entry hears a datagram that these entries didn't send
abbrev pub HearsUnsent : List Entry → Entry → Type 0
HearsUnsent es e = HearsOther (sent es) e

-- Prefixes of the journals, in an honest order, that are stuck: the next entry of each, if there is one, hears a datagram that they
-- didn't send.
pub record AreStuck (q : List Journal) (es : List Entry) : Type 0 where
  pub prefixes : ArePrefixes q es
  pub honest : IsHonest es
  pub waits : (m : ℕ) → IfSome (next_entry_of q es m) (HearsUnsent es)

-- Some order of the journals is stuck. This is the smallest member that has an entry left then, and so many of its entries are in the
-- order.
pub record IsUnsent (q : List Journal) (member entry : ℕ) : Type 0 where
  pub es : List Entry
  pub stuck : AreStuck q es
  pub left : IsSome (next_entry_of q es member)
  pub smallest : (m : ℕ) → m < member → next_entry_of q es m ≡ None
  pub count : entry ≡ length (of_member member es)

-- no honest order of prefixes of the journals has more than so many entries of a member
abbrev pub HasNoMore : List Journal → ℕ → ℕ → Type 0
HasNoMore q m n = (es : List Entry) → ArePrefixes q es → IsHonest es → length (of_member m es) ≤ n

abbrev pub StuckLaw : Type 0
StuckLaw = (q : List Journal) (es : List Entry) → AreStuck q es → (m : ℕ) → HasNoMore q m (length (of_member m es))

abbrev pub UnsentLaw : Type 0
UnsentLaw = (q : List Journal) (member entry : ℕ) → IsUnsent q member entry → HasNoMore q member entry

-- no honest order has all entries of the journals
abbrev pub HasNoOrder : List Journal → Type 0
HasNoOrder q = (es : List Entry) → IsHonest es → ¬ ((m : ℕ) → of_member m es ≡ entries_at q m)

abbrev pub NoOrderLaw : Type 0
NoOrderLaw = (q : List Journal) (member entry : ℕ) → IsUnsent q member entry → HasNoOrder q

-- only one entry can be named as unsent
abbrev pub OneUnsentLaw : Type 0
OneUnsentLaw = (q : List Journal) (member entry other number : ℕ) → IsUnsent q member entry → IsUnsent q other number → (other ≡ member) × (number ≡ entry)

-- the list is of this slot of this member
abbrev pub is_of : ℕ → ℕ → Got → Bool
is_of m j got = (got.member == m) && (got.slot == j)

-- The list names a member and a slot, for the first time, and is a prefix of what the member gave there.
pub record IsFound (q : List Journal) (s : Step Got) : Type 0 where
  pub member : s.this.member < length q
  pub slot : s.this.slot < PAGES
  pub once : list_any (is_of s.this.member s.this.slot) s.before ≡ false
  pub prefix : IsPrefix s.this.list (given (entries_at q s.this.member) s.this.slot)

abbrev pub AreFound : List Journal → List Got → Type 0
AreFound q gots = AllByRecursion (IsFound q) (steps gots)

-- the first list that isn't found is of this member and slot
pub record IsForeign (q : List Journal) (gots : List Got) (member slot : ℕ) : Type 0 where
  pub before : List Got
  pub got : Got
  pub after : List Got
  pub split : gots ≡ before ++ got ∷ after
  pub found : AreFound q before
  pub foreign : ¬ (IsFound q (record { before = before; this = got }))
  pub member_is : got.member ≡ member
  pub slot_is : got.slot ≡ slot

-- an entry's member, input and message
abbrev pub outline : Entry → ℕ × Input × Option PageMsg
outline e = (e.member, e.input, e.effects.message)

-- a take of each message of the list
abbrev pub takes_of : Got → List (ℕ × Input × Option PageMsg)
takes_of got = map (λ m. (got.member, Took got.slot, Some m)) got.list

-- what was taken in this slot of this member, by the lists
abbrev pub listed : List Got → ℕ → ℕ → List PageMsg
listed gots m j = flat_map (λ got. if is_of m j got then got.list else []) gots

-- The members of the trace began as the journals say. Its entries are those of the journals, each member's in order, and then the takes
-- of each list, in order. No journal has a take, so there are no others.
pub record Assembles (q : List Journal) (gots : List Got) (t : Trace) : Type 0 where
  pub starts : t.starts ≡ starts_of q
  pub calls : List Entry
  pub takes : List Entry
  pub split : t.entries ≡ calls ++ takes
  pub journals : (m : ℕ) → of_member m calls ≡ entries_at q m
  pub lists : map outline takes ≡ flat_map takes_of gots
  pub taken : (m j : ℕ) → taken_by t.entries m j ≡ listed gots m j

-- the trace is made of the journals, in order of member, and of the lists
pub record AreAccountedBy (js : List Journal) (gots : List Got) (t : Trace) : Type 0 where
  pub order : List Journal
  pub in_order : InOrder js order
  pub found : AreFound order gots
  pub assembles : Assembles order gots t

-- Why journals and lists don't match. `Memory` takes the place of neither `Roster` nor `Foreign`: if it is returned, the roster is right
-- and all lists are found.
abbrev pub IsRefused : List Journal → List Got → Mismatch → Type 0
IsRefused js gots Roster = (q : List Journal) → ¬ (InOrder js q)
IsRefused js gots (Foreign member slot) = (q : List Journal) × InOrder js q × IsForeign q gots member slot
IsRefused js gots (Unsent member entry) = (q : List Journal) × InOrder js q × AreFound q gots × IsUnsent q member entry
IsRefused js gots Memory = (q : List Journal) × InOrder js q × AreFound q gots
