-- What may have been sent, and in which order, where a record is missing or cut.
use Rattle.std.specs.Prelude.{◌≡◌, ℕ, ◌==◌, ◌<◌, ◌⊎◌, Bool, true, false, ◌&&◌, List, [], length, find, slice_get, Option, Some, None, option_map, unwrap_or, IfSome, IsSome, Contains}
use Rattle.std.specs.List.{AllByRecursion}
use Rattle.srm_names.specs.Histories.{IsPrefix, Step, steps}
use Rattle.srm_codec.specs.declared.datagram.Datagram.{Datagram}
use Rattle.srm_codec.specs.Spelling.{sender_of}
use Rattle.srm_entries.specs.declared.entry.Entry.{Entry}
use Rattle.srm_entries.specs.Entries.{accepted, sent}
use Rattle.srm_world.specs.Traces.{of_member, IsHonest}
use Rattle.srm_gaps.specs.declared.told.Told.{Told}

-- what a record tells of this member, if there is one
abbrev pub told_of : List Told → ℕ → Option Told
told_of ts m = find (λ t. t.journal.start.config.me == m) ts

-- the calls of a member that are told; none if it has no record
abbrev pub calls_told : List Told → ℕ → List Entry
calls_told ts m = unwrap_or (option_map (λ t. t.journal.entries) (told_of ts m)) []

-- the member has no record, or one that is cut: it may have done more than is told
abbrev pub may_miss : List Told → ℕ → Bool
may_miss ts m = unwrap_or (option_map (λ t. t.is_cut) (told_of ts m)) true

-- behind these entries the member may have done anything: it may have done more than is told, and all that is told of it is among them
abbrev pub is_free : List Told → List Entry → ℕ → Bool
is_free ts es m = may_miss ts m && (length (of_member m es) == length (calls_told ts m))

-- the entries sent the datagram, or its sender may have done anything behind them
abbrev pub MayBeSent : List Told → List Entry → Datagram → Type 0
MayBeSent ts es g = Contains (sent es) g ⊎ (is_free ts es (sender_of g) ≡ true)

-- the entry hears a datagram that the entries didn't send, and whose sender did nothing behind them that isn't told
abbrev pub HearsImpossible : List Told → List Entry → Entry → Type 0
HearsImpossible ts es e = (g : Datagram) × (accepted e ≡ Some g) × ¬ (Contains (sent es) g) × (is_free ts es (sender_of g) ≡ false)

-- each entry hears nothing, or what may have been sent before it
abbrev pub IsPossible : List Told → List Entry → Type 0
IsPossible ts es = AllByRecursion (λ (s : Step Entry). IfSome (accepted s.this) (MayBeSent ts s.before)) (steps es)

-- all calls that are told, in a possible order
pub record HasOrder (ts : List Told) : Type 0 where
  pub es : List Entry
  pub all : (m : ℕ) → of_member m es ≡ calls_told ts m
  pub possible : IsPossible ts es

-- the next call of a member that is told
abbrev pub next_told : List Told → List Entry → ℕ → Option Entry
next_told ts es m = slice_get (calls_told ts m) (length (of_member m es))

-- Calls that are told, each member's from its first on, in a possible order that is stuck: no member's next one may follow.
pub record AreStuck (ts : List Told) (es : List Entry) : Type 0 where
  pub prefixes : (m : ℕ) → IsPrefix (of_member m es) (calls_told ts m)
  pub possible : IsPossible ts es
  pub waits : (m : ℕ) → IfSome (next_told ts es m) (HearsImpossible ts es)

-- Some order is stuck. This is the smallest member that has a call left then, and so many of its calls are in the order.
pub record IsStuckAt (ts : List Told) (member entry : ℕ) : Type 0 where
  pub es : List Entry
  pub stuck : AreStuck ts es
  pub left : IsSome (next_told ts es member)
  pub smallest : (m : ℕ) → m < member → next_told ts es m ≡ None
  pub count : entry ≡ length (of_member member es)

-- the entry sends nothing in the name of another member
abbrev pub SendsOwn : Entry → Type 0
SendsOwn e = AllByRecursion (λ g. sender_of g ≡ e.member) e.effects.outs

-- The entries of all members, in an honest order, none sending in the name of another. What is told of each member is what it did first, and all that it did unless more may be missing.
pub record Continues (ts : List Told) (es : List Entry) : Type 0 where
  pub honest : IsHonest es
  pub own : AllByRecursion SendsOwn es
  pub front : (m : ℕ) → IsPrefix (calls_told ts m) (of_member m es)
  pub whole : (m : ℕ) → may_miss ts m ≡ false → of_member m es ≡ calls_told ts m

-- whatever stands behind the cuts, and in the records that are missing
abbrev pub HasNoContinuation : List Told → Type 0
HasNoContinuation ts = (es : List Entry) → ¬ (Continues ts es)

-- an order is stuck there, and so no continuation is honest
abbrev pub IsRefusedAt : List Told → ℕ → ℕ → Type 0
IsRefusedAt ts member entry = IsStuckAt ts member entry × HasNoContinuation ts
