-- Calls while they are put into one order.
use Rattle.std.specs.Prelude.{◌≡◌, ℕ, ◌+◌, ◌-◌, ◌<◌, ◌≤◌, min, ◌==◌, Bool, true, false, ◌&&◌, MatchBool, List, [], ◌∷◌, ◌++◌, length, slice_get, slice_set, unwrap_or, Option, Some, None, IfSome, IsSome}
use Rattle.std.specs.List.{AllByRecursion}
use Rattle.srm_names.specs.Histories.{IsPrefix}
use Rattle.srm_entries.specs.declared.entry.Entry.{Entry}
use Rattle.srm_entries.specs.Entries.{accepted, sent}
use Rattle.srm_world.specs.Traces.{of_member}
use Rattle.srm_audit.specs.Spellings.{Knows}
use Rattle.srm_audit.specs.Queues.{IsReadable}
use Rattle.srm_gaps.specs.declared.told.Told.{Told}
use Rattle.srm_gaps.specs.Possible.{calls_told, may_miss, IsPossible, MayBeSent, HearsImpossible}

-- how many calls of each member are in order, and the bytes of what they sent
pub record OrderView : Type 0 where
  pub counts : List ℕ
  pub spellings : List (List ℕ)

abbrev pub count_in : List ℕ → ℕ → ℕ
count_in counts m = unwrap_or (slice_get counts m) 0

-- the entries are so many of each member, and sent this
pub record IsOrderOf (es : List Entry) (v : OrderView) : Type 0 where
  pub counts : (m : ℕ) → count_in v.counts m ≡ length (of_member m es)
  pub knows : Knows (sent es) v.spellings

-- an entry more
pub record Enters (e : Entry) (old new : OrderView) : Type 0 where
  pub each : (es : List Entry) → IsOrderOf es old → IsOrderOf (es ++ e ∷ []) new
  pub counts : new.counts ≡ slice_set old.counts e.member (count_in old.counts e.member + 1)
  pub room : e.member < length old.counts

-- an entry of this member, whose datagrams can be spelled
pub record IsCallOf (m : ℕ) (e : Entry) : Type 0 where
  pub member : e.member ≡ m
  pub readable : IsReadable e

-- some calls that are told are in a possible order, each member's from its first on
pub record Comes (ts : List Told) (v : OrderView) : Type 0 where
  pub es : List Entry
  pub of : IsOrderOf es v
  pub prefixes : (m : ℕ) → IsPrefix (of_member m es) (calls_told ts m)
  pub possible : IsPossible ts es

-- how many calls are left, of the members from this one on
abbrev pub calls_left : List Told → ℕ → List ℕ → ℕ
calls_left ts m [] = 0
calls_left ts m (n ∷ ns) = (length (calls_told ts m) - n) + calls_left ts (m + 1) ns

abbrev pub next_by : List Told → OrderView → ℕ → Option Entry
next_by ts v m = slice_get (calls_told ts m) (count_in v.counts m)

abbrev pub is_free_by : List Told → OrderView → ℕ → Bool
is_free_by ts v m = may_miss ts m && (count_in v.counts m == length (calls_told ts m))

-- whether an entry may follow
abbrev pub MayFollow : List Told → OrderView → Entry → Bool → Type 0
MayFollow ts v e true = (es : List Entry) → IsOrderOf es v → IfSome (accepted e) (MayBeSent ts es)
MayFollow ts v e false = (es : List Entry) → IsOrderOf es v → HearsImpossible ts es e

-- no call of the member is left, or the next one may not follow
abbrev pub IsStalled : List Told → OrderView → ℕ → Type 0
IsStalled ts v m = IfSome (next_by ts v m) (λ e. MayFollow ts v e false)

-- calls were put in order, one or more
pub record Advances (ts : List Told) (old new : OrderView) : Type 0 where
  pub comes : Comes ts new
  pub less : calls_left ts 0 new.counts < calls_left ts 0 old.counts

-- whether calls of a member were put in order; if none was, none may follow
abbrev pub Goes : List Told → ℕ → OrderView → OrderView → Bool → Type 0
Goes ts m old new went = MatchBool went (Advances ts old new) ((new ≡ old) × IsStalled ts old m)

-- whether calls of these members were put in order; if none was, none may follow
abbrev pub Tries : List Told → List Told → OrderView → OrderView → Bool → Type 0
Tries tried ts old new moved = MatchBool moved (Advances ts old new) ((new ≡ old) × AllByRecursion (λ (t : Told). IsStalled ts old t.journal.start.config.me) tried)

-- no member's next call may follow
pub record Stops (ts : List Told) (v : OrderView) : Type 0 where
  pub comes : Comes ts v
  pub stalled : AllByRecursion (λ (t : Told). IsStalled ts v t.journal.start.config.me) ts

-- no call is left of these members
abbrev pub NoneLeft : List Told → List Told → OrderView → Type 0
NoneLeft tried ts v = AllByRecursion (λ (t : Told). next_by ts v t.journal.start.config.me ≡ None) tried

-- of these members this is the smallest that has a call left
abbrev pub IsFirstLeft : List Told → List Told → OrderView → ℕ → Type 0
IsFirstLeft tried ts v m = IsSome (next_by ts v m) × AllByRecursion (λ (t : Told). IsSome (next_by ts v t.journal.start.config.me) → m ≤ t.journal.start.config.me) tried

abbrev pub smaller : Option ℕ → ℕ → Option ℕ
smaller None m = Some m
smaller (Some other) m = Some (min other m)
