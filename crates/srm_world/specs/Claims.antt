-- What holds of every honest run of several members.
use Rattle.std.specs.Prelude.{◌≡◌, ◌≢◌, ℕ, true, false, List, [], ◌∷◌, ◌++◌, map, Some, slice_get, Contains}
use Rattle.std.specs.List.{list_any, AllByRecursion}
use Rattle.srm_names.specs.declared.page.Page.{Page}
use Rattle.srm_names.specs.FullName.{FullName}
use Rattle.srm_names.specs.Histories.{IsPrefix}
use Rattle.srm_names.specs.PageFeeds.{drawops_of, leaves, is_page_feed}
use Rattle.srm_codec.specs.declared.datagram.Datagram.{Datagram}
use Rattle.srm_codec.specs.declared.datagram.Datagram.TheVariants.{Session}
use Rattle.srm_entries.specs.declared.fault.AgentFault.TheVariants.{Memory}
use Rattle.srm_entries.specs.declared.entry.Entry.{Entry}
use Rattle.srm_entries.specs.declared.entry.Verdict.TheVariants.{Refused}
use Rattle.srm_entries.specs.Entries.{accepted, known, is_missing, released, slots}
use Rattle.srm_names.specs.Names.{stream_on}
use Rattle.srm_entries.specs.Runs.{IsMemberRun, RespondsInTime}
use Rattle.srm_entries.specs.Promises.{GivesReleased}
use Rattle.srm_entries.specs.Rates.{KeepsRate}
use Rattle.srm_world.specs.declared.start.Start.{Start}
use Rattle.srm_world.specs.Traces.{Trace, Journal, of_member, drawn_by, taken_by, IsHonest, IsRun, IsHandable, IsUntaken}

-- What was taken in a slot is a page feed. In the slot of a page, what was taken of a source is a prefix of what that source
-- drew on the page, and the whole of it once the source's leaving was taken.
pub record TakesAreDrawn (es : List Entry) : Type 0 where
  pub prefix : (m j source : ℕ) (page : Page) → slice_get (slots (of_member m es)) j ≡ Some page
      → IsPrefix (drawops_of source (taken_by es m j)) (drawn_by es source page)
  pub whole : (m j source : ℕ) (page : Page) → slice_get (slots (of_member m es)) j ≡ Some page
      → list_any (leaves source) (taken_by es m j) ≡ true → drawops_of source (taken_by es m j) ≡ drawn_by es source page
  pub feeds : (m j : ℕ) → is_page_feed (taken_by es m j) ≡ true

abbrev pub TakesLaw : Type 0
TakesLaw = (t : Trace) → IsRun t → IsHonest t.entries → TakesAreDrawn t.entries

-- a session message of the member that isn't a farewell, for this page
abbrev pub IsSessionMessageOn : ℕ → Page → Datagram → Type 0
IsSessionMessageOn m page (Session sender sent farewell shown rows echoes) = (sender ≡ m) × (farewell ≡ false) × (shown ≡ page)
IsSessionMessageOn m page _ = ⊥

-- m heard a session message of k for the page, and since sending it k has come to know of nothing more there
pub record HeardLast (es : List Entry) (m k : ℕ) (page : Page) : Type 0 where
  pub session_message : Datagram
  pub before : List Entry
  pub sending : Entry
  pub after : List Entry
  pub split : es ≡ before ++ sending ∷ after
  pub of_k : sending.member ≡ k
  pub sent : Contains sending.effects.outs session_message
  pub is_session_message : IsSessionMessageOn k page session_message
  pub came : Contains (map accepted (of_member m after)) (Some session_message)
  pub same : (source : ℕ) → known (of_member k (before ++ sending ∷ [])) (stream_on source page) ≡ known (of_member k es) (stream_on source page)

abbrev pub NoneMissingOn : List Entry → Page → Type 0
NoneMissingOn es page = (n : FullName) → n.stream.page ≡ page → is_missing es n ≡ false

-- two members at rest on a page
pub record AtRest (es : List Entry) (m k : ℕ) (page : Page) : Type 0 where
  pub one : HeardLast es m k page
  pub other : HeardLast es k m page
  pub one_complete : NoneMissingOn (of_member m es) page
  pub other_complete : NoneMissingOn (of_member k es) page

-- two members know of the same drawops on a page, by source, and have released the same there
pub record AgreeOn (es : List Entry) (m k : ℕ) (page : Page) : Type 0 where
  pub knowledge : (source : ℕ) → known (of_member m es) (stream_on source page) ≡ known (of_member k es) (stream_on source page)
  pub releases : (source : ℕ) → released (of_member m es) (stream_on source page) ≡ released (of_member k es) (stream_on source page)

-- members at rest on a page agree there
abbrev pub AgreesAtRest : List Entry → Type 0
AgreesAtRest es = (m k : ℕ) (page : Page) → AtRest es m k page → AgreeOn es m k page

abbrev pub RestLaw : Type 0
RestLaw = (t : Trace) → IsRun t → IsHonest t.entries → AgreesAtRest t.entries

abbrev pub RespondsByItself : List Entry → Start → Type 0
RespondsByItself es a = RespondsInTime a.config (of_member a.config.me es)

-- each member responds in time
abbrev pub RespondsEach : Trace → Type 0
RespondsEach t = AllByRecursion (RespondsByItself t.entries) t.starts

abbrev pub GivesByItself : List Entry → Start → Type 0
GivesByItself es a = GivesReleased (of_member a.config.me es)

-- what each member gives is a page feed of what is released to it
abbrev pub GivesEach : Trace → Type 0
GivesEach t = AllByRecursion (GivesByItself t.entries) t.starts

abbrev pub KeepsRateByItself : List Entry → Start → Type 0
KeepsRateByItself es a = KeepsRate a.config (of_member a.config.me es)

-- each member sends in the order and no faster than its rate allows, and keeps nothing back that its tokens would pay for
abbrev pub KeepsRateEach : Trace → Type 0
KeepsRateEach t = AllByRecursion (KeepsRateByItself t.entries) t.starts

-- the trace is an honest run, and has all that holds of one
pub record IsLawful (t : Trace) : Type 0 where
  pub run : IsRun t
  pub honest : IsHonest t.entries
  pub takes : TakesAreDrawn t.entries
  pub rest : AgreesAtRest t.entries
  pub responds : RespondsEach t
  pub gives : GivesEach t
  pub rates : KeepsRateEach t

-- all that is claimed here holds of every honest run
abbrev pub LawfulLaw : Type 0
LawfulLaw = (t : Trace) → IsRun t → IsHonest t.entries → IsLawful t

-- none of the entries is of a call that was out of memory
abbrev pub NoneForMemory : List Entry → Type 0
NoneForMemory es = AllByRecursion (λ (e : Entry). e.verdict ≢ Refused Memory) es

-- The journal is a run of its member, whatever came to it: timers, bucket, session messages and verdicts are right. So the member responds in time, gives a page
-- feed of what is released, and keeps its rate. Each entry is of a call that a recorder takes, and so none is a page worker's take. No entry is of a call that was out of memory.
pub record IsLawfulJournal (j : Journal) : Type 0 where
  pub run : IsMemberRun j.start.config j.start.made j.entries
  pub responds : RespondsInTime j.start.config j.entries
  pub gives : GivesReleased j.entries
  pub rate : KeepsRate j.start.config j.entries
  pub handed : AllByRecursion IsHandable j.entries
  pub untaken : AllByRecursion IsUntaken j.entries
  pub memory : NoneForMemory j.entries
