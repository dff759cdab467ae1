-- Traces of several members: which are runs, and which are honest.
use Rattle.std.specs.Prelude.{◌≡◌, ℕ, ◌==◌, ◌<◌, ◌≤◌, Bool, true, false, List, length, map, filter, IfSome, Contains}
use Rattle.std.specs.List.{AllByRecursion, enumerate_from}
use Rattle.srm_names.specs.declared.limits.TheConstants.{LATEST_MOMENT, PAGES}
use Rattle.srm_names.specs.declared.page.Page.{Page}
use Rattle.srm_names.specs.declared.drawop.Drawop.{Drawop}
use Rattle.srm_names.specs.declared.page_msg.PageMsg.{PageMsg}
use Rattle.srm_names.specs.Histories.{Step, steps}
use Rattle.srm_codec.specs.Spelling.{is_page}
use Rattle.srm_entries.specs.declared.entry.Entry.{Entry}
use Rattle.srm_entries.specs.declared.entry.Input.{Input}
use Rattle.srm_entries.specs.declared.entry.Input.TheVariants.{Drew, Showed, Gave, Took}
use Rattle.srm_entries.specs.Configs.{Config}
use Rattle.srm_entries.specs.Entries.{accepted, sent, drawn_on}
use Rattle.srm_entries.specs.Giving.{taken}
use Rattle.srm_entries.specs.Runs.{IsMemberRun}
use Rattle.srm_world.specs.declared.start.Start.{Start}

-- how the members of a session began, and the entries of all of them in one order
pub record Trace : Type 0 where
  pub starts : List Start
  pub entries : List Entry

-- the same for one member
pub record Journal : Type 0 where
  pub start : Start
  pub entries : List Entry

abbrev pub is_take : Input → Bool
is_take (Took slot) = true
is_take _ = false

-- the entry is of a call of an agent, and not of a page worker's take
abbrev pub IsUntaken : Entry → Type 0
IsUntaken e = is_take e.input ≡ false

-- A recorder takes it: a page in its range, a page slot 0 to 7, and no take.
abbrev pub CanBeHanded : Input → Type 0
CanBeHanded (Drew page body) = is_page page
CanBeHanded (Showed page) = is_page page
CanBeHanded (Gave slot) = slot < PAGES
CanBeHanded (Took slot) = ⊥
CanBeHanded _ = Unit {0}

-- The call is one that a recorder takes, at a moment up to 2^48.
pub record IsHandable (e : Entry) : Type 0 where
  pub moment : e.moment ≤ LATEST_MOMENT
  pub input : CanBeHanded e.input

-- how members with these settings begin, at moment 0
abbrev pub started : List Config → List Start
started configs = map (λ (c : Config). record { config = c; made = 0 }) configs

-- the entries of one member
abbrev pub of_member : ℕ → List Entry → List Entry
of_member m es = filter (λ (e : Entry). e.member == m) es

-- what a source drew on a page
abbrev pub drawn_by : List Entry → ℕ → Page → List Drawop
drawn_by es source page = drawn_on page (of_member source es)

-- what the workers of a member took in a slot
abbrev pub taken_by : List Entry → ℕ → ℕ → List PageMsg
taken_by es m j = taken (of_member m es) j

-- each datagram that was heard and accepted had been sent before
abbrev pub IsHonest : List Entry → Type 0
IsHonest es = AllByRecursion (λ (s : Step Entry). IfSome (accepted s.this) (Contains (sent s.before))) (steps es)

-- the settings at a place are those of this member, in a roster of so many
abbrev pub IsAtPlace : ℕ → ℕ × Start → Type 0
IsAtPlace members p = (p.1.config.me ≡ p.0) × (p.1.config.members ≡ members)

abbrev pub SameSession : Start → Start → Type 0
SameSession a b = a.config.session ≡ b.config.session

-- at least one member, and one configuration for each member of one roster, in order, in one session
pub record IsRoster (starts : List Start) : Type 0 where
  pub some : 0 < length starts
  pub places : AllByRecursion (IsAtPlace (length starts)) (enumerate_from 0 starts)
  pub session : AllByRecursion (λ (a : Start). AllByRecursion (SameSession a) starts) starts

abbrev pub IsRunOfMember : List Entry → Start → Type 0
IsRunOfMember es a = IsMemberRun a.config a.made (of_member a.config.me es)

-- for each member its own entries are a run, and there are no others
pub record IsRunOf (starts : List Start) (es : List Entry) : Type 0 where
  pub roster : IsRoster starts
  pub inside : AllByRecursion (λ (e : Entry). e.member < length starts) es
  pub each : AllByRecursion (IsRunOfMember es) starts

abbrev pub IsRun : Trace → Type 0
IsRun t = IsRunOf t.starts t.entries

-- the entries are a run of the member, of calls that a recorder takes
pub record IsJournal (j : Journal) : Type 0 where
  pub run : IsMemberRun j.start.config j.start.made j.entries
  pub handed : AllByRecursion IsHandable j.entries
