-- Runs whose members did what is told, by what acts, and their orders with what is told in place of what was done.
use Rattle.std.specs.Prelude.{◌≡◌, ℕ, ◌==◌, ◌<◌, false, List, [], ◌∷◌, ◌++◌, length, if◌then◌else◌, IsSome}
use Rattle.std.specs.List.{AllByRecursion}
use Rattle.srm_names.specs.Histories.{IsPrefix}
use Rattle.srm_entries.specs.declared.entry.Entry.{Entry}
use Rattle.srm_entries.specs.Entries.{sent}
use Rattle.srm_entries.specs.Runs.{IsMemberRun}
use Rattle.srm_world.specs.Traces.{Trace, of_member, IsHonest, IsRun}
use Rattle.srm_replays.specs.Calls.{acts}
use Rattle.srm_replays.specs.Law.{acting}
use Rattle.srm_gaps.specs.declared.told.Told.{Told}
use Rattle.srm_gaps.specs.Gaps.{AreOfOneSession}
use Rattle.srm_gaps.specs.Possible.{told_of, calls_told, may_miss, Continues, IsRefusedAt}

-- the calls in front of the first that acts
abbrev pub idle_front : List Entry → List Entry
idle_front [] = []
idle_front (r ∷ rs) = if acts r then [] else r ∷ idle_front rs

-- the calls behind the first that acts
abbrev pub behind_acting : List Entry → List Entry
behind_acting [] = []
behind_acting (r ∷ rs) = if acts r then rs else behind_acting rs

-- The order with a replay in place of what this member did. Its calls that don't act are left out; those of the replay are put in, each in front of the call that acts next, or at the end.
abbrev pub with_replay : ℕ → List Entry → List Entry → List Entry
with_replay m replay [] = idle_front replay
with_replay m replay (e ∷ es) =
    if e.member == m then (if acts e then idle_front replay ++ e ∷ with_replay m (behind_acting replay) es else with_replay m replay es) else e ∷ with_replay m replay es

-- the order with what is told in place of what each member did
abbrev pub with_replays : List Told → List Entry → List Entry
with_replays [] es = es
with_replays (t ∷ ts) es = with_replay t.journal.start.config.me t.journal.entries (with_replays ts es)

-- What acts in each member's part begins with what acts in what is told of it, and is no more unless more may be missing.
pub record DoAsTold (ts : List Told) (es : List Entry) : Type 0 where
  pub front : (m : ℕ) → IsPrefix (acting (calls_told ts m)) (acting (of_member m es))
  pub whole : (m : ℕ) → may_miss ts m ≡ false → acting (of_member m es) ≡ acting (calls_told ts m)

-- an honest run of all members of a session, who did what is told
pub record IsRunAsTold (ts : List Told) (t : Trace) : Type 0 where
  pub run : IsRun t
  pub honest : IsHonest t.entries
  pub did : DoAsTold ts t.entries

-- what is told of a member is a run of it
abbrev pub IsRunTold : Told → Type 0
IsRunTold t = IsMemberRun t.journal.start.config t.journal.start.made t.journal.entries

abbrev pub AreRunsTold : List Told → Type 0
AreRunsTold ts = AllByRecursion IsRunTold ts

-- With what is told in place of what was done, the order is as honest, what acts in it is the same, and each member's part begins with what is told of it.
abbrev pub RetellingLaw : Type 0
RetellingLaw = (ts : List Told) (t : Trace) → AreRunsTold ts → IsRunAsTold ts t → Continues ts (with_replays ts t.entries) × (acting (with_replays ts t.entries) ≡ acting t.entries)

-- So where calls that are told are refused, no honest run is one whose members did what is told.
abbrev pub RefusalLaw : Type 0
RefusalLaw = (ts : List Told) (member entry : ℕ) (t : Trace) → AreRunsTold ts → IsRefusedAt ts member entry → ¬ (IsRunAsTold ts t)

-- each member of the run is told of, and sent no more than what is told
pub record TellAllSent (ts : List Told) (t : Trace) : Type 0 where
  pub each : (m : ℕ) → m < length t.starts → IsSome (told_of ts m)
  pub sent : (m : ℕ) → sent (of_member m t.entries) ≡ sent (calls_told ts m)

-- all calls that are told, and no others, in an honest order
pub record HasHonestOrder (ts : List Told) : Type 0 where
  pub es : List Entry
  pub all : (m : ℕ) → of_member m es ≡ calls_told ts m
  pub honest : IsHonest es

-- Where all that was sent is told, the calls that are told have an honest order by themselves.
abbrev pub OrderLaw : Type 0
OrderLaw = (ts : List Told) (t : Trace) → AreRunsTold ts → AreOfOneSession ts → IsRunAsTold ts t → TellAllSent ts t → HasHonestOrder ts
