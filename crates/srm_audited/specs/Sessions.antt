-- What came out of the records of a session, whose calls were made anew.
use Rattle.std.specs.Prelude.{◌≡◌, ℕ, ◌+◌, ◌≤◌, Bool, true, false, List, [], ◌∷◌, ◌++◌, length, map}
use Rattle.std.specs.List.{flat_map, AllByRecursion}
use Rattle.rand_pcg.specs.Lcg.{Lcg}
use Rattle.rand_pcg.specs.Pcg.{pcg64}
use Rattle.srm_names.specs.declared.limits.TheConstants.{PAGES}
use Rattle.srm_names.specs.declared.page_msg.PageMsg.{PageMsg}
use Rattle.srm_timers.specs.Seeds.{words_of}
use Rattle.srm_world.specs.Traces.{Journal}
use Rattle.srm_world.specs.Claims.{IsLawfulJournal}
use Rattle.srm_world.specs.WaitWords.{AreByWords}
use Rattle.srm_frames.specs.declared.reading.Record.{Record}
use Rattle.srm_frames.specs.declared.reading.RecordEnd.{RecordEnd}
use Rattle.srm_frames.specs.declared.reading.RecordEnd.TheVariants.{Whole, Cut}
use Rattle.srm_record.specs.declared.replaying.Replayed.{Replayed}
use Rattle.srm_record.specs.Allowances.{timers_allowed, timers_in}
use Rattle.srm_record.specs.Faults.{begun}
use Rattle.srm_record.specs.Making.{MakesAll}
use Rattle.srm_record.specs.Replays.{start_of, lines_told, TellsOfRuns}
use Rattle.srm_record.specs.Takes.{taken_in}
use Rattle.srm_audit.specs.declared.got.Got.{Got}
use Rattle.srm_gaps.specs.declared.told.Told.{Told}

-- the record ends before its member did
abbrev pub is_cut : RecordEnd → Bool
is_cut Whole = false
is_cut (Cut left) = true

-- what came out of a record's calls: what its member did, and what its page workers took
pub record Replay : Type 0 where
  pub told : Told
  pub lists : List (List PageMsg)

abbrev pub told_by : RecordEnd → Journal → Told
told_by end j = record { journal = j; is_cut = is_cut end }

abbrev pub replay_of : RecordEnd → Replayed → Replay
replay_of end p = record { told = told_by end p.journal; lists = taken_in p.taken.items }

-- A lawful run of the record's member, with the random numbers of its seed, made of the record's calls, and the record is the record of it and of a list for each page slot. It sets no more timers than one of the record's length may. Of every run that has this record the replay tells what acted and what was taken.
pub record IsReplayOf (r : Record) (p : Replay) : Type 0 where
  pub start : p.told.journal.start ≡ start_of r.beginning
  pub lawful : IsLawfulJournal p.told.journal
  pub words : (to : Lcg) × AreByWords pcg64 p.told.journal.start.config (words_of r.beginning.seed) p.told.journal.entries to
  pub made : MakesAll r.lines.items (begun r) p.told.journal
  pub told : r.lines.items ≡ lines_told r.beginning p.told.journal.entries p.lists r.end
  pub bounded : timers_in p.told.journal.entries ≤ timers_allowed (length r.lines.items)
  pub runs : TellsOfRuns r p.told.journal p.lists
  pub slots : length p.lists ≡ PAGES
  pub cut : p.told.is_cut ≡ is_cut r.end

abbrev pub AreReplaysOf : List Record → List Replay → Type 0
AreReplaysOf [] [] = Unit {0}
AreReplaysOf (r ∷ rs) (p ∷ ps) = IsReplayOf r p × AreReplaysOf rs ps
AreReplaysOf _ _ = ⊥

-- what the page workers of a member took, slot by slot from this one on
abbrev pub gots_from : ℕ → ℕ → List (List PageMsg) → List Got
gots_from m slot [] = []
gots_from m slot (list ∷ lists) = record { member = m; slot = slot; list = list } ∷ gots_from m (slot + 1) lists

abbrev pub gots_of : Replay → List Got
gots_of p = gots_from p.told.journal.start.config.me 0 p.lists

-- what the records tell of their members, and what page workers took, by replays of these records
pub record AreOf (rs : List Record) (ts : List Told) (gots : List Got) : Type 0 where
  pub replays : List Replay
  pub each : AreReplaysOf rs replays
  pub told : ts ≡ map (λ (p : Replay). p.told) replays
  pub lists : gots ≡ flat_map gots_of replays

abbrev pub HasAllSlots : Replay → Type 0
HasAllSlots p = length p.lists ≡ PAGES

-- of each member that is told of there is one list for each page slot, and there are no others
pub record AreListed (ts : List Told) (gots : List Got) : Type 0 where
  pub replays : List Replay
  pub slots : AllByRecursion HasAllSlots replays
  pub told : ts ≡ map (λ (p : Replay). p.told) replays
  pub lists : gots ≡ flat_map gots_of replays

-- a replay of the record is added
pub record Adds (r : Record) (ts : List Told) (gots : List Got) (us : List Told) (more : List Got) : Type 0 where
  pub replay : Replay
  pub is : IsReplayOf r replay
  pub told : us ≡ ts ++ replay.told ∷ []
  pub lists : more ≡ gots ++ gots_of replay
