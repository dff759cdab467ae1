-- Why a record's calls, made anew, give no replay.
use Rattle.std.specs.Prelude.{◌≡◌, ℕ, ◌<◌, ◌≤◌, List, [], None}
use Rattle.rand_pcg.specs.Lcg.{Lcg}
use Rattle.rand_pcg.specs.Pcg.{pcg64}
use Rattle.srm_names.specs.declared.limits.TheConstants.{LATEST_MOMENT}
use Rattle.srm_timers.specs.Seeds.{words_of}
use Rattle.srm_world.specs.Traces.{Journal}
use Rattle.srm_world.specs.Claims.{IsLawfulJournal}
use Rattle.srm_world.specs.WaitWords.{AreByWords, RecorderView}
use Rattle.srm_frames.specs.declared.beginning.Beginning.{Beginning}
use Rattle.srm_frames.specs.declared.line.Line.{Line}
use Rattle.srm_frames.specs.declared.reading.Record.{Record}
use Rattle.srm_record.specs.declared.fault.RetellFault.{RetellFault}
use Rattle.srm_record.specs.declared.fault.RetellFault.TheVariants.{Untold, TooMuch, Memory}
use Rattle.srm_record.specs.Allowances.{IsTooMuch, SetsTooMany}
use Rattle.srm_record.specs.Differing.{IsFirstOther}
use Rattle.srm_record.specs.Making.{MakesAll}
use Rattle.srm_record.specs.Replays.{start_of, lines_told, IsOfNoRun}
use Rattle.srm_record.specs.Takes.{lists_in}

-- a recorder of a member that began so and did nothing yet, with the random numbers of its seed
abbrev pub recorder_of : Beginning → RecorderView Lcg
recorder_of b = record { journal = record { start = start_of b; entries = [] }; words = words_of b.seed; begins = None }

-- the journal of a record's member before its first call
abbrev pub begun : Record → Journal
begun r = (recorder_of r.beginning).journal

-- The record's calls were made anew, with the random numbers of its seed. Its lines are those that a member writes who did this, up to this place and no further.
pub record DiffersAt (r : Record) (place : ℕ) : Type 0 where
  pub journal : Journal
  pub start : journal.start ≡ start_of r.beginning
  pub lawful : IsLawfulJournal journal
  pub words : (to : Lcg) × AreByWords pcg64 journal.start.config (words_of r.beginning.seed) journal.entries to
  pub made : MakesAll r.lines.items (begun r) journal
  pub first : IsFirstOther r.lines.items (lines_told r.beginning journal.entries (lists_in r.lines.items) r.end) place

-- No run has the record. This line is the first that differs; the very first, if its member can't have been made then.
pub record IsUntoldFrom (r : Record) (place : ℕ) : Type 0 where
  pub of_none : IsOfNoRun r
  pub differs : r.beginning.made ≤ LATEST_MOMENT → DiffersAt r place
  pub late : LATEST_MOMENT < r.beginning.made → place ≡ 0

-- A recorder whose journal was this before didn't make all calls of lines, and its journal is this now.
abbrev pub IsStoppedIn : List Line → Journal → Journal → RetellFault → Type 0
IsStoppedIn lines from to (Untold place) = ⊥
IsStoppedIn lines from to (TooMuch place) = SetsTooMany lines from to place
IsStoppedIn lines from to Memory = Unit {0}

-- a recorder that did nothing yet didn't make them all
abbrev pub IsStopped : RecorderView Lcg → List Line → RetellFault → Type 0
IsStopped from lines (Untold place) = ⊥
IsStopped from lines (TooMuch place) = IsTooMuch from lines place
IsStopped from lines Memory = Unit {0}

abbrev pub IsRetellFault : Record → RetellFault → Type 0
IsRetellFault r (Untold place) = IsUntoldFrom r place
IsRetellFault r (TooMuch place) = IsTooMuch (recorder_of r.beginning) r.lines.items place
IsRetellFault r Memory = Unit {0}
