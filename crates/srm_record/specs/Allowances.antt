-- How many timers the calls of a record may set when they are made anew, and which line passes that.
use Rattle.std.specs.Prelude.{◌≡◌, ℕ, ◌+◌, ◌-◌, ◌*◌, ◌^◌, ◌<◌, ◌≤◌, ◌⊎◌, min, List, length, take, slice_get, Some}
use Rattle.rand_pcg.specs.Lcg.{Lcg}
use Rattle.rand_pcg.specs.Pcg.{pcg64}
use Rattle.srm_names.specs.declared.limits.TheConstants.{LATEST_MOMENT}
use Rattle.srm_entries.specs.declared.entry.Entry.{Entry}
use Rattle.srm_entries.specs.Configs.{Config}
use Rattle.srm_entries.specs.Outstanding.{WouldMiss}
use Rattle.srm_world.specs.Traces.{Journal}
use Rattle.srm_world.specs.Claims.{IsLawfulJournal}
use Rattle.srm_world.specs.WaitWords.{arms_in, RecorderView, RecordsByWords}
use Rattle.srm_frames.specs.declared.line.Line.{Line}
use Rattle.srm_frames.specs.declared.line.Call.{Call}
use Rattle.srm_frames.specs.declared.line.Call.TheVariants as calls
use Rattle.srm_record.specs.declared.allowance.TheConstants.{TIMERS, TIMERS_PER_LINE}
use Rattle.srm_record.specs.Making.{Makes, MakesAll}

-- of a record with so many lines
abbrev pub timers_allowed : ℕ → ℕ
timers_allowed lines = min (TIMERS + TIMERS_PER_LINE * lines) (2 ^ 64 - 1)

-- how many timers entries set
abbrev pub timers_in : List Entry → ℕ
timers_in es = length (arms_in es)

-- A call would make so many names missing. Only what is heard shows that a name exists.
abbrev pub WouldLearn : Config → List Entry → Call → ℕ → Type 0
WouldLearn c es (calls.Heard bytes) count = WouldMiss c es bytes count
WouldLearn c es call count = count ≡ 0

-- The calls before this line set no more timers than they may. With a timer for each name that its call would make missing they would set more, and it wasn't made; or it was, and they set more.
pub record SetsTooMany (lines : List Line) (from to : Journal) (place : ℕ) : Type 0 where
  pub before : Journal
  pub line : Line
  pub learned : ℕ
  pub made : MakesAll (take place lines) from before
  pub here : slice_get lines place ≡ Some line
  pub few : timers_in before.entries ≤ timers_allowed (length lines)
  pub learns : WouldLearn before.start.config before.entries line.call learned
  pub more : ((to ≡ before) × timers_allowed (length lines) < timers_in before.entries + learned)
      ⊎ ((timers_in before.entries + learned ≤ timers_allowed (length lines)) × Makes (min line.moment LATEST_MOMENT) line.call before to × timers_allowed (length lines) < timers_in to.entries)

-- At this line the calls of a recorder that did nothing yet set too many timers. It made them by its own random numbers, and what it did is lawful.
pub record IsTooMuch (from : RecorderView Lcg) (lines : List Line) (place : ℕ) : Type 0 where
  pub journal : Journal
  pub start : journal.start ≡ from.journal.start
  pub lawful : IsLawfulJournal journal
  pub words : (to : Lcg) × RecordsByWords pcg64 from (record { journal = journal; words = to; begins = from.begins })
  pub sets : SetsTooMany lines from.journal journal place
