-- Whose record a record is, and what making its calls anew does.
use Rattle.std.specs.Prelude.{◌≡◌, ℕ, List, length}
use Rattle.std.specs.List.{AllByRecursion}
use Rattle.rand_pcg.specs.Lcg.{Lcg}
use Rattle.rand_pcg.specs.Pcg.{pcg64}
use Rattle.srm_names.specs.declared.limits.TheConstants.{PAGES}
use Rattle.srm_names.specs.declared.page_msg.PageMsg.{PageMsg}
use Rattle.srm_timers.specs.Seeds.{words_of}
use Rattle.srm_entries.specs.declared.entry.Entry.{Entry}
use Rattle.srm_world.specs.declared.start.Start.{Start}
use Rattle.srm_world.specs.Traces.{Journal}
use Rattle.srm_world.specs.Claims.{IsLawfulJournal}
use Rattle.srm_world.specs.WaitWords.{RecorderView, AreByWords, RecordsByWords}
use Rattle.srm_replays.specs.Law.{acting}
use Rattle.srm_frames.specs.declared.beginning.Beginning.{Beginning}
use Rattle.srm_frames.specs.declared.line.Line.{Line}
use Rattle.srm_frames.specs.declared.reading.Record.{Record}
use Rattle.srm_frames.specs.declared.reading.RecordEnd.{RecordEnd}
use Rattle.srm_frames.specs.declared.reading.RecordEnd.TheVariants.{Whole, Cut}
use Rattle.srm_frames.specs.WhatIsRead.{IsBeginning, IsLine}
use Rattle.srm_record.specs.Records.{lines_with_takes, whole_lines}

-- the settings of a member and when it was made
abbrev pub start_of : Beginning → Start
start_of b = record { config = b.config; made = b.made }

-- It is still of the member that began so, and its waits are by the next random numbers.
pub record GoesOn {W : Type 0} (next_word : W → ℕ × W) (old new : RecorderView W) : Type 0 where
  pub start : new.journal.start ≡ old.journal.start
  pub words : RecordsByWords next_word old new

-- the lines of a member that began so and did this, and of what its page workers took: whole, or as far as it has come
abbrev pub lines_told : Beginning → List Entry → List (List PageMsg) → RecordEnd → List Line
lines_told b es lists Whole = whole_lines b es lists
lines_told b es lists (Cut left) = lines_with_takes b es lists

-- The record is of this run: of a member that began so, with the random numbers of the seed, and whose page workers took these lists, one a slot.
pub record IsRecordOf (r : Record) (j : Journal) (lists : List (List PageMsg)) : Type 0 where
  pub start : j.start ≡ start_of r.beginning
  pub lawful : IsLawfulJournal j
  pub words : (to : Lcg) × AreByWords pcg64 j.start.config (words_of r.beginning.seed) j.entries to
  pub slots : length lists ≡ PAGES
  pub lines : r.lines.items ≡ lines_told r.beginning j.entries lists r.end

-- it stands in bytes: its beginning and each of its lines has a spelling
pub record IsSpelled (r : Record) : Type 0 where
  pub beginning : IsBeginning r.beginning
  pub lines : AllByRecursion IsLine r.lines.items

-- no run has this record, whatever it may have done
abbrev pub IsOfNoRun : Record → Type 0
IsOfNoRun r = IsSpelled r → (j : Journal) (lists : List (List PageMsg)) → IsRecordOf r j lists → ⊥

-- Of every run that has this record: the same calls acted in it as in the journal, with the same entries, and its page workers took these lists.
abbrev pub TellsOfRuns : Record → Journal → List (List PageMsg) → Type 0
TellsOfRuns r k lists = IsSpelled r → (j : Journal) (took : List (List PageMsg)) → IsRecordOf r j took → (acting k.entries ≡ acting j.entries) × (lists ≡ took)
