-- Which random numbers choose the waits in a node's journal, and where the journal is written to.
use Rattle.std.specs.Prelude.{◌≡◌, ℕ, List, ◌++◌}
use Rattle.srm_entries.specs.declared.entry.Entry.{Entry}
use Rattle.srm_world.specs.Traces.{Journal}
use Rattle.srm_world.specs.WaitWords.{RecorderView, AreByWords, RecordsByWords}

-- The settings stay, and the waits of the entries that the journal gained are by the next random numbers: one a timer, in order. No other was consumed. The journal is written to
-- the same record as before.
pub record WaitsByWords {W : Type 0} (next_word : W → ℕ × W) (old new : RecorderView W) : Type 0 where
  pub start : new.journal.start ≡ old.journal.start
  pub words : RecordsByWords next_word old new

-- A generator chose the waits in the entries that a journal gained until it was the last one: one random number a timer, in order. No other was consumed.
pub record ChosenByWords {W : Type 0} (next_word : W → ℕ × W) (journal : Journal) (words : W) (last : Journal) : Type 0 where
  pub added : List Entry
  pub grown : last.entries ≡ journal.entries ++ added
  pub to : W
  pub chosen : AreByWords next_word journal.start.config words added to
