-- Which random numbers chose the waits of a run.
use Rattle.std.specs.Prelude.{◌≡◌, ℕ, List, ◌++◌, length, flat_map, Option, Some, slice_get}
use Rattle.srm_timers.specs.declared.arm.Arm.{Arm}
use Rattle.srm_timers.specs.Arms.{AreChosen}
use Rattle.srm_entries.specs.declared.entry.Entry.{Entry}
use Rattle.srm_entries.specs.Configs.{Config}
use Rattle.srm_entries.specs.Timers.{low_of, high_of}
use Rattle.srm_world.specs.declared.start.Start.{Start}
use Rattle.srm_world.specs.Traces.{Trace, Journal, of_member}
use Rattle.srm_world.specs.RecordStarts.{RecordStart}

-- what contracts see of a recorder: its journal, the state of its generator, and how the record begins that its history is written to, if it is written to one
pub record RecorderView (W : Type 0) : Type 0 where
  pub journal : Journal
  pub words : W
  pub begins : Option RecordStart

-- what contracts see of a world: its trace, and the state of each member's generator
pub record WorldView (W : Type 0) : Type 0 where
  pub trace : Trace
  pub words : List W

-- the timers that entries set, in order
abbrev pub arms_in : List Entry → List Arm
arms_in es = flat_map (λ (e : Entry). e.effects.arms) es

-- The generator of a member chose the waits in these entries, one number a timer, in order. The entries consume no other number.
abbrev pub AreByWords : {W : Type 0} → (W → ℕ × W) → Config → W → List Entry → W → Type 0
AreByWords next_word c from es to = AreChosen next_word (low_of c) (high_of c) from (arms_in es) to

-- In these entries of several members, the generator of each chose its waits. A world always has as many generators as members.
pub record AreByOwnWords {W : Type 0} (next_word : W → ℕ × W) (starts : List Start) (from : List W) (es : List Entry) (to : List W) : Type 0 where
  pub count : length to ≡ length from
  pub each : (m : ℕ) (a : Start) (u v : W) → slice_get starts m ≡ Some a → slice_get from m ≡ Some u → slice_get to m ≡ Some v → AreByWords next_word a.config u (of_member m es) v

-- The generator chose the waits in the entries that the journal has gained. The history is written to the same record as before, or to none as before.
pub record RecordsByWords {W : Type 0} (next_word : W → ℕ × W) (old new : RecorderView W) : Type 0 where
  pub added : List Entry
  pub grown : new.journal.entries ≡ old.journal.entries ++ added
  pub words : AreByWords next_word old.journal.start.config old.words added new.words
  pub begins : new.begins ≡ old.begins

-- the generators chose the waits in the entries that the trace has gained
pub record PlaysByWords {W : Type 0} (next_word : W → ℕ × W) (old new : WorldView W) : Type 0 where
  pub added : List Entry
  pub grown : new.trace.entries ≡ old.trace.entries ++ added
  pub words : AreByOwnWords next_word old.trace.starts old.words added new.words
