-- What making a call anew does to the journal of a recorder.
use Rattle.std.specs.Prelude.{◌≡◌, ℕ, nat_lt, min, List, [], ◌∷◌, Option, Some, None, MatchBool}
use Rattle.srm_names.specs.declared.limits.TheConstants.{LATEST_MOMENT, PAGES}
use Rattle.srm_entries.specs.declared.entry.Entry.{Entry}
use Rattle.srm_entries.specs.declared.entry.Input.{Input}
use Rattle.srm_entries.specs.declared.entry.Input.TheVariants.{Drew, Ticked, Showed, AskedLeave, Gave}
use Rattle.srm_entries.specs.Entries.{last_moment}
use Rattle.srm_entries.specs.Hearing.{bytes_heard}
use Rattle.srm_world.specs.Traces.{Journal}
use Rattle.srm_world.specs.Recording.{Grows}
use Rattle.srm_frames.specs.declared.line.Line.{Line}
use Rattle.srm_frames.specs.declared.line.Call.{Call}
use Rattle.srm_frames.specs.declared.line.Call.TheVariants as calls

-- one more entry, of this input
pub record Gains (now : Option ℕ) (input : Input) (old new : Journal) : Type 0 where
  pub entry : Entry
  pub grows : Grows now old new entry
  pub is : entry.input ≡ input

-- one more entry, of what these bytes are to the member
pub record GainsHeard (now : ℕ) (bytes : List ℕ) (old new : Journal) : Type 0 where
  pub entry : Entry
  pub grows : Grows (Some now) old new entry
  pub is : (entry.input, entry.verdict) ≡ bytes_heard old.start.config old.entries bytes

-- The member hears noise of no bytes if the moment hadn't come; else nothing happens.
abbrev pub Waits : ℕ → Journal → Journal → Type 0
Waits now old new = MatchBool (nat_lt (last_moment old.start.made old.entries) now) (GainsHeard now [] old new) (new ≡ old)

-- the moment came, and the next message of the slot was asked for
pub record GainsGiven (now slot : ℕ) (old new : Journal) : Type 0 where
  pub between : Journal
  pub waits : Waits now old between
  pub gains : Gains None (Gave slot) between new

-- the call was made at a moment, or there is no such slot
abbrev pub Makes : ℕ → Call → Journal → Journal → Type 0
Makes now (calls.Drew page body) old new = Gains (Some now) (Drew page body) old new
Makes now (calls.Heard bytes) old new = GainsHeard now bytes old new
Makes now calls.Ticked old new = Gains (Some now) Ticked old new
Makes now (calls.Showed page) old new = Gains (Some now) (Showed page) old new
Makes now calls.AskedLeave old new = Gains (Some now) AskedLeave old new
Makes now (calls.Gave slot) old new = MatchBool (nat_lt slot PAGES) (GainsGiven now slot old new) (new ≡ old)
Makes now (calls.Took slot message) old new = new ≡ old
Makes now calls.Ended old new = new ≡ old

-- the calls of these lines were made, in order
abbrev pub MakesAll : List Line → Journal → Journal → Type 0
MakesAll [] old new = new ≡ old
MakesAll (l ∷ ls) old new = (between : Journal) × Makes (min l.moment LATEST_MOMENT) l.call old between × MakesAll ls between new
