-- Where calls that are made anew set more timers than they may.
use Rattle.std.proofs.Common.{◌≡◌, ℕ, ◌+◌, ◌<◌, ◌≤◌, min, List, [], length, get_or, take, drop, refl, sym, ap, subst, ◌∙◌, inl, inr, arith}
use Rattle.std.specs.Prelude.{Some}
use Rattle.std.proofs.lemmas.Option.{slice_get-get_or}
use Rattle.rand_pcg.specs.Lcg.{Lcg}
use Rattle.rand_pcg.specs.Pcg.{pcg64}
use Rattle.srm_names.specs.declared.limits.TheConstants.{LATEST_MOMENT}
use Rattle.srm_entries.specs.declared.entry.Entry.{Entry}
use Rattle.srm_world.specs.Traces.{Journal}
use Rattle.srm_world.specs.Claims.{IsLawfulJournal}
use Rattle.srm_world.specs.WaitWords.{RecorderView}
use Rattle.srm_frames.specs.declared.line.Line.{Line}
use Rattle.srm_frames.specs.declared.line.Call.{Call}
use Rattle.srm_frames.specs.declared.reading.Record.{Record}
use Rattle.srm_record.specs.declared.fault.RetellFault.{RetellFault}
use Rattle.srm_record.specs.declared.fault.RetellFault.TheVariants.{Untold, TooMuch, Memory}
use Rattle.srm_record.specs.Allowances.{timers_allowed, timers_in, WouldLearn, SetsTooMany}
use Rattle.srm_record.specs.Faults.{recorder_of, IsStopped, IsStoppedIn, IsRetellFault}
use Rattle.srm_record.specs.Making.{Makes, MakesAll}
use Rattle.srm_record.specs.Replays.{GoesOn}
use Rattle.srm_record.proofs.GoingOn.{records_to_end}
use Rattle.srm_record.proofs.Making.{timers_go_on}

-- at first all are left
pub all_left : (allowed left : ℕ) (es : List Entry) → es ≡ [] → left ≡ allowed → left + timers_in es ≡ allowed
all_left allowed left es none is = let set : timers_in es ≡ 0 = ap timers_in none in omega arith

-- so many are left behind a call
pub left_behind : (allowed left rest now : ℕ) (call : Call) (j k : Journal) → Makes now call j k → left + timers_in j.entries ≡ allowed → rest + timers_in (drop (length j.entries) k.entries) ≡ left
    → rest + timers_in k.entries ≡ allowed
left_behind allowed left rest now call j k makes so spent =
    let grown : timers_in k.entries ≡ timers_in j.entries + timers_in (drop (length j.entries) k.entries) = timers_go_on now call j k makes in
    omega arith

-- a call would make more names missing than timers are left
pub would_set_too_many : (lines : List Line) (place left learned : ℕ) (line : Line) (from j : Journal) → place < length lines → line ≡ get_or lines place line → MakesAll (take place lines) from j
    → left + timers_in j.entries ≡ timers_allowed (length lines) → WouldLearn j.start.config j.entries line.call learned → left < learned → SetsTooMany lines from j place
would_set_too_many lines place left learned line from j there is all so learns more = record {
  before = j;
  line = line;
  learned = learned;
  made = all;
  here = slice_get-get_or lines place line there ∙ ap Some (sym is);
  few = omega arith;
  learns = learns;
  more = inl (refl, omega arith);
}

-- a call set more than were left
pub set_too_many : (lines : List Line) (place left learned : ℕ) (line : Line) (from j k : Journal) → place < length lines → line ≡ get_or lines place line → MakesAll (take place lines) from j
    → left + timers_in j.entries ≡ timers_allowed (length lines) → WouldLearn j.start.config j.entries line.call learned → learned ≤ left → Makes (min line.moment LATEST_MOMENT) line.call j k
    → left < timers_in (drop (length j.entries) k.entries) → SetsTooMany lines from k place
set_too_many lines place left learned line from j k there is all so learns fits makes more =
    let grown : timers_in k.entries ≡ timers_in j.entries + timers_in (drop (length j.entries) k.entries) = timers_go_on (min line.moment LATEST_MOMENT) line.call j k makes in
    record {
      before = j;
      line = line;
      learned = learned;
      made = all;
      here = slice_get-get_or lines place line there ∙ ap Some (sym is);
      few = omega arith;
      learns = learns;
      more = inr (omega arith, makes, omega arith);
    }

-- out of memory
pub stopped_in_memory : (lines : List Line) (from to : Journal) (fault : RetellFault) → fault ≡ Memory → IsStoppedIn lines from to fault
stopped_in_memory lines from to fault is = subst (IsStoppedIn lines from to) (sym is) tt

pub stopped_by_memory : (from : RecorderView Lcg) (lines : List Line) (fault : RetellFault) → fault ≡ Memory → IsStopped from lines fault
stopped_by_memory from lines fault is = subst (IsStopped from lines) (sym is) tt

-- where a recorder came to, it ended
pub stopped_there : (lines : List Line) (from to : RecorderView Lcg) (j : Journal) (fault : RetellFault) → GoesOn pcg64 from to → j ≡ to.journal → IsLawfulJournal j → IsStoppedIn lines from.journal to.journal fault
    → IsStopped from lines fault
stopped_there lines from to j (Untold place) goes is lawful stopped = absurd stopped
stopped_there lines from to j (TooMuch place) goes is lawful stopped =
    record { journal = to.journal; start = goes.start; lawful = subst IsLawfulJournal is lawful; words = (to.words, records_to_end pcg64 from to goes.words); sets = stopped }
stopped_there lines from to j Memory goes is lawful stopped = tt

-- why lines weren't all made is why there is no replay
pub stopped_fault : (r : Record) (fault : RetellFault) → IsStopped (recorder_of r.beginning) r.lines.items fault → IsRetellFault r fault
stopped_fault r (Untold place) stopped = absurd stopped
stopped_fault r (TooMuch place) stopped = stopped
stopped_fault r Memory stopped = tt
