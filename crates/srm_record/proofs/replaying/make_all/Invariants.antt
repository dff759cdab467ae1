use Rattle.std.proofs.Common.{◌≡◌, ◌+◌, take, length}
use Rattle.rand_pcg.specs.Pcg.{pcg64}
use Rattle.srm_entries.specs.Entries.{last_moment}
use Rattle.srm_record.specs.Allowances.{timers_allowed, timers_in}
use Rattle.srm_record.specs.Making.{MakesAll}
use Rattle.srm_record.specs.Replays.{GoesOn}
use Rattle.srm_record.proofs.replaying.make_all.Given as goal

abbrev pub invariant-loop-place : goal.invariant-loop-place
invariant-loop-place l = record {
  goes : GoesOn pcg64 l.fn.recorder l.recorder;
  makes : MakesAll (take l.place l.lines) l.fn.recorder.journal l.recorder.journal;
  clock : l.clock ≡ last_moment l.recorder.journal.start.made l.recorder.journal.entries;
  left : l.left + timers_in l.recorder.journal.entries ≡ timers_allowed (length l.lines);
}
