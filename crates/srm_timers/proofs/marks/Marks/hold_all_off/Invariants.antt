use Rattle.std.proofs.Common.{take}
use Rattle.srm_timers.specs.FixCalls.{HoldAllOff}
use Rattle.srm_timers.specs.Marks.{MarksKeepPlaces}
use Rattle.srm_deadlines.specs.Places.{KeepsValues}
use Rattle.srm_timers.proofs.marks.Marks.hold_all_off.Given as goal

abbrev pub invariant-loop-name : goal.invariant-loop-name
invariant-loop-name l = record {
  off : HoldAllOff l.now l.dist (take l.name-index l.names) l.initial.self.askers l.initial.self.held_off l.self.held_off;
  askers : KeepsValues l.initial.self.askers l.self.askers;
  keeps_places : MarksKeepPlaces l.initial.self l.self;
}
