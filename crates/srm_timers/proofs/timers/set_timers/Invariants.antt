use Rattle.std.proofs.Common.{take}
use Rattle.srm_deadlines.specs.Places.{KeepsPlaces}
use Rattle.srm_timers.proofs.TimerSteps.{SetsFront}
use Rattle.srm_timers.proofs.timers.set_timers.Given as goal

abbrev pub invariant-loop-arm : goal.invariant-loop-arm
invariant-loop-arm l = record {
  sets : SetsFront l.now (take l.arm-index l.arms) l.initial.timers l.timers;
  keeps_places : KeepsPlaces l.initial.timers l.timers;
}
