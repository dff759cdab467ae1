use Rattle.std.proofs.Common.{◌≡◌, ◌≤◌, ◌+◌, ◌++◌, map, take}
use Rattle.std.specs.Prelude.{vec_len, vec_capacity}
use Rattle.srm_timers.specs.Expiries.{timed_at}
use Rattle.srm_timers.proofs.expiries.add_moments.Given as goal

abbrev pub invariant-loop-arm : goal.invariant-loop-arm
invariant-loop-arm l = record {
  items : l.moments.items ≡ l.initial.moments.items ++ map (timed_at l.now) (take l.arm-index l.arms);
  few : vec_len l.moments ≡ vec_len l.initial.moments + l.arm-index;
  room : vec_capacity l.initial.moments ≤ vec_capacity l.moments;
}
