use Rattle.std.proofs.Common.{◌≡◌, ◌≤◌, map, take, length}
use Rattle.std.specs.Prelude.{vec_len, vec_capacity}
use Rattle.srm_timers.specs.Arms.{plan_of, low_of, high_of, AreChosen, AreAsks, AreOfMembers}
use Rattle.srm_timers.specs.AskCalls.{again_plan}
use Rattle.srm_timers.specs.Expiries.{AreShort}
use Rattle.srm_deadlines.specs.Places.{value_at}
use Rattle.srm_timers.proofs.asks.Asks.again.Given as goal

abbrev pub invariant-loop-name : goal.invariant-loop-name
invariant-loop-name g l = record {
  plans : map plan_of l.arms.items ≡ map (again_plan l.dist (value_at l.self.timers)) (take l.name-index l.names);
  chosen : AreChosen g.W.Words.next_word (low_of l.self.c1) (high_of l.self.c1 l.self.c2) l.initial.words l.arms.items l.words;
  asks : AreAsks l.arms.items;
  short : AreShort l.arms.items;
  members : AreOfMembers l.arms.items;
  few : vec_len l.arms ≡ l.name-index;
  room : length l.names ≤ vec_capacity l.arms;
}
