use Rattle.std.proofs.Common.{◌≡◌, ◌≤◌, map, take, length}
use Rattle.std.specs.Prelude.{vec_len, vec_capacity}
use Rattle.srm_timers.specs.Arms.{plan_of, low_of, high_of, AreChosen, AreAsks}
use Rattle.srm_timers.specs.AskCalls.{found_plan}
use Rattle.srm_timers.specs.Expiries.{AreShort}
use Rattle.srm_timers.proofs.asks.Asks.found.Given as goal

abbrev pub invariant-loop-name : goal.invariant-loop-name
invariant-loop-name g l = record {
  plans : map plan_of l.arms.items ≡ map (found_plan l.asked l.dist) (take l.name-index l.names);
  chosen : AreChosen g.W.Words.next_word (low_of l.self.c1) (high_of l.self.c1 l.self.c2) l.initial.words l.arms.items l.words;
  asks : AreAsks l.arms.items;
  short : AreShort l.arms.items;
  few : vec_len l.arms ≡ l.name-index;
  room : length l.names ≤ vec_capacity l.arms;
}
