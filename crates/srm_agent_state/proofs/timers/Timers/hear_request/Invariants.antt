use Rattle.std.proofs.Common.{◌+◌, ◌≤◌, length, vec_len}
use Rattle.std.specs.Prelude.{vec_capacity}
use Rattle.srm_timers.specs.AskCalls.{DetectAndDueReady}
use Rattle.srm_timers.specs.FixCalls.{FixPlaces}
use Rattle.srm_agent_state.specs.TimerCalls.{KeepSettings, WaitsAreChosen}
use Rattle.srm_agent_state.proofs.OneAnswered.{AnsweredSoFar}
use Rattle.srm_agent_state.proofs.timers.Timers.hear_request.Given as goal

abbrev pub invariant-loop-name : goal.invariant-loop-name
invariant-loop-name g l = record {
  so_far : AnsweredSoFar l.store l.from l.dist l.now l.asked l.name-index l.arms.items l.initial.self l.self;
  chosen : WaitsAreChosen g.W.Words.next_word l.initial.self l.initial.words l.arms.items l.words;
  settings : KeepSettings l.initial.self l.self;
  places : FixPlaces l.asked l.self.fixes;
  ready : DetectAndDueReady l.newly_missing l.self.asks;
  count : length l.arms.items ≤ l.name-index;
  few : vec_len l.arms ≤ l.name-index;
  room : length l.asked + length l.newly_missing ≤ vec_capacity l.arms;
}
