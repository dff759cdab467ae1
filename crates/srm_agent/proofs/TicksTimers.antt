-- A tick of the timers is one of the agent that keeps them: the distances at it are those before it.
use Rattle.std.proofs.Common.{ℕ, List, [], ◌∷◌, ◌++◌, ap, sym, subst}
use Rattle.std.specs.List.{AllByRecursion}
use Rattle.srm_names.specs.FullName.{FullName}
use Rattle.srm_timers.specs.declared.arm.Arm.{Arm}
use Rattle.srm_distance.specs.Fits.{DistancesFit, IsTableOf}
use Rattle.srm_bucket.specs.Waiting.{Waiting, SameQueues}
use Rattle.srm_agent.specs.declared.agent.due.HandedOut.{HandedOut}
use Rattle.srm_outbox.specs.declared.out.Outgoing.{Outgoing}
use Rattle.srm_agent.specs.Contents.{AgentContent}
use Rattle.srm_entries.specs.Distances.{distance_calls, calls_of}
use Rattle.srm_outbox.specs.Outs.{IsOwn, AreOwn}
use Rattle.srm_agent_state.specs.TimersKept.{TimersContent, HaveSettings}
use Rattle.srm_agent_state.specs.TimerCalls.{AreDistancesAfter, TimersTick, WaitsAreChosen}
use Rattle.srm_agent.specs.Ticking.{TicksTimers, HandsOut}
use Rattle.srm_entries.proofs.Quiet.{same_distances}

pub ticks_timers : {W : Type 0} (a : AgentContent W) (asks fixes : List FullName) (dist : List ℕ) (moment : ℕ) (arms : List Arm) (new : TimersContent)
    → IsTableOf a.distances dist → TimersTick asks fixes dist moment arms a.timers new → TicksTimers a asks fixes moment arms new
ticks_timers a asks fixes dist moment arms new table ticks = record {
  each = λ c made past e h t here to_ask to_fix.
      let after : AreDistancesAfter c (past ++ e ∷ []) dist = record {
        each = λ m lt. table.each c.least_distance c.me (distance_calls c.me (past ++ e ∷ [])) (subst (λ cs. DistancesFit c.least_distance c.me cs a.distances) (sym (same_distances c.me past e (ap (calls_of c.me e.moment) t.heard))) h.distances) m lt;
      } in
      ticks.each c past e t h.timers here to_ask to_fix after;
}

pub hands_out : {W : Type 0} (next_word : W → ℕ × W) (a b : AgentContent W) (handed_out : HandedOut) (dist : List ℕ) (moment : ℕ) (arms : List Arm)
    → HaveSettings a.config a.timers → IsTableOf a.distances dist → TimersTick handed_out.asks handed_out.fixes dist moment arms a.timers b.timers → WaitsAreChosen next_word a.timers a.words arms b.words → HandsOut next_word a handed_out moment arms b
hands_out next_word a b handed_out dist moment arms settings table ticks drawn =
    record { ticks = ticks_timers a handed_out.asks handed_out.fixes dist moment arms b.timers table ticks; chosen = drawn.each a.config settings }

-- what waits is own where the queues are the same
pub own_same : (me session : ℕ) (old new : Waiting Outgoing) → AreOwn me session old → SameQueues old new → AreOwn me session new
own_same me session old new own same = record { each = λ class. subst (AllByRecursion (λ i. IsOwn me session i.value)) (sym (same class)) (own.each class) }
