use Rattle.std.proofs.Common.{◌≡◌, refl, subst, sym, map}
use Rattle.srm_timers.specs.Arms.{plan_of}
use Rattle.srm_timers.specs.AskCalls.{AskContent, AskStays, AskTimersRun, again_plan}
use Rattle.srm_deadlines.specs.Places.{value_at}
use Rattle.srm_timers.proofs.AskSteps.{asked_again, stays_kept, keeps_self}
use Rattle.srm_agent_state.proofs.Midway.{keep_on, asks_keep_with, fixes_keep_with, waits_before}
use Rattle.srm_agent_state.proofs.Dueness.{tick_ticks, due_drawn}
use Rattle.srm_agent_state.proofs.timers.Timers.tick.Goals as goal

pub set_again-requires-clause-timers : goal.set_again-requires-clause-timers
set_again-requires-clause-timers g c =
    let same : c.self.inside.asks ≡ c.args.self.now.asks = rw (← c.self.view_is) at c.room_to_repair.ensures.asks in
    subst (AskTimersRun c.args.asks.now) (sym same) c.requires.asks.run

pub returns-clause-chosen : goal.returns-clause-chosen
returns-clause-chosen g c =
    waits_before g.W.Words.next_word c.args.self.now (record { asks = c.self.inside.asks; fixes = c.self.inside.fixes }) c.args.words.now c.set_again.new.words c.in_ok-arms.arms.items
    (rw (← c.self.view_is) at c.room_to_repair.ensures.settings)
    (due_drawn g.W.Words.next_word (record { asks = c.self.inside.asks; fixes = c.self.inside.fixes }) c.args.words.now c.set_again.new.words c.in_ok-arms.arms.items c.in_ok-arms.ensures.kinds c.in_ok-arms.ensures.chosen)

pub returns-clause-ticks : goal.returns-clause-ticks
returns-clause-ticks g c =
    let same : c.self.inside.asks ≡ c.args.self.now.asks = rw (← c.self.view_is) at c.room_to_repair.ensures.asks in
    let plans = subst (λ (a : AskContent). map plan_of c.in_ok-arms.arms.items ≡ map (again_plan c.args.dist.now (value_at a.timers)) c.args.asks.now) same c.in_ok-arms.ensures.plans in
    tick_ticks g.W.Words.next_word c.args.words.now c.set_again.new.words c.args.asks.now c.args.fixes.now c.args.fixes.now c.args.dist.now c.args.now c.in_ok-arms.arms.items c.args.self.now
    (record { asks = c.self.inside.asks; fixes = c.self.inside.fixes }) (record { asks = c.set_again.new.self; fixes = c.repair_all.new.self })
    (subst (AskStays c.args.self.now.asks) (sym same) (stays_kept _ _ refl refl (keeps_self _))) (rw (← c.self.view_is) at c.room_to_repair.ensures.fixes)
    c.in_ok-arms.ensures.fits (asked_again c.args.now c.args.dist.now c.args.self.now.asks c.args.asks.now c.in_ok-arms.arms.items c.requires.asks.due plans) c.in_ok-arms.ensures.members
    (waits_before g.W.Words.next_word c.args.self.now (record { asks = c.self.inside.asks; fixes = c.self.inside.fixes }) c.args.words.now c.set_again.new.words c.in_ok-arms.arms.items
    (rw (← c.self.view_is) at c.room_to_repair.ensures.settings)
    (due_drawn g.W.Words.next_word (record { asks = c.self.inside.asks; fixes = c.self.inside.fixes }) c.args.words.now c.set_again.new.words c.in_ok-arms.arms.items c.in_ok-arms.ensures.kinds c.in_ok-arms.ensures.chosen))
    c.repair_all.ensures.fits c.requires.fixes.due

pub returns-clause-settings : goal.returns-clause-settings
returns-clause-settings g c =
    keep_on _ (record { asks = c.self.inside.asks; fixes = c.self.inside.fixes }) _ (rw (← c.self.view_is) at c.room_to_repair.ensures.settings)
    (keep_on _ (record { asks = c.set_again.new.self; fixes = c.self.inside.fixes }) _ (asks_keep_with _ _ _ c.set_again.ensures.keeps_room.c1 c.set_again.ensures.keeps_room.c2) (fixes_keep_with _ _ _ c.repair_all.ensures.keeps_room.d1 c.repair_all.ensures.keeps_room.d2))

pub returns-in_err-arms-clause-settings : goal.returns-in_err-arms-clause-settings
returns-in_err-arms-clause-settings g c =
    keep_on _ (record { asks = c.self.inside.asks; fixes = c.self.inside.fixes }) _ (rw (← c.self.view_is) at c.room_to_repair.ensures.settings)
    (asks_keep_with _ _ _ c.set_again.ensures.keeps_room.c1 c.set_again.ensures.keeps_room.c2)
