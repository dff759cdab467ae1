use Rattle.std.proofs.Common.{refl, sym, subst}
use Rattle.srm_timers.specs.AskCalls.{AskStays}
use Rattle.srm_timers.proofs.AskSteps.{stays_kept, stays_on, keeps_self}
use Rattle.srm_timers.proofs.asks.Asks.room.Goals as goal

pub returns-clause-kept : goal.returns-clause-kept
returns-clause-kept g c = stays_on _ _ _ (subst (AskStays c.args.self.now) (sym c.self.view_is) c.in_ok-room_to_set.ensures.kept) (stays_kept _ _ refl refl (keeps_self _))

pub returns-in_err-reserve-2-clause-kept : goal.returns-in_err-reserve-2-clause-kept
returns-in_err-reserve-2-clause-kept g c = stays_on _ _ _ (subst (AskStays c.args.self.now) (sym c.self.view_is) c.in_ok-room_to_set.ensures.kept) (stays_kept _ _ refl refl (keeps_self _))

pub returns-in_err-reserve-3-clause-kept : goal.returns-in_err-reserve-3-clause-kept
returns-in_err-reserve-3-clause-kept g c = stays_on _ _ _ (subst (AskStays c.args.self.now) (sym c.self.view_is) c.in_ok-room_to_set.ensures.kept) (stays_kept _ _ refl refl (keeps_self _))
