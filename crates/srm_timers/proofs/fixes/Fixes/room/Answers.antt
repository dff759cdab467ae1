use Rattle.std.proofs.Common.{refl, sym, subst}
use Rattle.srm_timers.specs.FixCalls.{FixStays}
use Rattle.srm_timers.proofs.AskSteps.{keeps_self}
use Rattle.srm_timers.proofs.FixSteps.{fix_stays, fix_stays_on}
use Rattle.srm_timers.proofs.fixes.Fixes.room.Goals as goal

pub returns-in_err-room-clause-kept : goal.returns-in_err-room-clause-kept
returns-in_err-room-clause-kept g c = fix_stays_on _ _ _ (subst (FixStays c.args.self.now) (sym c.self.view_is) c.in_ok-make_places.ensures.kept) (fix_stays _ _ refl refl c.room.ensures.kept (keeps_self _) (keeps_self _))

pub returns-clause-kept : goal.returns-clause-kept
returns-clause-kept g c = fix_stays_on _ _ _ (subst (FixStays c.args.self.now) (sym c.self.view_is) c.in_ok-make_places.ensures.kept) (fix_stays _ _ refl refl c.room.ensures.kept (keeps_self _) (keeps_self _))

pub returns-in_err-reserve-clause-kept : goal.returns-in_err-reserve-clause-kept
returns-in_err-reserve-clause-kept g c = fix_stays_on _ _ _ (subst (FixStays c.args.self.now) (sym c.self.view_is) c.in_ok-make_places.ensures.kept) (fix_stays _ _ refl refl c.room.ensures.kept (keeps_self _) (keeps_self _))
