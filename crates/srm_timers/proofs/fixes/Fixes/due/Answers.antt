use Rattle.std.proofs.Common.{refl, subst}
use Rattle.srm_timers.specs.FixCalls.{FixContent, FixRepairs}
use Rattle.srm_timers.proofs.AskSteps.{keeps_self}
use Rattle.srm_timers.proofs.FixSteps.{fix_stays, repairs_after}
use Rattle.srm_timers.proofs.fixes.Fixes.due.Goals as goal

pub returns-clause-fits : goal.returns-clause-fits
returns-clause-fits g c =
    subst (λ (a : FixContent). FixRepairs c.args.now c.args.dist.now c.replace-names.result.items a c.repair_all.new.self) c.self.view_is
    (repairs_after _ _ _ _ _ _ _ (fix_stays _ _ refl refl (keeps_self _) c.in_ok-room.ensures.askers c.in_ok-room.ensures.held_off) c.deref-2.ensures.value c.repair_all.ensures.fits)
