use Rattle.std.proofs.Common.{take}
use Rattle.srm_audited.specs.Sessions.{AreOf}
use Rattle.srm_audited.proofs.auditing.gather.Given as goal

abbrev pub invariant-loop-place : goal.invariant-loop-place
invariant-loop-place l = AreOf (take l.place l.records) l.gathered.told.items l.gathered.gots.items
