use Rattle.std.proofs.Common.{take}
use Rattle.std.specs.List.{AllByRecursion}
use Rattle.srm_world.specs.Claims.{IsLawfulJournal}
use Rattle.srm_audit.proofs.opening.know.Given as goal

abbrev pub invariant-loop-journal : goal.invariant-loop-journal
invariant-loop-journal l = AllByRecursion IsLawfulJournal (take l.journal-index l.journals)
