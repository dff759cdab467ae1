use Rattle.srm_guard.proofs.Running.{passes_new}
use Rattle.srm_guard.proofs.laws.nothing_is_passed_on_twice.Goals as goal

pub returns : goal.returns
returns c = passes_new
