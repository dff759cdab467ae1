use Rattle.std.proofs.Common.{length}
use Rattle.srm_live.proofs.command.+page_behind.Given as goal

abbrev pub decreases-page_behind : goal.decreases-page_behind
decreases-page_behind l = length l.text.now
