use Rattle.std.proofs.Common.{length}
use Rattle.srm_udp.proofs.roster.+is_of_roster.Given as goal

abbrev pub decreases-is_of_roster : goal.decreases-is_of_roster
decreases-is_of_roster l = length l.roster.now
