use Rattle.std.proofs.Common.{length}
use Rattle.srm_live.proofs.claims.+is_any_beyond.Given as goal

abbrev pub decreases-is_any_beyond : goal.decreases-is_any_beyond
decreases-is_any_beyond g l = length l.rows.now
