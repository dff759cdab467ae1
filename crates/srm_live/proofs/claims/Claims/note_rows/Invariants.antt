use Rattle.std.proofs.Common.{◌≡◌, ◌++◌, take}
use Rattle.srm_live.specs.Claims.{own_rows}
use Rattle.srm_live.proofs.claims.Claims.note_rows.Given as goal

abbrev pub invariant-loop-row : goal.invariant-loop-row
invariant-loop-row l = l.self ≡ l.fn.self ++ own_rows l.me (take l.row-index l.rows)
