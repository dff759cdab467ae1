use Rattle.std.proofs.Common.{◌≡◌, drop}
use Rattle.srm_store.specs.Finals.{row_number}
use Rattle.srm_store.proofs.finals.row_number.Given as goal

-- what is left has the row
abbrev pub invariant-loop-row : goal.invariant-loop-row
invariant-loop-row l = row_number (drop l.row-index l.rows) l.stream ≡ row_number l.rows l.stream
