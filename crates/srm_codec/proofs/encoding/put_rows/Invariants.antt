use Rattle.std.proofs.Common.{◌≡◌, ◌++◌, ◌∷◌, length, take}
use Rattle.std.specs.List.{flat_map}
use Rattle.srm_codec.specs.Spelling.{name_bytes}
use Rattle.srm_codec.proofs.encoding.put_rows.Given as goal

abbrev pub invariant-loop-row : goal.invariant-loop-row
invariant-loop-row l = l.out.items ≡ l.fn.out.items ++ length l.rows ∷ flat_map name_bytes (take l.row-index l.rows)
