use Rattle.std.proofs.Common.{Some, None}
use Rattle.std.specs.Prelude.{if◌then◌else◌, vec_capacity}
use Rattle.srm_codec.specs.Judging.{name_at}
use Rattle.srm_codec.proofs.Loop.{IsReading}
use Rattle.srm_codec.proofs.lists.counted_rows.Given as goal

abbrev pub invariant-rows : goal.invariant-rows
invariant-rows l = IsReading (name_at (if l.farewell then Some l.sender else None)) l.count l.counter (vec_capacity l.rows) l.rows.items l.reader l.fn.reader
