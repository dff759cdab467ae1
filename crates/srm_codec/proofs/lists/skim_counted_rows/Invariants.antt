use Rattle.std.proofs.Common.{Some, None}
use Rattle.std.specs.Prelude.{if◌then◌else◌}
use Rattle.srm_codec.specs.Judging.{name_at}
use Rattle.srm_codec.proofs.Loop.{IsSkimming}
use Rattle.srm_codec.proofs.lists.skim_counted_rows.Given as goal

abbrev pub invariant-rows : goal.invariant-rows
invariant-rows l = IsSkimming (name_at (if l.farewell then Some l.sender else None)) l.count l.counter l.last l.reader l.fn.reader
