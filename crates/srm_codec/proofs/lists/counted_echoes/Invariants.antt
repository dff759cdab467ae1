use Rattle.std.specs.Prelude.{vec_capacity}
use Rattle.srm_codec.specs.Judging.{echo_at}
use Rattle.srm_codec.proofs.Loop.{IsReading}
use Rattle.srm_codec.proofs.lists.counted_echoes.Given as goal

abbrev pub invariant-echoes : goal.invariant-echoes
invariant-echoes l = IsReading echo_at l.count l.counter (vec_capacity l.echoes) l.echoes.items l.reader l.fn.reader
