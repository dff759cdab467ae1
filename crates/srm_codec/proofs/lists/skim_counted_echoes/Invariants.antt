use Rattle.srm_codec.specs.Judging.{echo_at}
use Rattle.srm_codec.proofs.Loop.{IsSkimming}
use Rattle.srm_codec.proofs.lists.skim_counted_echoes.Given as goal

abbrev pub invariant-echoes : goal.invariant-echoes
invariant-echoes l = IsSkimming echo_at l.count l.counter l.last l.reader l.fn.reader
