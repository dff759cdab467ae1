use Rattle.srm_codec.proofs.JudgingLaws.{undoes}
use Rattle.srm_codec.proofs.laws.judging_undoes_spelling.Goals as goal

pub returns : goal.returns
returns c = undoes
