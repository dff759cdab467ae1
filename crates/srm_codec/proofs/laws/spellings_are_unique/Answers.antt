use Rattle.srm_codec.proofs.JudgingLaws.{unique}
use Rattle.srm_codec.proofs.laws.spellings_are_unique.Goals as goal

pub returns : goal.returns
returns c = unique
