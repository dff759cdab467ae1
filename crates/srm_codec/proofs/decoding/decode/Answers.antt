use Rattle.std.proofs.Common.{arith}
use Rattle.srm_codec.proofs.JudgingLaws.{judged_is_spelled, spelled_is_read, memory_is_for_good}
use Rattle.srm_codec.proofs.decoding.decode.Goals as goal

pub returns-clause-spelled : goal.returns-clause-spelled
returns-clause-spelled c = judged_is_spelled c.args.session c.args.bytes.now _ (λ i. omega (arith, c.type_inv.bytes i)) c.judged.ensures

pub returns-clause-read : goal.returns-clause-read
returns-clause-read c = λ g s. spelled_is_read c.args.session c.args.bytes.now _ g (omega arith) s c.judged.ensures

pub returns-clause-memory : goal.returns-clause-memory
returns-clause-memory c = memory_is_for_good c.args.session c.args.bytes.now _ c.judged.ensures
