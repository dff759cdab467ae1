use Rattle.srm_node.proofs.Limiting.{judges_excess, judges_within}
use Rattle.srm_node.proofs.missing_limit.MissingLimit.judge.Goals as goal

pub returns-then-exceeds : goal.returns-then-exceeds
returns-then-exceeds g c = judges_excess c.args.self.now.most c.args.recorder.now.journal c.args.bytes.now c.in-Some.most c.missing.result c.in-Ok.more c.exceeds.result c.in-Some.is c.in-Ok.ensures.ok c.missing.ensures.value c.exceeds.ensures c.if-exceeds.true

pub returns-else-exceeds : goal.returns-else-exceeds
returns-else-exceeds g c = judges_within c.args.self.now.most c.args.recorder.now.journal c.args.bytes.now c.in-Some.most c.missing.result c.in-Ok.more c.exceeds.result c.in-Some.is c.in-Ok.ensures.ok c.missing.ensures.value c.exceeds.ensures c.if-exceeds.false
