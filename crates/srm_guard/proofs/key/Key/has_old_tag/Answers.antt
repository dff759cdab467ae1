use Rattle.std.proofs.Common.{arith}
use Rattle.srm_guard.proofs.Tagging.{has_old_tag}
use Rattle.srm_guard.proofs.key.Key.has_old_tag.Goals as goal

pub returns : goal.returns
returns c = has_old_tag c.args.self.now c.args.bytes.now _ _ c.old_tag.result c.is_same.result (omega arith) c.split_at.ensures.front c.split_at.ensures.back c.old_tag.ensures c.is_same.ensures
