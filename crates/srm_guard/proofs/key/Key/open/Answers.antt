use Rattle.std.proofs.Common.{◌-◌, length, ap, ◌∙◌, arith}
use Rattle.srm_guard.specs.Tags.{tag_of}
use Rattle.srm_guard.proofs.Tagging.{too_short, has_tag, has_no_tag}
use Rattle.srm_guard.proofs.key.Key.open.Goals as goal

pub returns-then-bytes-lt-TAG_BYTES : goal.returns-then-bytes-lt-TAG_BYTES
returns-then-bytes-lt-TAG_BYTES c = too_short c.args.self.now c.args.to c.args.bytes.now (omega arith)

pub returns-then-is_same : goal.returns-then-is_same
returns-then-is_same c = (omega arith, omega arith, has_tag c.args.self.now c.args.to c.args.bytes.now c.tag.result (length c.args.bytes.now - 16) (c.tag.ensures ∙ ap (tag_of c.args.self.now c.args.to) c.split_at.ensures.front) (c.is_same.ensures.0 c.if-is_same.true ∙ c.split_at.ensures.back))

pub returns-else-is_same : goal.returns-else-is_same
returns-else-is_same c = has_no_tag c.args.self.now c.args.to c.args.bytes.now c.tag.result (length c.args.bytes.now - 16) (omega arith) (c.tag.ensures ∙ ap (tag_of c.args.self.now c.args.to) c.split_at.ensures.front) (λ same. grind (arith, c.is_same.ensures, c.split_at.ensures.back, same, c.if-is_same.false))
