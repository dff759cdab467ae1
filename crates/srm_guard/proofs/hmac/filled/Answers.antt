use Rattle.std.proofs.Common.{◌++◌, length, ap, ◌∙◌}
use Rattle.std.proofs.lemmas.List.{drop-replicate}
use Rattle.srm_guard.proofs.hmac.filled.Goals as goal

pub returns : goal.returns
returns c = c.with_front.ensures ∙ ap (λ ys. c.args.bytes.now ++ ys) (drop-replicate (length c.args.bytes.now) 64 0)
