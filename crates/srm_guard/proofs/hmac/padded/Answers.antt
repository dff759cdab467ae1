use Rattle.std.proofs.Common.{bit_xor, get_or, length, arith, ap}
use Rattle.std.proofs.lemmas.Grind.{common_steps}
use Rattle.std.proofs.lemmas.List.{get_or_default}
use Rattle.std.proofs.lemmas.List.Edits.{map_over_more}
use Rattle.srm_guard.proofs.hmac.padded.Goals as goal

pub loop-index-preserved : goal.loop-index-preserved
loop-index-preserved c = map_over_more (λ b. bit_xor b c.args.byte) c.args.block.now c.loop-index.out c.loop-index.index (get_or c.loop-index.out c.loop-index.index 0) (omega arith) c.loop-index.invariant (get_or_default c.loop-index.out c.loop-index.index 0 (get_or c.loop-index.out c.loop-index.index 0) (grind (arith, common_steps, c.loop-index.invariant)))
