use Rattle.std.proofs.Common.{◌≡◌, ◌++◌, take, drop, map, bit_xor}
use Rattle.srm_guard.proofs.hmac.padded.Given as goal

abbrev pub invariant-loop-index : goal.invariant-loop-index
invariant-loop-index l = l.out ≡ map (λ b. bit_xor b l.byte) (take l.index l.block) ++ drop l.index l.block
