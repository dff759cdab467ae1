use Rattle.std.proofs.Common.{◌≡◌, take}
use Rattle.std.specs.List.{fold}
use Rattle.srm_frames.specs.Checksums.{after_byte}
use Rattle.srm_frames.proofs.checksum.after_fours.Given as goal

-- the register after the bytes so far
abbrev pub invariant-loop-four : goal.invariant-loop-four
invariant-loop-four l = l.register ≡ fold (fold after_byte) l.before (take l.four-index l.fours)
