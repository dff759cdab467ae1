use Rattle.std.proofs.Common.{◌≡◌, take}
use Rattle.std.specs.List.{fold}
use Rattle.srm_frames.specs.Checksums.{after_byte}
use Rattle.srm_frames.proofs.checksum.after_sixteens.Given as goal

-- the register after the bytes so far
abbrev pub invariant-loop-sixteen : goal.invariant-loop-sixteen
invariant-loop-sixteen l = l.register ≡ fold (fold after_byte) l.before (take l.sixteen-index l.sixteens)
