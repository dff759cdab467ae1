use Rattle.std.proofs.Common.{◌≡◌, take}
use Rattle.std.specs.List.{fold}
use Rattle.srm_frames.specs.Checksums.{after_byte}
use Rattle.srm_frames.proofs.checksum.after_bytes.Given as goal

-- the register after the bytes so far
abbrev pub invariant-loop-byte : goal.invariant-loop-byte
invariant-loop-byte l = l.register ≡ fold after_byte l.before (take l.byte-index l.bytes)
