use Rattle.std.proofs.Common.{append_assoc, ◌∙◌, ap, sym, ◌++◌, take, drop, take-append-drop, List, ℕ}
use Rattle.std.specs.Int.{w32, to_be_bytes}
use Rattle.srm_frames.specs.Checksums.{crc_32}
use Rattle.srm_frames.specs.Frames.{sealed}
use Rattle.srm_frames.proofs.frame.seal.Goals as goal

pub returns : goal.returns
unfolding sealed
returns c =
    let all = c.args.out.now.items in
    let front = take c.args.start all in
    let fields = drop c.args.start all in
    let checksum = to_be_bytes w32 (crc_32 fields) in
    rw (c.in_ok-extend_from_slice.ensures.items, c.to_be_bytes.ensures, c.crc_32-checksum.ensures, c.split_at.ensures.back, c.as_slice.ensures.value)
    (ap (λ (bytes : List ℕ). bytes ++ checksum) (sym (take-append-drop c.args.start all)) ∙ append_assoc front fields checksum)
