use Rattle.std.proofs.Common.{◌/◌, length}
use Rattle.srm_frames.proofs.Chunks.{in_chunks, turned_over}
use Rattle.srm_frames.proofs.checksum.crc_32.Goals as goal

pub returns : goal.returns
returns c =
    turned_over c.args.bytes.now _
    (in_chunks 16 (length c.args.bytes.now / 16) 0xffffffff c.args.bytes.now _ _ _ _ c.as_chunks.ensures.front c.as_chunks.ensures.back c.after_sixteens.ensures c.after_few.ensures)
