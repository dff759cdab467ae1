use Rattle.std.proofs.Common.{append_assoc}
use Rattle.srm_frames.specs.Beginnings.{limit_fields}
use Rattle.srm_frames.proofs.beginning.put_limits.Goals as goal

pub returns : goal.returns
unfolding limit_fields
returns c =
    rw (c.in_ok-extend_from_slice-3.ensures.items, c.to_be_bytes-3.ensures, c.in_ok-extend_from_slice-2.ensures.items, c.to_be_bytes-2.ensures, c.in_ok-extend_from_slice.ensures.items, c.to_be_bytes.ensures)
    (simp append_assoc)
