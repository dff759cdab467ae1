use Rattle.std.proofs.Common.{append_assoc}
use Rattle.srm_frames.specs.Beginnings.{identity_fields}
use Rattle.srm_frames.proofs.beginning.put_identity.Goals as goal

pub returns : goal.returns
unfolding identity_fields
returns c =
    rw (c.in_ok-extend_from_slice-2.ensures.items, c.to_be_bytes-2.ensures, c.in_ok-push-3.ensures.items, c.in_ok-push-2.ensures.items, c.in_ok-push.ensures.items, c.in_ok-extend_from_slice.ensures.items, c.to_be_bytes.ensures)
    (simp append_assoc)
