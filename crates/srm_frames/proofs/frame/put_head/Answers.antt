use Rattle.std.proofs.Common.{append_assoc}
use Rattle.srm_frames.proofs.frame.put_head.Goals as goal

pub returns-clause-head : goal.returns-clause-head
returns-clause-head c =
    rw (c.in_ok-extend_from_slice-2.ensures.items, c.to_be_bytes-2.ensures, c.in_ok-extend_from_slice.ensures.items, c.to_be_bytes.ensures, c.in_ok-push.ensures.items)
    (simp append_assoc)
