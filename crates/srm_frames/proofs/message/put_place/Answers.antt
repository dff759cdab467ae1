use Rattle.std.proofs.Common.{append_assoc}
use Rattle.srm_frames.proofs.message.put_place.Goals as goal

pub returns : goal.returns
returns c = rw (c.in_ok-extend_from_slice.ensures.items, c.to_be_bytes.ensures, c.in_ok-put_page.ensures, c.in_ok-push.ensures.items) (simp append_assoc)
