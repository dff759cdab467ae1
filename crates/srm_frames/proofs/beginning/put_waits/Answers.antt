use Rattle.std.proofs.Common.{append_assoc}
use Rattle.srm_frames.specs.Beginnings.{wait_fields}
use Rattle.srm_frames.proofs.beginning.put_waits.Goals as goal

pub returns : goal.returns
unfolding wait_fields
returns c = rw (c.in_ok-push-4.ensures.items, c.in_ok-push-3.ensures.items, c.in_ok-push-2.ensures.items, c.in_ok-push.ensures.items) (simp append_assoc)
