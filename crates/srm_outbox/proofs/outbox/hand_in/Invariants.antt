use Rattle.std.proofs.Common.{length}
use Rattle.srm_outbox.proofs.Handing.{HandedSoFar}
use Rattle.srm_outbox.proofs.outbox.hand_in.Given as goal

abbrev pub invariant-loop-due_item : goal.invariant-loop-due_item
invariant-loop-due_item l = HandedSoFar l.fn.due_items.items l.due_items.items l.fn.bucket l.bucket

abbrev pub decreases-loop-due_item : goal.decreases-loop-due_item
decreases-loop-due_item l = length l.due_items.items
