use Rattle.std.proofs.Common.{length}
use Rattle.srm_outbox.proofs.Spelling.{SpelledSoFar}
use Rattle.srm_outbox.proofs.due_items.spelled.Given as goal

abbrev pub invariant-loop-datagram : goal.invariant-loop-datagram
invariant-loop-datagram l = SpelledSoFar l.me l.session l.showing l.fn.datagrams.items l.datagrams.items l.items.items

abbrev pub decreases-loop-datagram : goal.decreases-loop-datagram
decreases-loop-datagram l = length l.datagrams.items
