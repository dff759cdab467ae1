use Rattle.srm_udp.proofs.Arriving.{Arrived}
use Rattle.srm_udp.proofs.inbox.Inbox.take_in.Given as goal

abbrev pub invariant-loop-taken : goal.invariant-loop-taken
invariant-loop-taken l = Arrived l.taken l.initial.self l.self
