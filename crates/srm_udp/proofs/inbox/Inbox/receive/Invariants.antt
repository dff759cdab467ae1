use Rattle.srm_udp.proofs.Arriving.{HeardNone}
use Rattle.srm_udp.proofs.inbox.Inbox.receive.Given as goal

abbrev pub invariant-loop-taken : goal.invariant-loop-taken
invariant-loop-taken l = HeardNone l.taken l.initial.self l.self
