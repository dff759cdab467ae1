use Rattle.srm_udp.proofs.Arriving.{brings_datagram, brings_error}
use Rattle.srm_udp.proofs.inbox.Inbox.receive.Goals as goal

pub returns-in-Datagram-clause-brings : goal.returns-in-Datagram-clause-brings
returns-in-Datagram-clause-brings c = brings_datagram c.loop-taken.taken c.take_one.new.room c.in-Datagram.count c.take_one.result c.args.self.now c.loop-taken.self c.take_one.new.self c.loop-taken.invariant c.loop-taken-test.true c.in-Datagram.is c.take_one.ensures

pub returns-in-Failed-clause-brings : goal.returns-in-Failed-clause-brings
returns-in-Failed-clause-brings c = brings_error c.loop-taken.taken c.take_one.new.room c.in-Failed.error c.args.self.now c.loop-taken.self c.take_one.new.self c.loop-taken.invariant c.loop-taken-test.true (rw c.in-Failed.is at c.take_one.ensures)
