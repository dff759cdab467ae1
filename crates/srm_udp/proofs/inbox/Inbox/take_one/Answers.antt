use Rattle.std.proofs.Common.{take}
use Rattle.srm_udp.proofs.Arriving.{took_one, took_none}
use Rattle.srm_udp.proofs.inbox.Inbox.take_one.Goals as goal

pub returns-then-admit : goal.returns-then-admit
returns-then-admit c = took_one c.in-Ok.origin c.receive.new.room c.in-Ok.count c.args.self.now _ c.receive.new.came c.receive.new.errors c.admit.new.self c.self.view_is c.in-Ok.ensures.datagram c.in-Ok.ensures.error c.if-admit.ensures

pub returns-else-admit : goal.returns-else-admit
returns-else-admit c = took_none (record { origin = c.in-Ok.origin; bytes = take c.in-Ok.count c.receive.new.room }) c.args.self.now _ c.receive.new.came c.receive.new.errors c.admit.new.self c.self.view_is c.in-Ok.ensures.datagram.1 c.in-Ok.ensures.error c.if-admit.ensures
