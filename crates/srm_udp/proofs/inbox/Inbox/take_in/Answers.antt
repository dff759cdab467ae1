use Rattle.std.proofs.Common.{◌+◌, sym, subst}
use Rattle.srm_udp.specs.Inboxes.{InboxView}
use Rattle.srm_udp.proofs.Arriving.{Arrived, arrived_more, kept_one, dropped_one}
use Rattle.srm_udp.proofs.inbox.Inbox.take_in.Goals.{in-Datagram, in-Dropped}
use Rattle.srm_udp.proofs.inbox.Inbox.take_in.Goals as goal

pub loop-taken-preserved : goal.loop-taken-preserved
loop-taken-preserved c = elim c.match-take_one.branch [
  | in-Datagram w ↦ subst (λ (x : InboxView). Arrived (c.loop-taken.taken + 1) c.args.self.now x) (sym w.self-is) (arrived_more c.loop-taken.taken c.args.self.now c.loop-taken.self w.keep.new.self c.loop-taken.invariant
      (kept_one c.take_one.new.room w.in-Datagram.count c.take_one.result c.loop-taken.self c.take_one.new.self w.keep.new.self w.in-Datagram.is c.take_one.ensures w.keep.ensures))
  | in-Dropped w ↦ subst (λ (x : InboxView). Arrived (c.loop-taken.taken + 1) c.args.self.now x) (sym w.self-is) (arrived_more c.loop-taken.taken c.args.self.now c.loop-taken.self c.take_one.new.self c.loop-taken.invariant
      (dropped_one c.take_one.new.room c.take_one.result c.loop-taken.self c.take_one.new.self w.in-Dropped.is c.take_one.ensures))
]
