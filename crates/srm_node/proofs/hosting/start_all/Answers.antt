use Rattle.srm_node.proofs.Hosts.{starts_before, starts_whole}
use Rattle.srm_node.proofs.hosting.start_all.Goals as goal

pub returns-then-not-start_next-clause-up_to : goal.returns-then-not-start_next-clause-up_to
returns-then-not-start_next-clause-up_to g c = starts_before c.loop-done.workers.items c.start_next.new.workers.items c.loop-done.taps.items _ c.loop-done.sinks.items _ c.loop-done.done c.start_next.result c.loop-done.invariant.starts c.loop-done.invariant.left c.loop-done.invariant.sinks c.loop-done-test.true c.if-not-start_next.true c.start_next.ensures.same c.start_next.ensures.left

pub returns-clause-up_to : goal.returns-clause-up_to
returns-clause-up_to g c = starts_whole c.loop-done.workers.items c.loop-done.taps.items c.loop-done.sinks.items _ c.loop-done.done c.loop-done.invariant.starts c.loop-done.invariant.left c.loop-done-test.false
