use Rattle.std.proofs.Common.{[], length, take, ◌∙◌, arith}
use Rattle.std.proofs.lemmas.Result.{err_from_is_err_and}
use Rattle.srm_wire.specs.Wires.{answered_with, none_there}
use Rattle.srm_guard.proofs.Guarding.{counts_judged, dropped_judged, ends_passing, ends_spent, passes_datagram, passes_failure, passes_nothing}
use Rattle.srm_guard.proofs.guard.GuardWire.receive.Goals as goal

pub returns-in_err-length-clause-receives : goal.returns-in_err-length-clause-receives
returns-in_err-length-clause-receives g c =
    let p = err_from_is_err_and c.from_residual.result c.from_residual.ensures.1 in
    rw (p.1) (ends_passing g.X.Wire.receives (length c.args.buffer.now) c.loop.counter [] c.receive.new.buffer c.args.self.now c.loop.self _ (c.receive.auto.buffer ∙ c.loop.invariant.room) (omega arith) c.loop.invariant.drops
    (passes_failure g.X.Wire.receives _ c.loop.self c.receive.new.self (length c.receive.new.buffer) c.self.view_is c.in_err-length.ensures.receives))

pub returns-in_default-clause-receives : goal.returns-in_default-clause-receives
returns-in_default-clause-receives g c =
    ends_passing g.X.Wire.receives (length c.args.buffer.now) c.loop.counter none_there c.receive.new.buffer c.args.self.now c.loop.self _ (c.receive.auto.buffer ∙ c.loop.invariant.room) (omega arith) c.loop.invariant.drops
    (passes_nothing g.X.Wire.receives _ c.loop.self c.receive.new.self (length c.receive.new.buffer) c.self.view_is (rw c.in_default.is at c.in_ok-length.ensures.receives))

pub returns-in-Ok-clause-receives : goal.returns-in-Ok-clause-receives
returns-in-Ok-clause-receives g c =
    ends_passing g.X.Wire.receives (length c.args.buffer.now) c.loop.counter (answered_with (take c.in-Ok.count c.receive.new.buffer)) c.receive.new.buffer c.args.self.now c.loop.self c.judge.new.self (c.receive.auto.buffer ∙ c.loop.invariant.room) (omega arith) c.loop.invariant.drops
    (passes_datagram g.X.Wire.receives _ c.loop.self c.judge.new.self c.receive.new.self (length c.receive.new.buffer) c.in-Some.length c.in-Ok.count c.receive.new.buffer c.self.view_is (rw c.in-Some.is at c.in_ok-length.ensures.receives) c.in-Ok.ensures)

pub loop-preserved : goal.loop-preserved
loop-preserved g c = record {
  drops = dropped_judged g.X.Wire.receives (length c.args.buffer.now) c.loop.counter c.receive.new.buffer (take c.in-Some.length c.receive.new.buffer) c.in-Err.cause c.args.self.now _ c.loop.self c.judge.new.self c.count.new.self c.receive.new.self
      (c.receive.auto.buffer ∙ c.loop.invariant.room) c.loop.invariant.drops c.self.view_is (rw c.in-Some.is at c.in_ok-length.ensures.receives) c.in-Err.ensures c.count.ensures;
  counts = counts_judged g.X.Wire.failure_count _ (take c.in-Some.length c.receive.new.buffer) c.in-Err.cause _ c.loop.self c.judge.new.self c.count.new.self c.receive.new.self c.self.view_is c.loop.invariant.counts c.receive.ensures.failures.0 c.in-Err.ensures c.count.ensures;
  room = c.receive.auto.buffer ∙ c.loop.invariant.room;
}

pub returns-clause-receives : goal.returns-clause-receives
returns-clause-receives g c = ends_spent g.X.Wire.receives (length c.args.buffer.now) (length c.loop.buffer) c.loop.counter c.args.self.now c.loop.self c.loop.invariant.room (omega arith) c.loop.invariant.drops
