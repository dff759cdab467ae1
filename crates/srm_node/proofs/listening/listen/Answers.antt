use Rattle.std.proofs.Common.{arith, ◌∙◌}
use Rattle.srm_node.proofs.Hears.{listens_none, listens_more, listened_lost, listened_none, listened_fails}
use Rattle.srm_node.proofs.Waiting.{waits_none, waits_on}
use Rattle.srm_node.proofs.listening.listen.Goals as goal

pub loop-count-init : goal.loop-count-init
loop-count-init g c = record { lawful = c.requires.lawful; words = waits_none g.W.Words.next_word _; counts = omega arith; listens = listens_none g.X.Wire.receives c.args.now _ _ _ _; room = c.requires.room }

pub returns-in-Err-clause-hears : goal.returns-in-Err-clause-hears
returns-in-Err-clause-hears g c = listened_fails g.X.Wire.receives c.args.now c.loop-count.count _ _ _ _ _ _ _ _ _ _ _ c.loop-count-test.true (c.receive.auto.buffer ∙ c.loop-count.invariant.room) c.loop-count.invariant.listens c.in-Err.ensures.tells c.in-Err.ensures.receives

pub returns-in-Ok-None-clause-hears : goal.returns-in-Ok-None-clause-hears
returns-in-Ok-None-clause-hears g c = listened_none g.X.Wire.receives c.args.now c.loop-count.count _ _ _ _ _ _ _ _ _ _ _ c.loop-count-test.true (c.receive.auto.buffer ∙ c.loop-count.invariant.room) c.loop-count.invariant.listens (rw c.in-Ok-None.field-0-is at c.in-Ok-None.ensures.tells) (rw c.in-Ok-None.field-0-is at c.in-Ok-None.ensures.receives)

pub returns-in_default-clause-hears : goal.returns-in_default-clause-hears
returns-in_default-clause-hears g c = listened_lost g.X.Wire.receives c.args.now c.loop-count.count _ _ _ c.loop-count.limit _ _ c.loop-count.recorder.journal _ _ _ _ _ _ _ c.loop-count-test.true (c.receive.auto.buffer ∙ c.loop-count.invariant.room) c.loop-count.invariant.listens c.in_default.ensures.takes (rw c.in-Ok-Some.field-0-is at c.in-Ok-Some.ensures.tells) (rw c.in-Ok-Some.field-0-is at c.in-Ok-Some.ensures.receives)

pub loop-count-preserved : goal.loop-count-preserved
loop-count-preserved g c = record {
  lawful = c.in-Ok.ensures.lawful;
  words = waits_on g.W.Words.next_word _ c.loop-count.recorder _ c.loop-count.invariant.words c.in-Ok.ensures.words;
  counts = omega (arith, c.loop-count.invariant.counts, c.in-Ok-Some.ensures.failures.0);
  listens = listens_more g.X.Wire.receives c.args.now c.loop-count.count _ _ _ c.loop-count.limit _ _ c.loop-count.recorder.journal _ _ _ _ _ _ _ (c.receive.auto.buffer ∙ c.loop-count.invariant.room) c.loop-count.invariant.listens c.in-Ok.ensures.takes (rw c.in-Ok-Some.field-0-is at c.in-Ok-Some.ensures.tells) (rw c.in-Ok-Some.field-0-is at c.in-Ok-Some.ensures.receives);
  room = c.receive.auto.buffer ∙ c.loop-count.invariant.room;
}

pub returns-in_default-clause-words : goal.returns-in_default-clause-words
returns-in_default-clause-words g c = waits_on g.W.Words.next_word _ c.loop-count.recorder _ c.loop-count.invariant.words c.in_default.ensures.words
