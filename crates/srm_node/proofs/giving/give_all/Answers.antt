use Rattle.std.proofs.Common.{arith, ◌∙◌}
use Rattle.std.proofs.lemmas.List.{length-set}
use Rattle.std.proofs.lemmas.Result.{err_from_is_err_and}
use Rattle.srm_node.proofs.Closing.{closed_at, closed_set, as_many}
use Rattle.srm_node.proofs.Gives.{up_none, up_stop, up_step}
use Rattle.srm_node.proofs.Waiting.{waits_none, waits_on}
use Rattle.srm_node.proofs.giving.give_all.Goals as goal

pub loop-slot-init : goal.loop-slot-init
loop-slot-init g c = record { words = waits_none g.W.Words.next_word _; gives = up_none _ _ c.requires.lawful c.requires.carries; closed = c.requires.closed; many = as_many _ _ c.requires.closed ∙ c.requires.slots }

pub give_slot-requires-clause-closed : goal.give_slot-requires-clause-closed
give_slot-requires-clause-closed g c = closed_at c.from-place.result c.loop-slot.slot c.loop-slot.feeds.items c.loop-slot.closed.items c.index_mut-last.result.now c.index_mut-feed.result.now c.from-place.ensures (omega (arith, c.requires.slots, c.loop-slot.invariant.gives.slots, c.loop-slot-test.true)) c.loop-slot.invariant.closed c.index_mut-last.ensures.value c.index_mut-feed.ensures.value

pub loop-slot-preserved : goal.loop-slot-preserved
loop-slot-preserved g c = record {
  words = waits_on g.W.Words.next_word _ c.loop-slot.recorder _ c.loop-slot.invariant.words c.in_ok-give_slot.ensures.words;
  gives = up_step c.loop-slot.slot c.from-place.result _ c.loop-slot.recorder.journal _ _ c.loop-slot.feeds.items c.index_mut-feed.result.now c.give_slot.new.feed c.loop-slot.invariant.gives c.from-place.ensures (omega (arith, c.requires.slots, c.loop-slot-test.true)) c.index_mut-feed.ensures.value c.in_ok-give_slot.ensures.gives;
  closed = closed_set c.from-place.result c.loop-slot.feeds.items c.loop-slot.closed.items c.give_slot.new.closed c.give_slot.new.feed c.loop-slot.invariant.closed c.in_ok-give_slot.ensures.closed;
  many = length-set c.loop-slot.closed.items c.from-place.result c.give_slot.new.closed ∙ c.loop-slot.invariant.many;
}

pub returns-in_err-give_slot-clause-closed : goal.returns-in_err-give_slot-clause-closed
returns-in_err-give_slot-clause-closed g c = closed_set c.from-place.result c.loop-slot.feeds.items c.loop-slot.closed.items c.give_slot.new.closed c.give_slot.new.feed c.loop-slot.invariant.closed c.in_err-give_slot.ensures.closed

pub returns-in_err-give_slot-clause-gives : goal.returns-in_err-give_slot-clause-gives
returns-in_err-give_slot-clause-gives g c =
    let p = err_from_is_err_and c.from_residual.result c.from_residual.ensures.1 in
    rw p.1 (up_stop c.loop-slot.slot c.from-place.result _ c.loop-slot.recorder.journal _ _ c.loop-slot.feeds.items c.index_mut-feed.result.now c.give_slot.new.feed c.loop-slot.invariant.gives c.from-place.ensures (omega (arith, c.requires.slots, c.loop-slot-test.true)) c.loop-slot-test.true c.index_mut-feed.ensures.value c.in_err-give_slot.ensures.gives)

pub returns-in_err-give_slot-clause-words : goal.returns-in_err-give_slot-clause-words
returns-in_err-give_slot-clause-words g c = waits_on g.W.Words.next_word _ c.loop-slot.recorder _ c.loop-slot.invariant.words c.in_err-give_slot.ensures.words
