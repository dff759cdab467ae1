use Rattle.std.proofs.Common.{true, false, ap}
use Rattle.std.proofs.lemmas.Result.{err_from_is_err_and}
use Rattle.srm_pages.specs.Ends.{FeedView}
use Rattle.srm_node.proofs.Closing.{closed_kept}
use Rattle.srm_node.proofs.Gives.{gives_on, gives_looked}
use Rattle.srm_node.proofs.Waiting.{waits_on}
use Rattle.srm_node.proofs.giving.give_slot.Goals as goal

pub returns-in_err-ended-clause-words : goal.returns-in_err-ended-clause-words
returns-in_err-ended-clause-words g c = waits_on g.W.Words.next_word _ c.loop.recorder _ c.loop.invariant.words c.in_err-ended.ensures.words

pub returns-in_err-ended-clause-gives : goal.returns-in_err-ended-clause-gives
returns-in_err-ended-clause-gives g c =
    let p = err_from_is_err_and c.from_residual.result c.from_residual.ensures.1 in
    rw p.1 (gives_on c.args.slot false _ c.loop.recorder.journal _ _ c.credit.new.self _ (gives_looked c.args.slot _ c.loop.recorder.journal _ c.loop.feed c.credit.new.self c.loop.invariant.gives c.credit.ensures.same) c.in_err-ended.ensures.gives)

pub returns-then-ended-clause-words : goal.returns-then-ended-clause-words
returns-then-ended-clause-words g c = waits_on g.W.Words.next_word _ c.loop.recorder _ c.loop.invariant.words c.in_ok-ended.ensures.words

pub returns-then-ended-clause-gives : goal.returns-then-ended-clause-gives
returns-then-ended-clause-gives g c = gives_on c.args.slot true _ c.loop.recorder.journal _ _ c.credit.new.self _ (gives_looked c.args.slot _ c.loop.recorder.journal _ c.loop.feed c.credit.new.self c.loop.invariant.gives c.credit.ensures.same) (rw c.if-ended.true at c.in_ok-ended.ensures.gives)

pub loop-preserved : goal.loop-preserved
loop-preserved g c = record {
  words = waits_on g.W.Words.next_word _ c.loop.recorder _ c.loop.invariant.words c.in_ok-ended.ensures.words;
  gives = gives_on c.args.slot false _ c.loop.recorder.journal _ _ c.credit.new.self _ (gives_looked c.args.slot _ c.loop.recorder.journal _ c.loop.feed c.credit.new.self c.loop.invariant.gives c.credit.ensures.same) (rw c.if-ended.false at c.in_ok-ended.ensures.gives);
  closed = c.in_ok-ended.ensures.closed;
}

pub give_next-requires-clause-closed : goal.give_next-requires-clause-closed
give_next-requires-clause-closed g c = closed_kept _ c.loop.feed c.credit.new.self c.loop.invariant.closed (ap (λ (f : FeedView). f.put) c.credit.ensures.same)
