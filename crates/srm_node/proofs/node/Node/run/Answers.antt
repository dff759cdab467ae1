use Rattle.srm_node.specs.Calls.{calls_of}
use Rattle.srm_node.proofs.Turning.{runs_more, runs_ended}
use Rattle.srm_node.proofs.Waiting.{waits_on, waits_paused}
use Rattle.srm_node.proofs.node.Node.run.Goals as goal

pub returns-in_err-turn-clause-words : goal.returns-in_err-turn-clause-words
returns-in_err-turn-clause-words g c =
    waits_on g.W.Words.next_word _ _ _ (waits_on g.W.Words.next_word _ _ _ c.loop-done.invariant.words (waits_paused g.W.Words.next_word _ c.loop-done.self c.pause.new.self c.pause.ensures.paused c.pause.ensures.words c.pause.ensures.begins)) c.in_err-turn.ensures.words

pub loop-done-preserved : goal.loop-done-preserved
loop-done-preserved g c = record {
  keeps = c.in_ok-turn.ensures.keeps;
  words = waits_on g.W.Words.next_word _ _ _ (waits_on g.W.Words.next_word _ _ _ c.loop-done.invariant.words (waits_paused g.W.Words.next_word _ c.loop-done.self c.pause.new.self c.pause.ensures.paused c.pause.ensures.words c.pause.ensures.begins)) c.in_ok-turn.ensures.words;
  runs = runs_more (calls_of g.C.Clock.reads g.X.Wire.receives g.X.Wire.sends g.X.Wire.pauses) c.loop-done.done _ c.loop-done.self.view c.pause.new.self.view _ c.is_ended.result c.loop-done.invariant.runs (search depth 0) (search depth 0) (search depth 0) c.in_ok-turn.ensures.turns;
}

pub returns-in_err-turn-clause-runs : goal.returns-in_err-turn-clause-runs
returns-in_err-turn-clause-runs g c =
    runs_ended (calls_of g.C.Clock.reads g.X.Wire.receives g.X.Wire.sends g.X.Wire.pauses) c.from_residual.result c.in_err-turn.field-0.0 c.loop-done.done c.args.turns _ c.loop-done.self.view c.pause.new.self.view _ c.is_ended.result (search depth 0) (search depth 0) c.loop-done.invariant.runs (search depth 0) (search depth 0) (search depth 0)
    c.in_err-turn.ensures.turns
