use Rattle.srm_node.proofs.Timing.{words_kept, begins_kept, made_now}
use Rattle.srm_node.proofs.node.Node.with_past.Goals as goal

pub returns-clause-words : goal.returns-clause-words
returns-clause-words g c = words_kept c.over.result c.in_ok-recorder.recorder _ _ _ c.over.ensures.words c.in_ok-recorder.ensures.value

pub returns-clause-made : goal.returns-clause-made
returns-clause-made g c = made_now c.over.result c.in_ok-recorder.recorder g.C.Clock.reads c.args.clock _ c.now.result _ _ _ _ c.over.ensures.journal c.over.ensures.clock c.in_ok-recorder.ensures.value c.now.ensures c.min-now.ensures

pub returns-clause-begins : goal.returns-clause-begins
returns-clause-begins g c = begins_kept c.over.result c.in_ok-recorder.recorder _ _ _ c.over.ensures.begins c.in_ok-recorder.ensures.value
