use Rattle.srm_node.proofs.Limiting.{takes_heard, takes_excess, takes_unjudged}
use Rattle.srm_node.proofs.Waiting.{waits_none}
use Rattle.srm_node.proofs.listening.take_in.Goals as goal

pub returns-in-Within-clause-takes : goal.returns-in-Within-clause-takes
returns-in-Within-clause-takes g c = takes_heard c.args.now c.args.bytes.now c.args.limit.now c.args.recorder.now.journal _ c.hear_one.result c.in-Within.ensures c.hear_one.ensures.hears

pub returns-in-Excess-clause-takes : goal.returns-in-Excess-clause-takes
returns-in-Excess-clause-takes g c = takes_excess c.args.now c.args.bytes.now c.args.limit.now c.count_excess.new.self c.args.recorder.now.journal c.in-Excess.ensures c.count_excess.ensures

pub returns-in-Unjudged-clause-takes : goal.returns-in-Unjudged-clause-takes
returns-in-Unjudged-clause-takes g c = takes_unjudged c.args.now c.args.bytes.now c.args.limit.now c.count_unjudged.new.self c.args.recorder.now.journal c.in-Unjudged.ensures c.count_unjudged.ensures

pub returns-in-Excess-clause-words : goal.returns-in-Excess-clause-words
returns-in-Excess-clause-words g c = waits_none g.W.Words.next_word _

pub returns-in-Unjudged-clause-words : goal.returns-in-Unjudged-clause-words
returns-in-Unjudged-clause-words g c = waits_none g.W.Words.next_word _
