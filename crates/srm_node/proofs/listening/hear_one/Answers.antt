use Rattle.srm_node.proofs.Limiting.{hears_one, hears_nothing}
use Rattle.srm_node.proofs.Waiting.{waits_heard}
use Rattle.srm_node.proofs.listening.hear_one.Goals as goal

pub returns-clause-hears : goal.returns-clause-hears
returns-clause-hears g c = hears_one c.args.now c.args.bytes.now _ _ _ c.in-Ok.ensures.records

pub returns-in_default-clause-hears : goal.returns-in_default-clause-hears
returns-in_default-clause-hears g c = hears_nothing c.args.now c.args.bytes.now _ _ _ c.in_default.ensures.records

pub returns-clause-words : goal.returns-clause-words
returns-clause-words g c = waits_heard g.W.Words.next_word c.args.now c.args.bytes.now _ _ _ c.in-Ok.ensures.records c.in-Ok.ensures.words

pub returns-in_default-clause-words : goal.returns-in_default-clause-words
returns-in_default-clause-words g c = waits_heard g.W.Words.next_word c.args.now c.args.bytes.now _ _ _ c.in_default.ensures.records c.in_default.ensures.words
