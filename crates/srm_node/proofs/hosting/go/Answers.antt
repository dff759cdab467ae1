use Rattle.srm_node.specs.Calls.{calls_of}
use Rattle.srm_node.specs.Hosting.{kinds_of}
use Rattle.srm_node.specs.Nodes.{recorded_in}
use Rattle.srm_node.proofs.Hosts.{hosted}
use Rattle.srm_node.proofs.Waiting.{chosen_by_words}
use Rattle.srm_node.proofs.hosting.go.Goals as goal

pub returns-clause-ends : goal.returns-clause-ends
returns-clause-ends g c = hosted (calls_of g.C.Clock.reads g.X.Wire.receives g.X.Wire.sends g.X.Wire.pauses) (kinds_of g.L.Past.appended g.L.Past.is_refused g.S.PageSink.sees) c.run_if-end.result c.args.node.view c.run_if-end.new.node.view _ c.args.turns c.args.all _ _ _ c.is_ok.result c.run_if-end.ensures.runs c.into_parts-history.ensures.keeps c.into_parts-history.ensures.journal c.into_parts-history.ensures.feeds c.into_parts-history.ensures.well c.into_parts-history.ensures.control c.kept-feeds.ensures.feeds c.kept-feeds.ensures.none c.is_ok.ensures.value c.join_all-worked.ensures

pub returns-clause-each : goal.returns-clause-each
returns-clause-each g c = c.join_all-worked.ensures

pub returns-clause-words : goal.returns-clause-words
returns-clause-words g c = chosen_by_words g.W.Words.next_word (recorded_in c.args.node) (recorded_in c.run_if-end.new.node) _ c.run_if-end.ensures.words c.into_parts-history.ensures.journal
