use Rattle.srm_node.specs.Calls.{calls_of}
use Rattle.srm_node.specs.Hosting.{kinds_of}
use Rattle.srm_node.proofs.Hosts.{without_ends}
use Rattle.srm_node.proofs.hosting.host.Goals as goal

pub returns-clause-hosts : goal.returns-clause-hosts
returns-clause-hosts g c = without_ends (calls_of g.C.Clock.reads g.X.Wire.receives g.X.Wire.sends g.X.Wire.pauses) (kinds_of g.L.Past.appended g.L.Past.is_refused g.S.PageSink.sees) _ c.args.node.view _ c.args.turns _ _ c.in_ok-hosted.ensures.hosts
