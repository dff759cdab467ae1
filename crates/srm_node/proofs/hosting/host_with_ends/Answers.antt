use Rattle.srm_node.specs.Calls.{calls_of}
use Rattle.srm_node.specs.Hosting.{kinds_of}
use Rattle.srm_node.proofs.Hosts.{host_ends, host_left, host_lanes, host_well, host_control}
use Rattle.srm_node.proofs.hosting.host_with_ends.Goals as goal

pub returns-clause-hosts : goal.returns-clause-hosts
returns-clause-hosts g c = host_ends (calls_of g.C.Clock.reads g.X.Wire.receives g.X.Wire.sends g.X.Wire.pauses) (kinds_of g.L.Past.appended g.L.Past.is_refused g.S.PageSink.sees) c.go.result.0.end c.args.node.view _ c.begin-all.new.workers.items _ c.args.turns c.begin-all.result.0 c.go.result.1 c.go.result.0 c.begin-all.ensures.up_to c.go.ensures.left c.go.ensures.ends

pub returns-clause-left : goal.returns-clause-left
returns-clause-left g c = host_left (calls_of g.C.Clock.reads g.X.Wire.receives g.X.Wire.sends g.X.Wire.pauses) (kinds_of g.L.Past.appended g.L.Past.is_refused g.S.PageSink.sees) c.go.result.0.end c.args.node.view _ c.begin-all.new.workers.items _ c.args.turns c.begin-all.result.0 c.go.result.1 c.go.result.0 c.begin-all.ensures.up_to c.go.ensures.left c.go.ensures.ends

pub returns-clause-lanes : goal.returns-clause-lanes
returns-clause-lanes g c = host_lanes (calls_of g.C.Clock.reads g.X.Wire.receives g.X.Wire.sends g.X.Wire.pauses) (kinds_of g.L.Past.appended g.L.Past.is_refused g.S.PageSink.sees) c.go.result.0.end c.args.node.view c.args.taps.items c.args.sinks.items c.args.turns c.go.result.1 c.go.result.0 (returns-clause-hosts g c)

pub returns-clause-well : goal.returns-clause-well
returns-clause-well g c = host_well (calls_of g.C.Clock.reads g.X.Wire.receives g.X.Wire.sends g.X.Wire.pauses) (kinds_of g.L.Past.appended g.L.Past.is_refused g.S.PageSink.sees) c.go.result.0.end c.args.node.view _ c.args.turns c.go.result.1 c.go.result.0 (returns-clause-hosts g c)

pub returns-clause-control : goal.returns-clause-control
returns-clause-control g c = host_control (calls_of g.C.Clock.reads g.X.Wire.receives g.X.Wire.sends g.X.Wire.pauses) (kinds_of g.L.Past.appended g.L.Past.is_refused g.S.PageSink.sees) c.go.result.0.end c.args.node.view _ c.args.turns c.go.result.1 c.go.result.0 (returns-clause-hosts g c)
