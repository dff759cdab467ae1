use Rattle.srm_node.specs.Calls.{calls_of}
use Rattle.srm_node.specs.Hosting.{kinds_of, starts_of}
use Rattle.srm_node.proofs.Hosts.{without_ends}
use Rattle.srm_udp.specs.Clocks.{NeverFalls}
use Rattle.srm_member.specs.Sinks.{NeverStops}
use Rattle.srm_member.proofs.station.Station.run.Goals as goal

pub returns-clause-hosts : goal.returns-clause-hosts
returns-clause-hosts g c =
    let (sinks, count, ran) = c.in_ok-ran.ensures.hosts in
    (sinks, count, without_ends (calls_of NeverFalls g.X.Wire.receives g.X.Wire.sends g.X.Wire.pauses) (kinds_of g.L.Past.appended g.L.Past.is_refused NeverStops) c.in_ok-ran.ran.hosted.end c.args.self.node.view (starts_of c.args.self.taps.items sinks) c.args.turns c.in_ok-ran.ran.ends c.in_ok-ran.ran.hosted ran)
