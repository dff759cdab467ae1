use Rattle.std.proofs.Common.{ap}
use Rattle.std.specs.Prelude.{Some}
use Rattle.srm_node.specs.Calls.{calls_of}
use Rattle.srm_udp.specs.Clocks.{NeverFalls}
use Rattle.srm_script.specs.declared.fault.ScriptFault.TheVariants.{Memory}
use Rattle.srm_member.specs.declared.fault.MemberFault.TheVariants.{Script}
use Rattle.srm_live.proofs.LiveRuns.{ends_stay}
use Rattle.srm_live.proofs.LiveMembers.{lives_from, not_whole}
use Rattle.srm_live.proofs.living.run_bound.Goals as goal

pub host_live-run-requires-clause-new : goal.host_live-run-requires-clause-new
host_live-run-requires-clause-new g c κs within = ends_stay c.args.station.node c.control.new.self c.args.station.taps.items c.args.station.pens.items _ c.requires.new c.in-Ok.ensures.1

pub returns-in_default : goal.returns-in_default
returns-in_default g c = λ whole. not_whole (Script Memory) _ _ (ap Some c.out_of_memory.ensures) whole

pub returns : goal.returns
returns g c = λ whole.
    let end = c.end.ensures whole in
    lives_from (calls_of NeverFalls g.X.Wire.receives g.X.Wire.sends g.X.Wire.pauses) g.S.PageSink.sees g.F.Write.contents c.args.turns (g.I.Read.remaining c.args.reader) c.args.station.node c.control.new.self c.in-Ok.control c.args.sinks.items c.in-Ok.ensures.1 (c.host_live-run.ensures end.0 end.1)
