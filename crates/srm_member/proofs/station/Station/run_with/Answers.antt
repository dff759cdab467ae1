use Rattle.srm_member.proofs.WholeRuns.{pens_drew}
use Rattle.srm_member.proofs.station.Station.run_with.Goals as goal

pub returns-in-Some-clause-pens : goal.returns-in-Some-clause-pens
returns-in-Some-clause-pens g c = pens_drew c.end-inked.result.all c.start-all.result c.host_if-hosted.result _ c.args.crew.threads c.start-all.new.self _ c.end-inked.result.inked.items c.host_if-hosted.ensures.refused c.in-Some.is c.requires.threads c.start-all.ensures c.end-inked.ensures
