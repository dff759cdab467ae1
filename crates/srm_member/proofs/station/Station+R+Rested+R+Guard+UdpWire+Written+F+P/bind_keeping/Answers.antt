use Rattle.srm_member.proofs.Stations.{begins_here}
use Rattle.srm_member.proofs.station.Station+R+Rested+R+Guard+UdpWire+Written+F+P.bind_keeping.Goals as goal

pub returns-in-Ok-make-clause-begins : goal.returns-in-Ok-make-clause-begins
returns-in-Ok-make-clause-begins g c =
    begins_here g.F.Write.contents c.args.file c.beginning_of-beginning.result _ _ _ _ _ _ _ _ _ _ _ c.new-past.ensures.begins c.in-Ok-make.ensures.begins c.beginning_of-beginning.ensures.config c.beginning_of-beginning.ensures.made c.beginning_of-beginning.ensures.seed c.in-Ok-make.ensures.new c.in-Ok-make.ensures.made
