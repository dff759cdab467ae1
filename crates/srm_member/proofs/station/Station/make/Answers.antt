use Rattle.srm_member.proofs.Stations.{told_both, new_station, station_made, still_begins}
use Rattle.srm_member.proofs.station.Station.make.Goals as goal

pub returns-clause-new : goal.returns-clause-new
returns-clause-new g c =
    new_station _ _ _ _ _ _ _ _ c.in_ok-node.node _ _ _ c.in_ok-node.ensures.value c.requires.wire (told_both _ _ c.in_ok-node.node _ _ c.ask_leave.ensures c.limit_missing.ensures) c.in_ok-clock.ensures.taps c.in_ok-clock.ensures.lanes c.in_ok-clock.ensures.new c.in_ok-clock.ensures.pens.0
    c.in_ok-clock.ensures.pens.1

pub returns-clause-begins : goal.returns-clause-begins
returns-clause-begins g c = still_begins _ _ _ _ _ (still_begins _ _ _ _ _ c.in_ok-node.ensures.begins c.ask_leave.ensures) c.limit_missing.ensures

pub returns-clause-made : goal.returns-clause-made
returns-clause-made g c = station_made _ _ _ c.in_ok-node.node _ c.in_ok-clock.ensures.clock c.in_ok-node.ensures.made (told_both _ _ c.in_ok-node.node _ _ c.ask_leave.ensures c.limit_missing.ensures)
