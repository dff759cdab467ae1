use Rattle.srm_board.proofs.BoardRuns.{no_control, board_station, still_begins}
use Rattle.srm_board.proofs.binding.bind_watched.Goals as goal

pub connect-requires : goal.connect-requires
connect-requires g c = no_control c.args.options c.args.seal c.in-Ok.station.node.view c.in-Ok.station.taps.items c.in-Ok.station.pens.items c.in-Ok.ensures.new

pub returns-in-Ok-clause-station : goal.returns-in-Ok-clause-station
returns-in-Ok-clause-station g c = board_station c.args.options c.args.seal c.in-Ok.station.node.view c.connect.result.node.view c.in-Ok.station.taps.items c.connect.result.taps.items c.in-Ok.station.pens.items c.connect.result.pens.items
    c.in-Ok.ensures.new c.connect.ensures.node c.connect.ensures.taps c.connect.ensures.pens

pub returns-in-Ok-clause-begins : goal.returns-in-Ok-clause-begins
returns-in-Ok-clause-begins g c = still_begins g.F.Write.contents c.args.file c.args.options.seed c.in-Ok.station.node.view c.connect.result.node.view c.in-Ok.station.node.begins c.connect.result.node.begins c.connect.ensures.node c.connect.ensures.begins c.in-Ok.ensures.begins
