use Rattle.srm_board.proofs.BoardRuns.{gets_control, same_begins, same_words}
use Rattle.srm_board.proofs.binding.connect.Goals as goal

pub returns-clause-node : goal.returns-clause-node
returns-clause-node g c = gets_control c.args.station.node c.control.new.self c.in-Ok.control c.in-Ok.ensures.1

pub returns-clause-begins : goal.returns-clause-begins
returns-clause-begins g c = same_begins c.args.station.node c.control.new.self c.in-Ok.control c.in-Ok.ensures.1

pub returns-clause-words : goal.returns-clause-words
returns-clause-words g c = same_words c.args.station.node c.control.new.self c.in-Ok.control c.in-Ok.ensures.1
