use Rattle.srm_live.proofs.TypedLines.{does_behind}
use Rattle.srm_live.proofs.typing.draw_line.Goals as goal

pub returns-clause-does : goal.returns-clause-does
returns-clause-does g c = does_behind c.do_line.result c.args.typed c.args.page.now _ _ _ c.turn_page.ensures c.do_line.ensures.does
