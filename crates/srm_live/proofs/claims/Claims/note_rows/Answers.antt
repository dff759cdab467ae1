use Rattle.srm_live.proofs.Claiming.{notes_none, notes_more, notes_all}
use Rattle.srm_live.proofs.claims.Claims.note_rows.Goals as goal

pub loop-row-init : goal.loop-row-init
loop-row-init c = notes_none c.args.me c.args.rows.now c.args.self.now

pub loop-row-preserved : goal.loop-row-preserved
loop-row-preserved c = notes_more c.args.me c.args.rows.now c.loop-row.row-index c.row-item.result c.args.self.now c.loop-row.self c.note_row.new.self c.loop-row-test.true c.row-item.is c.loop-row.invariant c.in_ok-note_row.ensures

pub returns : goal.returns
returns c = notes_all c.args.me c.args.rows.now c.loop-row.row-index c.args.self.now c.loop-row.self c.loop-row-test.false c.loop-row.invariant
