use Rattle.std.proofs.Common.{arith}
use Rattle.srm_codec.specs.declared.format.TheConstants.{LONGEST_LIST}
use Rattle.srm_agent.proofs.Unknown.{no_rows, row_more, all_rows}
use Rattle.srm_agent.proofs.agent.Agent.unknown_by_rows.Goals as goal

pub loop-row-init : goal.loop-row-init
loop-row-init g c = no_rows c.args.self.now c.args.rows.now

pub loop-row-preserved : goal.loop-row-preserved
loop-row-preserved g c = row_more c.args.self.now c.args.rows.now c.loop-row.row-index c.loop-row.count c.unknown_up_to_row-count.result c.row-item.result c.requires.rising c.loop-row-test.true c.row-item.is c.loop-row.invariant c.unknown_up_to_row-count.ensures

pub returns : goal.returns
returns g c =
    let p = all_rows c.args.self.now c.args.rows.now c.loop-row.row-index c.loop-row.count LONGEST_LIST c.loop-row-test.false (omega (arith, c.loop-row.auto.row-index-end, c.requires.few)) c.loop-row.invariant in
    record { each = p.0; few = p.1 }
