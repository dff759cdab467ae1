use Rattle.std.proofs.Common.{◌≡◌, ◌++◌, ◌∷◌, [], arith}
use Rattle.srm_agent.proofs.Rows.{rows_none, rows_some}
use Rattle.srm_agent.proofs.agent.Agent.rows_of.Goals as goal
use Rattle.srm_agent.proofs.agent.Agent.rows_of.Goals.{in-Some+in_ok-push, in_default}

pub loop-stream-preserved : goal.loop-stream-preserved
loop-stream-preserved g c = elim c.match-row.branch [
  | in-Some+in_ok-push w ↦ (let more : c.match-row.rows.items ≡ c.loop-stream.rows.items ++ w.in-Some.row ∷ [] = grind arith in
      rows_some c.args.self.now c.args.streams.now c.loop-stream.stream-index c.stream-item.result c.loop-stream.rows.items c.match-row.rows.items w.in-Some.row
      c.loop-stream-test.true c.stream-item.is more c.loop-stream.invariant w.in-Some.ensures)
  | in_default w ↦ (let same : c.match-row.rows.items ≡ c.loop-stream.rows.items = grind arith in
      rows_none c.args.self.now c.args.streams.now c.loop-stream.stream-index c.stream-item.result c.loop-stream.rows.items c.match-row.rows.items
      c.loop-stream-test.true c.stream-item.is same c.loop-stream.invariant w.in_default.ensures)
]
