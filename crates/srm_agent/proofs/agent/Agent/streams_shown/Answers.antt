use Rattle.std.proofs.Common.{ap, rules}
use Rattle.srm_agent.specs.Contents.{AgentContent}
use Rattle.srm_agent.proofs.Rows.{streams_more}
use Rattle.srm_agent.proofs.agent.Agent.streams_shown.Goals as goal

pub loop-number-preserved : goal.loop-number-preserved
loop-number-preserved g c = record {
  are = streams_more c.args.self.now.showing c.self.inside.showing c.loop-number.number c.member.result c.loop-number.streams.items c.push.new.self.items
      c.loop-number.invariant.are c.member.ensures (ap (λ (a : AgentContent _). a.showing) c.self.view_is) (search rules);
}
