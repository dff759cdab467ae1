use Rattle.std.proofs.Common.{arith}
use Rattle.srm_agent.proofs.Unknown.{unknown_between}
use Rattle.srm_agent.proofs.agent.Agent.unknown_below.Goals as goal

pub returns : goal.returns
returns g c = record {
  each = λ s made past h. unknown_between past c.args.stream c.known.result c.args.below c.saturating_sub.result (c.known.ensures.value s made past h) (omega (arith, c.saturating_sub.ensures));
  few = omega (arith, c.saturating_sub.ensures, c.requires);
}
