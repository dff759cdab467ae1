use Rattle.std.proofs.Common.{ap, arith}
use Rattle.srm_entries.specs.Configs.{Config}
use Rattle.srm_agent.proofs.Nexting.{of_some, one_more_none}
use Rattle.srm_agent.proofs.agent.Agent.next_on.Goals as goal

pub returns-in-Some : goal.returns-in-Some
returns-in-Some g c = λ s made past given h f. of_some s past c.args.page.now given c.loop-number.number c.source_at-source.result c.in_ok-message.field-0 c.in-Some.message c.in-Some.is c.source_at-source.ensures (c.loop-number.invariant.none s made past given h f) (c.in_ok-message.ensures s made past given h f)

pub loop-number-preserved : goal.loop-number-preserved
loop-number-preserved g c = record {
  none = λ s made past given h f. one_more_none past c.args.page.now given c.loop-number.number c.source_at-source.result c.in_ok-message.field-0 c.source_at-source.ensures c.in_default.is (c.in_ok-message.ensures s made past given h f) (c.loop-number.invariant.none s made past given h f);
}

pub returns : goal.returns
returns g c = λ s made past given h f source l.
    let fits = rw (← c.self.view_is) at h in
    c.loop-number.invariant.none s made past given h f source (omega (arith, l, ap (λ (x : Config). x.members) fits.config, c.members-number-end.ensures.value, c.loop-number-test.false))
