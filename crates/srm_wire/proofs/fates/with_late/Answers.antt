use Rattle.std.proofs.Common.{rules, ap, ◌∙◌}
use Rattle.srm_wire.specs.Fates.{is_behind}
use Rattle.srm_wire.proofs.Fating.{collects_more, collects_all}
use Rattle.srm_wire.proofs.fates.with_late.Goals as goal

pub loop-number-preserved : goal.loop-number-preserved
loop-number-preserved c = collects_more _ _ _ _ _ _ _ c.loop-number.invariant (c.is_behind-comes.ensures ∙ ap (λ f. is_behind f c.loop-number.number c.args.sent) c.fate_of.ensures) c.in_ok-numbers.ensures

pub returns : goal.returns
returns c = collects_all _ _ _ _ _ c.loop-number.invariant (search rules)
