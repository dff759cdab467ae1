use Rattle.std.proofs.Common.{sym, ◌∙◌, ap}
use Rattle.std.specs.Prelude.{Some}
use Rattle.std.specs.Option.{option_copied}
use Rattle.srm_agent.proofs.Nexting.{draw_is_next, leave_is_next, nothing_is_next}
use Rattle.srm_agent.proofs.agent.Agent.next_of.Goals as goal

pub returns-in-Some : goal.returns-in-Some
returns-in-Some g c = λ s made past given h f.
    draw_is_next past c.args.stream given c.number-given.result c.in_ok-copy.field-0 (c.number-given.ensures.value ∙ f.numbers c.args.stream.source c.number-given.ensures.below)
    (sym (c.released_after.ensures s made past h) ∙ ap option_copied c.in-Some.is ∙ ap Some (sym c.in_ok-copy.ensures))

pub returns-then-all_and_new : goal.returns-then-all_and_new
returns-then-all_and_new g c = λ s made past given h f.
    leave_is_next past c.args.stream given c.number-given.result c.is_all.result c.has_left.result (c.number-given.ensures.value ∙ f.numbers c.args.stream.source c.number-given.ensures.below)
    (c.is_all.ensures s made past h) (c.has_left.ensures ∙ f.left c.args.stream.source c.number-given.ensures.below) (sym c.all_and_new.ensures ∙ c.if-all_and_new.true)

pub returns : goal.returns
returns g c = λ s made past given h f.
    nothing_is_next past c.args.stream given c.number-given.result c.is_all.result c.has_left.result (c.number-given.ensures.value ∙ f.numbers c.args.stream.source c.number-given.ensures.below)
    (sym (ap option_copied c.in_default.is) ∙ c.released_after.ensures s made past h) (c.is_all.ensures s made past h) (c.has_left.ensures ∙ f.left c.args.stream.source c.number-given.ensures.below) (sym c.all_and_new.ensures ∙ c.if-all_and_new.false)
