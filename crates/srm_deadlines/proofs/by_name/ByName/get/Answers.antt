use Rattle.std.proofs.Common.{sym, ap, ◌∙◌}
use Rattle.std.specs.Prelude.{option_copied}
use Rattle.srm_deadlines.specs.Places.{value_at}
use Rattle.srm_deadlines.proofs.Tables.{value_found, flat}
use Rattle.srm_deadlines.proofs.by_name.ByName.get.Goals as goal

pub returns-in_err-get : goal.returns-in_err-get
returns-in_err-get g c =
    c.from_residual.ensures
    ∙ ap flat (ap option_copied (sym c.in_err-get.was) ∙ c.get.ensures.value)
    ∙ sym (value_found _ c.args.name) ∙ ap (λ places. value_at places c.args.name) c.self.view_is

pub returns : goal.returns
returns g c =
    ap flat (ap option_copied (sym c.in_ok-get.was) ∙ c.get.ensures.value)
    ∙ sym (value_found _ c.args.name) ∙ ap (λ places. value_at places c.args.name) c.self.view_is
