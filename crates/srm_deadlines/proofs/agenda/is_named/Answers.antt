use Rattle.std.proofs.Common.{◌∙◌, rules}
use Rattle.std.proofs.lemmas.Fn.{always_returns_same}
use Rattle.srm_deadlines.specs.declared.timed.Timed.{Timed}
use Rattle.srm_deadlines.proofs.Dues.{is_named_by}
use Rattle.srm_deadlines.proofs.agenda.is_named.Goals as goal

pub returns : goal.returns
returns c =
    c.is_ok.ensures.value
    ∙ is_named_by c.args.moments.now c.args.name c.binary_search_by_key.result c.requires.rising c.binary_search_by_key.ensures.bound
    (c.binary_search_by_key.ensures.position (λ (t : Timed). t.name) (always_returns_same _ _ _ (λ a r f k. search rules)))
