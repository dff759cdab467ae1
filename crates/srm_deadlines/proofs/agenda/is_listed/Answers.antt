use Rattle.std.proofs.Common.{◌∙◌}
use Rattle.srm_deadlines.proofs.Dues.{is_listed_by}
use Rattle.srm_deadlines.proofs.agenda.is_listed.Goals as goal

pub returns : goal.returns
returns c = c.is_ok.ensures.value ∙ is_listed_by c.args.names.now c.args.name c.binary_search.result c.requires.rising c.binary_search.ensures.bound c.binary_search.ensures.position
