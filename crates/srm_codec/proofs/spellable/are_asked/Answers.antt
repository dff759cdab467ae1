use Rattle.std.proofs.Common.{rules}
use Rattle.srm_codec.specs.Spelling.{is_name}
use Rattle.srm_codec.proofs.ContentLaws.{asked_answer}
use Rattle.srm_codec.proofs.spellable.are_asked.Goals as goal

pub returns-then-is_name : goal.returns-then-is_name
returns-then-is_name c =
    let fits : is_name c.args.name = search rules in
    asked_answer c.args.name c.args.mask _ fits c.is_within.ensures
