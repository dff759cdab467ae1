use Rattle.std.proofs.Common.{rules}
use Rattle.std.proofs.lemmas.List.Sorted.{answers_always}
use Rattle.srm_names.specs.Names.{echo_below}
use Rattle.srm_codec.proofs.Rising.{ascending_answer}
use Rattle.srm_codec.proofs.spellable.echoes_rise.Goals as goal

pub returns : goal.returns
returns c = ascending_answer echo_below c.args.echoes.now _ (c.is_sorted_by.ensures.cases echo_below (answers_always _ _ _ (λ f a r g h. search rules)))
