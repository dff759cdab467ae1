use Rattle.std.proofs.Common.{rules}
use Rattle.std.proofs.lemmas.List.Sorted.{answers_always}
use Rattle.srm_codec.specs.Spelling.{row_below}
use Rattle.srm_codec.proofs.Rising.{ascending_answer}
use Rattle.srm_codec.proofs.spellable.rows_rise.Goals as goal

pub returns : goal.returns
returns c = ascending_answer row_below c.args.rows.now _ (c.is_sorted_by.ensures.cases row_below (answers_always _ _ _ (λ f a r g h. search rules)))
