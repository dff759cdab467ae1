use Rattle.std.proofs.Common.{◌++◌, ap, ◌∙◌, List, []}
use Rattle.std.specs.List.{cons_option}
use Rattle.srm_names.specs.declared.page_msg.PageMsg.{PageMsg}
use Rattle.srm_frames.specs.declared.line.Line.{Line}
use Rattle.srm_record.specs.Takes.{took_in}
use Rattle.srm_record.proofs.Elements.{one_found}
use Rattle.srm_record.proofs.replaying.list_in.Goals as goal

pub loop-line-preserved : goal.loop-line-preserved
loop-line-preserved c =
    c.in_ok-add_taken.ensures
    ∙ ap (λ (list : List PageMsg). list ++ cons_option (took_in c.args.slot c.line-item.result.call) []) c.loop-line.invariant
    ∙ one_found (λ (l : Line). took_in c.args.slot l.call) c.args.lines.now c.loop-line.line-index c.line-item.result c.loop-line-test.true c.line-item.is
