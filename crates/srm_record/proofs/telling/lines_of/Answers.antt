use Rattle.std.proofs.Common.{◌++◌, ap, ◌∙◌, List, [], take}
use Rattle.std.specs.Prelude.{Option}
use Rattle.std.specs.List.{cons_option}
use Rattle.srm_frames.specs.declared.line.Line.{Line}
use Rattle.srm_record.specs.Calls.{line_of, lines_of}
use Rattle.srm_record.proofs.Elements.{one_found}
use Rattle.srm_record.proofs.telling.lines_of.Goals as goal

pub loop-entry-preserved : goal.loop-entry-preserved
loop-entry-preserved c =
    c.in_ok-add.ensures
    ∙ ap (λ (lines : List Line). lines ++ cons_option c.in_ok-line.line []) c.loop-entry.invariant
    ∙ ap (λ (line : Option Line). lines_of c.args.session (take c.loop-entry.entry-index c.args.entries.now) ++ cons_option line []) c.in_ok-line.ensures
    ∙ one_found (line_of c.args.session) c.args.entries.now c.loop-entry.entry-index c.entry-item.result c.loop-entry-test.true c.entry-item.is
