use Rattle.std.proofs.Common.{◌++◌, ap, ◌∙◌, List, ℕ}
use Rattle.srm_frames.specs.Lines.{line_text}
use Rattle.srm_frames.proofs.Elements.{one_more}
use Rattle.srm_frames.proofs.spelling.put_lines.Goals as goal

pub loop-line-preserved : goal.loop-line-preserved
loop-line-preserved c =
    c.in_ok-put_line.ensures
    ∙ ap (λ (bytes : List ℕ). bytes ++ line_text c.line-item.result) c.loop-line.invariant
    ∙ one_more line_text c.args.out.now.items c.args.lines.now c.loop-line.line-index c.line-item.result c.loop-line-test.true c.line-item.is
