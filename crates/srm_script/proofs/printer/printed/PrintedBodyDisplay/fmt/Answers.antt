use Rattle.std.proofs.Common.{◌++◌, rules}
use Rattle.std.proofs.Output.{has_written_append}
use Rattle.srm_script.proofs.Shown.{shown_on}
use Rattle.srm_script.proofs.printer.printed.PrintedBodyDisplay.fmt.Goals as goal

pub loop-bytes-preserved : goal.loop-bytes-preserved
loop-bytes-preserved g c =
    let steps = c.in-Some.ensures.steps in (
      search rules,
      tt,
      search rules,
      λ plain.
          let so_far = c.loop-bytes.invariant.3 plain in (
            so_far.0 ++ c.in-Ok-from_utf8.text.now,
            has_written_append _ _ _ _ _ _ so_far.1 (search rules),
            shown_on so_far.0 _ c.in-Some.bytes.now _ _ _ so_far.2 steps.1.0 (search (rules)),
          ),
    )
