use Rattle.std.proofs.Common.{rules}
use Rattle.srm_script.proofs.Shown.{shown_more}
use Rattle.srm_script.proofs.printer.printed.shown.Goals as goal

pub loop-at-preserved : goal.loop-at-preserved
loop-at-preserved c = search (rules, shown_more)
