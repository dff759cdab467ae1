use Rattle.std.proofs.Common.{◌≡◌, ◌≤◌, length, take}
use Rattle.srm_script.specs.declared.printer.printed.TheConstants.{SHOWN_AT_ONCE}
use Rattle.srm_script.specs.TookLines.{body_text}
use Rattle.srm_script.proofs.printer.printed.shown.Given as goal

abbrev pub invariant-loop-at : goal.invariant-loop-at
invariant-loop-at l = (l.at-end ≡ length l.bytes) × (l.at ≤ length l.bytes) × (length l.shown ≡ SHOWN_AT_ONCE) × (take l.at l.shown ≡ body_text (take l.at l.bytes))
