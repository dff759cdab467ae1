use Rattle.std.proofs.Common.{◌≡◌, take}
use Rattle.srm_record.specs.Calls.{lines_of}
use Rattle.srm_record.proofs.telling.lines_of.Given as goal

-- the lines of the calls so far
abbrev pub invariant-loop-entry : goal.invariant-loop-entry
invariant-loop-entry l = l.lines.items ≡ lines_of l.session (take l.entry-index l.entries)
