use Rattle.std.proofs.Common.{◌≡◌, take}
use Rattle.std.specs.Bool.{OnTrue}
use Rattle.srm_script.specs.TookLines.{body_text}
use Rattle.srm_script.proofs.printer.printed.is_plain.Given as goal

abbrev pub invariant-loop-byte : goal.invariant-loop-byte
invariant-loop-byte l = OnTrue l.plain (body_text (take l.byte-index l.bytes) ≡ take l.byte-index l.bytes)
