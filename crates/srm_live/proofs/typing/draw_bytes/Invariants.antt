use Rattle.std.proofs.Common.{take}
use Rattle.srm_live.specs.Typing.{DrawsTyped}
use Rattle.srm_live.proofs.typing.draw_bytes.Given as goal

abbrev pub invariant-loop-byte : goal.invariant-loop-byte
invariant-loop-byte g l = DrawsTyped (take l.byte-index l.bytes) l.initial.line.page l.initial.line.kept l.initial.typist l.line.page l.line.kept l.typist
