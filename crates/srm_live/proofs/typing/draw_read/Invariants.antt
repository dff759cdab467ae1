use Rattle.std.proofs.Common.{◌<◌, length}
use Rattle.srm_live.specs.Typing.{ReadsOf, SameTypist}
use Rattle.srm_live.proofs.typing.draw_read.Given as goal

abbrev pub invariant-loop : goal.invariant-loop
invariant-loop g l = record {
  room : 0 < length l.buffer;
  same : SameTypist l.initial.typist l.typist;
  reads : ReadsOf (g.I.Read.remaining l.initial.reader) (g.I.Read.remaining l.reader) l.line.page l.line.kept l.initial.typist l.typist;
}
