use Rattle.std.proofs.Common.{◌≡◌, ℕ, List, ◌++◌}
use Rattle.std.specs.Fmt.{HasWritten, IsPlainFormatter}
use Rattle.std.specs.Slice.Iter.{chunks_rest, chunks_size}
use Rattle.srm_script.specs.declared.printer.printed.TheConstants.{SHOWN_AT_ONCE}
use Rattle.srm_script.specs.TookLines.{body_text}
use Rattle.srm_script.proofs.printer.printed.PrintedBodyDisplay.fmt.Given as goal

abbrev pub invariant-loop-bytes : goal.invariant-loop-bytes
invariant-loop-bytes g l =
    (goal.iterator-loop-bytes g).can_next l.bytes-iterator
    × (goal.iterator-loop-bytes g).is_finite l.bytes-iterator
    × (chunks_size l.bytes-iterator ≡ SHOWN_AT_ONCE)
    × (IsPlainFormatter l.initial.f → (done : List ℕ) × HasWritten g.W.Write.write_str_gives l.initial.f done l.f
    × (done ++ body_text (chunks_rest l.bytes-iterator) ≡ body_text l.fn.self.0.now))
