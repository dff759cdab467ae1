use Rattle.std.proofs.Common.{◌≡◌, vec_len}
use Rattle.srm_board.proofs.slate_sink.slate_sinks.Given as goal

abbrev pub invariant-loop : goal.invariant-loop
invariant-loop g l = vec_len l.sinks ≡ l.counter
