use Rattle.std.proofs.Common.{◌≡◌, vec_len}
use Rattle.srm_member.proofs.sink.sinks.Given as goal

abbrev pub invariant-loop : goal.invariant-loop
invariant-loop l = vec_len l.sinks ≡ l.counter
