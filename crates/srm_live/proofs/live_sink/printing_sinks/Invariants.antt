use Rattle.std.proofs.Common.{◌≡◌, vec_len, All}
use Rattle.srm_live.specs.LiveLines.{new_printing}
use Rattle.srm_live.proofs.live_sink.printing_sinks.Given as goal

abbrev pub invariant-loop : goal.invariant-loop
invariant-loop g l = record {
  count : vec_len l.sinks ≡ l.counter;
  new : All (λ s. s ≡ new_printing l.fn.names l.fn.me) l.sinks.items;
}
