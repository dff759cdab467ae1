use Rattle.std.proofs.Common.{◌≡◌, ◌≤◌, take}
use Rattle.srm_names.specs.declared.limits.TheConstants.{DRAWOPS}
use Rattle.srm_store.specs.Held.{greatest_in}
use Rattle.srm_agent_state.proofs.evidence.greatest_in.Given as goal

abbrev pub invariant-loop-name : goal.invariant-loop-name
invariant-loop-name l = record { so_far : l.most ≡ greatest_in (take l.name-index l.names) l.stream; last : l.most ≤ DRAWOPS }
