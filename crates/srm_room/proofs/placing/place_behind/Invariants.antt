use Rattle.std.proofs.Common.{◌≡◌, ◌≤◌, drop}
use Rattle.srm_names.specs.declared.limits.TheConstants.{MEMBERS}
use Rattle.srm_room.specs.Places.{place_behind}
use Rattle.srm_room.proofs.placing.place_behind.Given as goal

-- what is left, from the number so far, has the place of all
abbrev pub invariant-loop-b : goal.invariant-loop-b
invariant-loop-b l = (l.place ≤ MEMBERS) × (place_behind l.place (drop l.b-index l.text) ≡ place_behind 0 l.text)
