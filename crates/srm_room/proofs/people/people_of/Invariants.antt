use Rattle.std.proofs.Common.{◌≡◌, [], drop, map}
use Rattle.toml.specs.View.{items_view}
use Rattle.srm_room.specs.Rooms.{person}
use Rattle.srm_room.specs.Readings.{people_behind}
use Rattle.srm_room.proofs.people.people_of.Given as goal

-- what is left, behind the members so far, says what all says
abbrev pub invariant-loop-value : goal.invariant-loop-value
invariant-loop-value l = people_behind (map person l.members.items) (items_view (drop l.value-index l.values)) ≡ people_behind [] (items_view l.values)
