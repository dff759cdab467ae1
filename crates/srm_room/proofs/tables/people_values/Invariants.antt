use Rattle.std.proofs.Common.{◌≡◌, ◌++◌, map, drop}
use Rattle.toml.specs.View.{view}
use Rattle.srm_room.specs.Documents.{person_table}
use Rattle.srm_room.specs.Rooms.{person}
use Rattle.srm_room.proofs.tables.people_values.Given as goal

-- what was made, and what is made of those left, are what is made of all
abbrev pub invariant-loop-member : goal.invariant-loop-member
invariant-loop-member l = map view l.values.items ++ map person_table (map person (drop l.member-index l.members)) ≡ map person_table (map person l.members)
