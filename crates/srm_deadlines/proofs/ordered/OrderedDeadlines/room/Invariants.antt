use Rattle.std.proofs.Common.{take}
use Rattle.srm_deadlines.specs.Places.{KeepsPlaces, GivesPlaces, KeepsValues, HasPlaces}
use Rattle.srm_deadlines.proofs.ordered.OrderedDeadlines.room.Given as goal

abbrev pub invariant-loop-name : goal.invariant-loop-name
invariant-loop-name l = record {
  kept : KeepsValues l.initial.self l.self;
  keeps_places : KeepsPlaces l.initial.self l.self;
  only : GivesPlaces l.names l.initial.self l.self;
  so_far : HasPlaces (take l.name-index l.names) l.self;
}
