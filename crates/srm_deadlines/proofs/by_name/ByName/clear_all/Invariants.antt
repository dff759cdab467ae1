use Rattle.std.proofs.Common.{◌≡◌, [], take, length}
use Rattle.srm_deadlines.specs.Places.{KeepsPlaces, GivesPlaces, ClearsAll}
use Rattle.srm_deadlines.proofs.by_name.ByName.clear_all.Given as goal

abbrev pub invariant-loop-name : goal.invariant-loop-name
invariant-loop-name g l = record {
  sets : ClearsAll (take l.name-index l.names) l.initial.self l.self;
  keeps_places : KeepsPlaces l.initial.self l.self;
  only : GivesPlaces [] l.initial.self l.self;
  length : length l.self ≡ length l.initial.self;
}
