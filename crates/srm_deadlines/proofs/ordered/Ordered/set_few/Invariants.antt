use Rattle.std.proofs.Common.{[], take}
use Rattle.srm_deadlines.specs.Places.{KeepsPlaces, GivesPlaces, SetsAll}
use Rattle.srm_deadlines.proofs.ordered.Ordered.set_few.Given as goal

abbrev pub invariant-loop-timed : goal.invariant-loop-timed
invariant-loop-timed l = record {
  sets : SetsAll (take l.timed-index l.moments) l.initial.self l.self;
  keeps_places : KeepsPlaces l.initial.self l.self;
  only : GivesPlaces [] l.initial.self l.self;
}
