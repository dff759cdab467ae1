use Rattle.std.proofs.Common.{rules}
use Rattle.srm_store.proofs.Gaps.{put_counts, was_counted, counts_on}
use Rattle.srm_store.proofs.Gaps.{none_there}
use Rattle.srm_store.proofs.stream_places.StreamPlaces.insert.Goals as goal

pub one_less_if-self-inside-requires : goal.one_less_if-self-inside-requires
one_less_if-self-inside-requires c = λ one. was_counted _ _ _ one (put_counts c.self.inside.places c.make.new.self c.put.new.self c.number-number.result c.self.inside.known c.self.inside.missing c.args.drawop (none_there c.get.result c.in_default.is c.get.ensures) c.in_ok-make.ensures.same c.put.ensures.writes c.number-number.ensures.low c.self.invariant.missing)

pub invariant_of-self-then-number-self : goal.invariant_of-self-then-number-self
invariant_of-self-then-number-self c = record {
  filled = c.filled_from-self-inside.ensures.filled;
  cursor = c.filled_from-self-inside.ensures.last;
  known = c.self.invariant.known;
  missing = counts_on _ _ _ _ (put_counts c.self.inside.places c.make.new.self c.put.new.self c.number-number.result c.self.inside.known c.self.inside.missing c.args.drawop (none_there c.get.result c.in_default.is c.get.ensures) c.in_ok-make.ensures.same c.put.ensures.writes c.number-number.ensures.low c.self.invariant.missing) c.one_less_if-self-inside.ensures;
}

pub invariant_of-self-else-number-self : goal.invariant_of-self-else-number-self
invariant_of-self-else-number-self c = record {
  filled = search rules;
  cursor = c.self.invariant.cursor;
  known = c.self.invariant.known;
  missing = counts_on _ _ _ _ (put_counts c.self.inside.places c.make.new.self c.put.new.self c.number-number.result c.self.inside.known c.self.inside.missing c.args.drawop (none_there c.get.result c.in_default.is c.get.ensures) c.in_ok-make.ensures.same c.put.ensures.writes c.number-number.ensures.low c.self.invariant.missing) c.one_less_if-self-inside.ensures;
}
