use Rattle.std.proofs.Common.{sym, arith, rules}
use Rattle.srm_store.proofs.Gaps.{no_gap_yet, gap_passed, gap_found, gap_never}
use Rattle.srm_store.proofs.stream_places.StreamPlaces.next_missing.Goals as goal

pub loop-number-init : goal.loop-number-init
loop-number-init c = record { none = no_gap_yet c.args.self.now.places c.args.after c.args.after (omega arith); above = omega arith }

pub loop-number-preserved : goal.loop-number-preserved
loop-number-preserved c = record {
  none = gap_passed c.args.self.now.places c.args.after c.loop-number.number c.loop-number.invariant.none (search rules);
  above = omega (arith, c.loop-number.invariant.above);
}

pub returns-then-not-holds-clause-value : goal.returns-then-not-holds-clause-value
returns-then-not-holds-clause-value c =
    sym (gap_found c.args.self.now.places c.args.after c.loop-number.number c.args.self.now.known c.loop-number.invariant.none (search rules) c.loop-number.invariant.above (rw (← c.self.view_is) c.loop-number-test.true))

pub returns-clause-value : goal.returns-clause-value
returns-clause-value c = sym (gap_never c.args.self.now.places c.args.after c.loop-number.number c.args.self.now.known c.loop-number.invariant.none (rw (← c.self.view_is) c.loop-number-test.false))
