use Rattle.std.proofs.Common.{arith}
use Rattle.srm_names.proofs.Growing.{none_between, more_between, all_between}
use Rattle.srm_names.proofs.between.names_between.Goals as goal

pub loop-number-init : goal.loop-number-init
loop-number-init c = record { so_far = none_between c.args.stream c.args.above _ c.new-names.ensures.items; low = omega arith; high = omega arith }

pub loop-number-preserved : goal.loop-number-preserved
loop-number-preserved c = record {
  so_far = more_between c.args.stream c.args.above c.loop-number.number c.loop-number.names.items c.unwrap-name.result _ c.loop-number.invariant.so_far (rw c.unwrap-name.ensures at c.at.ensures.value) c.in_ok-push.ensures.items (omega arith);
  low = omega arith;
  high = omega arith;
}

pub returns : goal.returns
returns c = all_between c.args.stream c.args.above c.loop-number.number c.args.below c.loop-number.names.items c.loop-number.invariant.so_far c.loop-number.invariant.low c.loop-number-test.false c.loop-number.invariant.high
