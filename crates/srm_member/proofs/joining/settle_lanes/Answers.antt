use Rattle.srm_member.proofs.Together.{first_lane, lanes_left, takes_left}
use Rattle.srm_member.proofs.joining.settle_lanes.Goals as goal

pub settle-requires : goal.settle-requires
settle-requires c = first_lane _ _ c.in-Some-pop_front.feed _ _ c.in-Some.worked c.loop-worked.invariant.ends c.in-Some-pop_front.ensures.items c.in-Some.ensures.items

pub loop-worked-preserved : goal.loop-worked-preserved
loop-worked-preserved c = record {
  ends = lanes_left _ _ c.in-Some-pop_front.feed _ _ c.in-Some.worked c.loop-worked.invariant.ends c.in-Some-pop_front.ensures.items c.in-Some.ensures.items;
  takes = takes_left _ _ c.in-Some-pop_front.feed _ _ c.in-Some.worked _ c.settle.result.put c.settle.result.taken c.loop-worked.invariant.takes c.in-Some-pop_front.ensures.items c.in-Some.ensures.items c.settle.ensures.put c.settle.ensures.taken c.settle.ensures.prefix;
}
