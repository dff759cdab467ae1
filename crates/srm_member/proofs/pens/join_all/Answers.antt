use Rattle.srm_member.proofs.PensJoined.{joins_more, count_less, room_less}
use Rattle.srm_member.proofs.pens.join_all.Goals as goal

pub loop-preserved : goal.loop-preserved
loop-preserved g c = record {
  joins = joins_more c.loop.all c.join_one-one.result.all c.are_both-all.result _ c.in-Some.thread _ _ _ _ c.join_one-one.result.inked c.loop.invariant.joins c.in-Some.ensures.items c.join_one-one.ensures c.put.ensures.items c.are_both-all.ensures;
  count = count_less _ _ c.in-Some.thread _ _ c.in-Some.ensures.items c.loop.invariant.count;
  room = room_less _ _ c.in-Some.thread _ _ _ _ c.in-Some.ensures.items c.loop.invariant.room c.put.ensures.room;
}
