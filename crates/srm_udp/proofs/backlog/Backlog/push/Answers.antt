use Rattle.std.proofs.Common.{rules, vec_capacity, deque_capacity, arith}
use Rattle.srm_udp.proofs.Cutting.{keeps_pushed}
use Rattle.srm_udp.proofs.backlog.Backlog.push.Goals as goal

pub invariant_of-self-2 : goal.invariant_of-self-2
invariant_of-self-2 c = keeps_pushed c.self.inside.lengths.items c.push_back_reserved.new.self.items c.self.inside.bytes.items c.make_room.new.bytes.items c.extend_from_slice.new.self.items c.args.datagram.now c.self.inside.taken c.make_room.new.taken (vec_capacity c.self.inside.bytes) (vec_capacity c.extend_from_slice.new.self) (deque_capacity c.self.inside.lengths) (deque_capacity c.push_back_reserved.new.self) (search rules) c.push_back_reserved.ensures.items c.make_room.ensures.same (search rules) c.self.invariant (omega arith) (omega arith)
