use Rattle.std.proofs.Common.{take}
use Rattle.srm_audit.specs.Spellings.{Learns}
use Rattle.srm_audit.proofs.spellings.Spellings.add_all.Given as goal

abbrev pub invariant-loop-datagram : goal.invariant-loop-datagram
invariant-loop-datagram l = Learns (take l.datagram-index l.datagrams) l.fn.self l.self
