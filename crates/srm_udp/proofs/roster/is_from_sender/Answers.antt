use Rattle.std.proofs.Common.{rules}
use Rattle.srm_udp.proofs.Naming.{sender_is_at, sender_has_none}
use Rattle.srm_udp.proofs.roster.is_from_sender.Goals as goal

pub returns-in-Some-get : goal.returns-in-Some-get
returns-in-Some-get c = sender_is_at c.args.roster.now c.args.bytes.now c.in-Some.sender c.from.result c.in-Some-get.address.now c.args.origin c.is_same_place.result (search rules) (search rules) c.in-Some-get.ensures.lookup.3.0 c.in-Some-get.ensures.lookup.1 c.is_same_place.ensures

pub returns-in-None : goal.returns-in-None
returns-in-None c = sender_has_none c.args.roster.now c.args.bytes.now c.in-Some.sender c.from.result c.args.origin (search rules) (search rules) c.in-None.ensures.lookup.3
