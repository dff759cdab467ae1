use Rattle.srm_codec.specs.Spelling.{IsSpellable}
use Rattle.srm_audit.proofs.Texting.{learns_nothing, learns_more, learns_all, at_index}
use Rattle.srm_audit.proofs.spellings.Spellings.add_all.Goals as goal

pub add-requires : goal.add-requires
add-requires c = at_index IsSpellable c.args.datagrams.now c.loop-datagram.datagram-index c.datagram-item.result c.loop-datagram-test.true c.datagram-item.is c.requires

pub loop-datagram-init : goal.loop-datagram-init
loop-datagram-init c = learns_nothing c.args.self.now

pub loop-datagram-preserved : goal.loop-datagram-preserved
loop-datagram-preserved c = learns_more c.args.datagrams.now c.loop-datagram.datagram-index c.datagram-item.result c.args.self.now c.loop-datagram.self c.add.new.self c.loop-datagram-test.true c.datagram-item.is c.loop-datagram.invariant c.in_ok-add.ensures

pub returns : goal.returns
returns c = learns_all c.args.datagrams.now c.loop-datagram.datagram-index c.args.self.now c.loop-datagram.self c.loop-datagram-test.false c.loop-datagram.invariant
