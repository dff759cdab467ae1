use Rattle.std.proofs.Common.{refl, ◌∙◌}
use Rattle.srm_codec.specs.Spelling.{IsSpellable}
use Rattle.srm_audit.proofs.Texting.{learns_nothing, learns_more, learns_all, at_index}
use Rattle.srm_gaps.proofs.order.Order.learn_all.Goals as goal

pub learn-requires : goal.learn-requires
learn-requires c = at_index IsSpellable c.args.datagrams.now c.loop-datagram.datagram-index c.datagram-item.result c.loop-datagram-test.true c.datagram-item.is c.requires

pub loop-datagram-init : goal.loop-datagram-init
loop-datagram-init c = record { learns = learns_nothing c.args.self.now.spellings; counts = refl }

pub loop-datagram-preserved : goal.loop-datagram-preserved
loop-datagram-preserved c = record {
  learns = learns_more c.args.datagrams.now c.loop-datagram.datagram-index c.datagram-item.result c.args.self.now.spellings c.loop-datagram.self.spellings c.learn.new.self.spellings c.loop-datagram-test.true c.datagram-item.is c.loop-datagram.invariant.learns c.in_ok-learn.ensures.learns;
  counts = c.in_ok-learn.ensures.counts ∙ c.loop-datagram.invariant.counts;
}

pub returns-clause-learns : goal.returns-clause-learns
returns-clause-learns c = learns_all c.args.datagrams.now c.loop-datagram.datagram-index c.args.self.now.spellings c.loop-datagram.self.spellings c.loop-datagram-test.false c.loop-datagram.invariant.learns
