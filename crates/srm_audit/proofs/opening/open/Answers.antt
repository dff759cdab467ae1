use Rattle.srm_audit.proofs.Openings.{opened_more, opened_readable}
use Rattle.srm_audit.proofs.opening.open.Goals as goal

pub loop-journal-preserved : goal.loop-journal-preserved
loop-journal-preserved c = opened_more c.args.journals.items _ _ c.in-Some.journal c.into_parts-start.result.0 c.into_parts-start.result.1.items c.new.result c.loop-journal.starts.items c.push.new.self.items c.loop-journal.queues.items c.push-in-Some.new.self.items
    c.loop-journal.invariant c.in-Some.ensures.items c.into_parts-start.ensures.start c.into_parts-start.ensures.entries c.new.ensures c.in_ok-push.ensures.items c.in_ok-push-2.ensures.items

pub new-requires : goal.new-requires
new-requires c = opened_readable c.args.journals.items _ _ c.in-Some.journal c.into_parts-start.result.1.items c.loop-journal.starts.items c.loop-journal.queues.items c.loop-journal.invariant c.in-Some.ensures.items c.into_parts-start.ensures.entries
