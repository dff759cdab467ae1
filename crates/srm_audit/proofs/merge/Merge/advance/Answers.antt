use Rattle.std.proofs.Common.{◌<◌, length, refl}
use Rattle.srm_audit.proofs.Merging.{waits_after, goes_after}
use Rattle.srm_audit.proofs.merge.Merge.advance.Goals as goal

pub returns-in_default : goal.returns-in_default
returns-in_default c =
    let l : c.args.member < length c.self.inside.queues.items = rw (← c.self.view_is) at c.requires in
    rw (← c.self.view_is) (waits_after _ _ c.args.member c.index_mut.result.now c.pop_ready.new.self _ l c.index_mut.ensures.value c.in_ok-entry.ensures c.in_default.is refl refl refl)

pub returns : goal.returns
returns c =
    let l : c.args.member < length c.self.inside.queues.items = rw (← c.self.view_is) at c.requires in
    rw (← c.self.view_is) (goes_after _ _ c.args.member c.index_mut.result.now c.pop_ready.new.self _ c.in-Some.entry l c.index_mut.ensures.value c.in_ok-entry.ensures c.in-Some.is refl c.in_ok-push.ensures.items c.as_slice.result.now c.as_slice.ensures c.in_ok-add_all.ensures)
