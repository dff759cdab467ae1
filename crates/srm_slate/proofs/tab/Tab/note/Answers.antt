use Rattle.std.proofs.Common.{sym, ◌∙◌}
use Rattle.srm_slate.proofs.Frames.{noted_on}
use Rattle.srm_slate.proofs.tab.Tab.note.Goals as goal

pub invariant_of-self : goal.invariant_of-self
invariant_of-self c =
    noted_on c.self.inside.frames c.note.new.self c.args.sheet.now c.self.inside.first.value c.after-self-inside.result.from c.note.ensures
    (sym (rw (← c.self.view_is) at c.requires) ∙ c.self.invariant.0) c.after-self-inside.ensures.counts c.self.invariant.1
