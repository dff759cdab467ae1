use Rattle.std.proofs.Common.{◌≡◌, sym, ◌∙◌, rules}
use Rattle.std.specs.Prelude.{None}
use Rattle.srm_timers.proofs.Marking.{asked_place, note_first, marks_hold}
use Rattle.srm_timers.proofs.marks.Marks.note.Goals as goal

pub set-requires : goal.set-requires
set-requires c = asked_place c.self.inside.places c.args.name (rw (← c.self.view_is) at c.requires.place)

pub returns-then-is_none-clause-noted : goal.returns-then-is_none-clause-noted
returns-then-is_none-clause-noted c =
    let none : c.mark-mark.result.asker ≡ None = search rules in
    rw (← c.self.view_is) ((note_first c.args.name c.args.from c.mark-mark.result.until c.self.inside.places _ (rw (← c.self.view_is) at (sym c.mark-mark.ensures.asker ∙ none)) (rw (← c.self.view_is) at c.mark-mark.ensures.until) c.set.ensures.sets).0)

pub returns-then-is_none-clause-off : goal.returns-then-is_none-clause-off
returns-then-is_none-clause-off c =
    let none : c.mark-mark.result.asker ≡ None = search rules in
    rw (← c.self.view_is) ((note_first c.args.name c.args.from c.mark-mark.result.until c.self.inside.places _ (rw (← c.self.view_is) at (sym c.mark-mark.ensures.asker ∙ none)) (rw (← c.self.view_is) at c.mark-mark.ensures.until) c.set.ensures.sets).1)

pub returns-then-is_none-clause-keeps_places : goal.returns-then-is_none-clause-keeps_places
returns-then-is_none-clause-keeps_places c = rw (← c.self.view_is) (marks_hold c.self.inside.places _ c.set.ensures.keeps_places)
