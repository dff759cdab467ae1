use Rattle.std.proofs.Common.{refl, ap, ◌∙◌, ◌∷◌, ◌++◌, [], Some}
use Rattle.srm_entries.specs.declared.entry.Input.TheVariants.{Ticked}
use Rattle.srm_world.specs.Recorders.{journal_of}
use Rattle.srm_world.proofs.Journaling.{still_kept, kept_same, entries_same, lawful, lawful_after}
use Rattle.srm_world.proofs.Wording.{recorded_by}
use Rattle.srm_world.proofs.recorder.Recorder.tick.Goals as goal

pub returns-clause-lawful : goal.returns-clause-lawful
returns-clause-lawful g c = lawful_after g.W.Words.next_word (Some c.args.now) Ticked _ c.self.inside.agent c.tick_noted.new.self c.in_ok-answer.field-0.entry _ c.self.invariant c.in_ok-answer.ensures.ok c.requires tt
    (ap (λ es. record { start = c.self.inside.start; entries = es }) (c.append.ensures.grown ∙ ap (λ es. es ++ c.in_ok-answer.field-0.entry ∷ []) c.in_ok-make_room.ensures.same))

pub returns-in_err-make_room-clause-lawful : goal.returns-in_err-make_room-clause-lawful
returns-in_err-make_room-clause-lawful g c = lawful _ c.self.inside.agent (entries_same (journal_of c.self.inside.start (g.P.Past.appended c.self.inside.past)) c.self.inside.agent (g.P.Past.appended c.make_room.new.self) c.self.invariant c.in_err-make_room.ensures.same)

pub returns-in_err-answer-clause-lawful : goal.returns-in_err-answer-clause-lawful
returns-in_err-answer-clause-lawful g c = lawful _ c.tick_noted.new.self (kept_same (journal_of c.self.inside.start (g.P.Past.appended c.self.inside.past)) c.self.inside.agent c.tick_noted.new.self (g.P.Past.appended c.make_room.new.self) c.self.invariant c.in_err-answer.ensures.err c.in_ok-make_room.ensures.same)

pub returns-clause-words : goal.returns-clause-words
returns-clause-words g c = rw (← c.self.view_is) (recorded_by g.W.Words.next_word (Some c.args.now) Ticked (journal_of c.self.inside.start (g.P.Past.appended c.self.inside.past)) c.self.inside.agent c.tick_noted.new.self c.in_ok-answer.field-0.entry _ c.self.invariant.fits c.in_ok-answer.ensures.ok
    (c.append.ensures.grown ∙ ap (λ es. es ++ c.in_ok-answer.field-0.entry ∷ []) c.in_ok-make_room.ensures.same) (c.append.ensures.begins ∙ c.in_ok-make_room.ensures.begins))

pub invariant_of-self-2 : goal.invariant_of-self-2
invariant_of-self-2 g c = still_kept g.W.Words.next_word (Some c.args.now) Ticked (journal_of c.self.inside.start (g.P.Past.appended c.self.inside.past)) c.self.inside.agent c.tick_noted.new.self c.in_ok-answer.field-0.entry (g.P.Past.appended c.append.new.self) c.self.invariant c.in_ok-answer.ensures.ok c.requires tt
    (c.append.ensures.grown ∙ ap (λ es. es ++ c.in_ok-answer.field-0.entry ∷ []) c.in_ok-make_room.ensures.same)
