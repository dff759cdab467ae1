use Rattle.std.proofs.Common.{refl, ◌≡◌, ap, ◌∙◌, ◌∷◌, ◌++◌, [], None}
use Rattle.srm_entries.specs.declared.entry.Input.TheVariants.{Gave}
use Rattle.srm_world.specs.Recorders.{journal_of}
use Rattle.srm_world.proofs.Journaling.{records, still_kept, kept_same, entries_same, lawful, lawful_after}
use Rattle.srm_world.proofs.Wording.{recorded_by, unrecorded}
use Rattle.srm_world.proofs.recorder.Recorder.give.Goals as goal

pub returns-clause-records : goal.returns-clause-records
returns-clause-records g c = rw (← c.self.view_is) (records g.W.Words.next_word None (Gave c.args.slot) (λ e message. message ≡ e.effects.message) _ _ c.self.inside.agent c.give_noted.new.self c.in_ok-answer.field-0.entry c.in_ok-answer.field-0.answer c.self.invariant c.in_ok-answer.ensures.ok c.in_ok-answer.ensures.answer
    (ap (λ es. record { start = c.self.inside.start; entries = es }) (c.append.ensures.grown ∙ ap (λ es. es ++ c.in_ok-answer.field-0.entry ∷ []) c.in_ok-make_room.ensures.same)))

pub returns-clause-lawful : goal.returns-clause-lawful
returns-clause-lawful g c = lawful_after g.W.Words.next_word None (Gave c.args.slot) _ c.self.inside.agent c.give_noted.new.self c.in_ok-answer.field-0.entry _ c.self.invariant c.in_ok-answer.ensures.ok tt c.requires
    (ap (λ es. record { start = c.self.inside.start; entries = es }) (c.append.ensures.grown ∙ ap (λ es. es ++ c.in_ok-answer.field-0.entry ∷ []) c.in_ok-make_room.ensures.same))

pub invariant_of-self : goal.invariant_of-self
invariant_of-self g c = entries_same (journal_of c.self.inside.start (g.P.Past.appended c.self.inside.past)) c.self.inside.agent (g.P.Past.appended c.make_room.new.self) c.self.invariant c.make_room.ensures.same

pub invariant_of-self-in_err-answer : goal.invariant_of-self-in_err-answer
invariant_of-self-in_err-answer g c = kept_same (journal_of c.self.inside.start (g.P.Past.appended c.self.inside.past)) c.self.inside.agent c.give_noted.new.self (g.P.Past.appended c.make_room.new.self) c.self.invariant c.in_err-answer.ensures.err c.in_ok-make_room.ensures.same

pub invariant_of-self-2 : goal.invariant_of-self-2
invariant_of-self-2 g c = still_kept g.W.Words.next_word None (Gave c.args.slot) (journal_of c.self.inside.start (g.P.Past.appended c.self.inside.past)) c.self.inside.agent c.give_noted.new.self c.in_ok-answer.field-0.entry (g.P.Past.appended c.append.new.self) c.self.invariant c.in_ok-answer.ensures.ok tt c.requires
    (c.append.ensures.grown ∙ ap (λ es. es ++ c.in_ok-answer.field-0.entry ∷ []) c.in_ok-make_room.ensures.same)

pub returns-in_err-make_room-clause-lawful : goal.returns-in_err-make_room-clause-lawful
returns-in_err-make_room-clause-lawful g c = lawful _ c.self.inside.agent (entries_same (journal_of c.self.inside.start (g.P.Past.appended c.self.inside.past)) c.self.inside.agent (g.P.Past.appended c.make_room.new.self) c.self.invariant c.in_err-make_room.ensures.same)

pub returns-in_err-answer-clause-lawful : goal.returns-in_err-answer-clause-lawful
returns-in_err-answer-clause-lawful g c = lawful _ c.give_noted.new.self (kept_same (journal_of c.self.inside.start (g.P.Past.appended c.self.inside.past)) c.self.inside.agent c.give_noted.new.self (g.P.Past.appended c.make_room.new.self) c.self.invariant c.in_err-answer.ensures.err c.in_ok-make_room.ensures.same)

pub returns-clause-words : goal.returns-clause-words
returns-clause-words g c = rw (← c.self.view_is) (recorded_by g.W.Words.next_word None (Gave c.args.slot) (journal_of c.self.inside.start (g.P.Past.appended c.self.inside.past)) c.self.inside.agent c.give_noted.new.self c.in_ok-answer.field-0.entry _ c.self.invariant.fits c.in_ok-answer.ensures.ok
    (c.append.ensures.grown ∙ ap (λ es. es ++ c.in_ok-answer.field-0.entry ∷ []) c.in_ok-make_room.ensures.same) (c.append.ensures.begins ∙ c.in_ok-make_room.ensures.begins))

pub returns-in_err-make_room-clause-words : goal.returns-in_err-make_room-clause-words
returns-in_err-make_room-clause-words g c = rw (← c.self.view_is) (unrecorded g.W.Words.next_word (journal_of c.self.inside.start (g.P.Past.appended c.self.inside.past)) c.self.inside.agent.words _ _ c.in_err-make_room.ensures.same refl c.in_err-make_room.ensures.begins)

pub returns-in_err-answer-clause-words : goal.returns-in_err-answer-clause-words
returns-in_err-answer-clause-words g c = rw (← c.self.view_is) (unrecorded g.W.Words.next_word (journal_of c.self.inside.start (g.P.Past.appended c.self.inside.past)) c.self.inside.agent.words _ _ c.in_ok-make_room.ensures.same c.in_err-answer.ensures.err.words c.in_ok-make_room.ensures.begins)
