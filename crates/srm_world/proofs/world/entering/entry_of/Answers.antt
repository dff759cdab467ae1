use Rattle.std.proofs.Common.{refl, ap, ◌∙◌, Some, None, sym, subst, get_or}
use Rattle.srm_entries.specs.declared.entry.Input.TheVariants.{Drew, Showed, AskedLeave, Gave, Took}
use Rattle.srm_names.proofs.Results.{at_err}
use Rattle.srm_world.specs.Events.{moment_in, input_of}
use Rattle.srm_world.specs.Sent.{all_of}
use Rattle.srm_world.specs.Participants.{HearsBytes}
use Rattle.srm_world.proofs.Stepping.{keeps_at, keeps_all, enters_at, ticks_at, delivers_at, skips_unsent, skips_slot, skips_member, in_slot_is, in_slot_none}
use Rattle.srm_world.proofs.world.entering.entry_of.Goals as goal

pub returns-then-place-participants-clause-skipped : goal.returns-then-place-participants-clause-skipped
returns-then-place-participants-clause-skipped g c = skips_member c.args.participants.now (all_of c.args.sent.now) c.args.event.now c.from-place.result (c.from-place.ensures ∙ c.member.ensures) c.if-place-participants.true

pub returns-in_err-body-in-Draw-clause-err : goal.returns-in_err-body-in-Draw-clause-err
returns-in_err-body-in-Draw-clause-err g c = at_err _ (keeps_all c.args.participants.now (all_of c.args.sent.now))

pub returns-in_err-draw-in-Draw-clause-err : goal.returns-in_err-draw-in-Draw-clause-err
returns-in_err-draw-in-Draw-clause-err g c = at_err _ (keeps_at c.args.participants.now (all_of c.args.sent.now) c.from-place.result c.index-participants-place.result c.draw.new.self c.if-place-participants.false c.in_err-draw-in-Draw.ensures.err)

pub returns-in_ok-draw-in-Draw-clause-entry : goal.returns-in_ok-draw-in-Draw-clause-entry
returns-in_ok-draw-in-Draw-clause-entry g c = enters_at g.W.Words.next_word c.args.participants.now (all_of c.args.sent.now) c.args.event.now c.from-place.result c.index-participants-place.result c.draw.new.self (Some c.in-Draw.now) (Drew c.in-Draw.page c.in_ok-body-in-Draw.body) c.in_ok-draw-in-Draw.field-0
    c.if-place-participants.false (c.from-place.ensures ∙ c.member.ensures) (ap moment_in (sym c.in-Draw.is)) c.in_ok-draw-in-Draw.ensures.ok (λ es. ap (input_of es) c.in-Draw.is ∙ ap (λ b. Some (Drew c.in-Draw.page b)) (sym c.in_ok-body-in-Draw.ensures.cases)) refl refl

pub returns-in_err-show-in-Show-clause-err : goal.returns-in_err-show-in-Show-clause-err
returns-in_err-show-in-Show-clause-err g c = at_err _ (keeps_at c.args.participants.now (all_of c.args.sent.now) c.from-place.result c.index-participants-place-in-Show.result c.show.new.self c.if-place-participants.false c.in_err-show-in-Show.ensures.err)

pub returns-in_ok-show-in-Show-clause-entry : goal.returns-in_ok-show-in-Show-clause-entry
returns-in_ok-show-in-Show-clause-entry g c = enters_at g.W.Words.next_word c.args.participants.now (all_of c.args.sent.now) c.args.event.now c.from-place.result c.index-participants-place-in-Show.result c.show.new.self (Some c.in-Show.now) (Showed c.in-Show.page) c.in_ok-show-in-Show.field-0
    c.if-place-participants.false (c.from-place.ensures ∙ c.member.ensures) (ap moment_in (sym c.in-Show.is)) c.in_ok-show-in-Show.ensures.ok (λ es. ap (input_of es) c.in-Show.is) refl refl

pub returns-in_err-leave-in-Leave-clause-err : goal.returns-in_err-leave-in-Leave-clause-err
returns-in_err-leave-in-Leave-clause-err g c = at_err _ (keeps_at c.args.participants.now (all_of c.args.sent.now) c.from-place.result c.index-participants-place-in-Leave.result c.leave.new.self c.if-place-participants.false c.in_err-leave-in-Leave.ensures.err)

pub returns-in_ok-leave-in-Leave-clause-entry : goal.returns-in_ok-leave-in-Leave-clause-entry
returns-in_ok-leave-in-Leave-clause-entry g c = enters_at g.W.Words.next_word c.args.participants.now (all_of c.args.sent.now) c.args.event.now c.from-place.result c.index-participants-place-in-Leave.result c.leave.new.self (Some c.in-Leave.now) AskedLeave c.in_ok-leave-in-Leave.field-0
    c.if-place-participants.false (c.from-place.ensures ∙ c.member.ensures) (ap moment_in (sym c.in-Leave.is)) c.in_ok-leave-in-Leave.ensures.ok (λ es. ap (input_of es) c.in-Leave.is) refl refl

pub returns-in_default-clause-skipped : goal.returns-in_default-clause-skipped
returns-in_default-clause-skipped g c = skips_unsent c.args.participants.now (all_of c.args.sent.now) c.args.event.now c.in-Deliver.member c.in-Deliver.now c.in-Deliver.index c.in-Deliver.is (sym c.in_default.ensures)

pub returns-in_err-entry-in-Deliver-clause-err : goal.returns-in_err-entry-in-Deliver-clause-err
returns-in_err-entry-in-Deliver-clause-err g c = at_err _ (keeps_at c.args.participants.now (all_of c.args.sent.now) c.from-place.result c.index-participants-place-in-Deliver.result c.hear.new.self c.if-place-participants.false c.in_err-entry-in-Deliver.ensures.err)

pub returns-in_ok-entry-in-Deliver-clause-entry : goal.returns-in_ok-entry-in-Deliver-clause-entry
returns-in_ok-entry-in-Deliver-clause-entry g c = delivers_at g.W.Words.next_word c.args.participants.now (all_of c.args.sent.now) c.args.event.now c.from-place.result c.in-Deliver.member c.in-Deliver.now c.in-Deliver.index c.in-Some.out.now
    c.index-participants-place-in-Deliver.result c.hear.new.self c.in_ok-entry-in-Deliver.entry c.in-Deliver.is c.if-place-participants.false (c.from-place.ensures ∙ c.member.ensures) (sym c.in-Some.ensures) c.in_ok-entry-in-Deliver.ensures.ok
    (subst (λ bytes. HearsBytes bytes (get_or c.args.participants.now c.from-place.result c.index-participants-place-in-Deliver.result) c.in_ok-entry-in-Deliver.entry) c.as_slice.ensures c.in_ok-entry-in-Deliver.ensures.reading)

pub returns-in_err-entry-in-Tick-clause-err : goal.returns-in_err-entry-in-Tick-clause-err
returns-in_err-entry-in-Tick-clause-err g c = at_err _ (keeps_at c.args.participants.now (all_of c.args.sent.now) c.from-place.result c.index-participants-place-in-Tick.result c.tick.new.self c.if-place-participants.false c.in_err-entry-in-Tick.ensures.err)

pub returns-in_ok-entry-in-Tick-clause-entry : goal.returns-in_ok-entry-in-Tick-clause-entry
returns-in_ok-entry-in-Tick-clause-entry g c = ticks_at g.W.Words.next_word c.args.participants.now (all_of c.args.sent.now) (all_of c.add.new.self) c.in_ok-entry-in-Tick.outs c.args.event.now c.from-place.result c.index-participants-place-in-Tick.result c.tick.new.self (Some c.in-Tick.now) c.in_ok-entry-in-Tick.entry
    c.if-place-participants.false (c.from-place.ensures ∙ c.member.ensures) (ap moment_in (sym c.in-Tick.is)) c.in_ok-entry-in-Tick.ensures.ok c.in_ok-entry-in-Tick.ensures.outs (λ es. ap (input_of es) c.in-Tick.is) c.add.ensures

pub returns-then-slot-ge-PAGES-clause-skipped : goal.returns-then-slot-ge-PAGES-clause-skipped
returns-then-slot-ge-PAGES-clause-skipped g c = skips_slot c.args.participants.now (all_of c.args.sent.now) c.args.event.now (λ es. ap (input_of es) c.in-Give.is ∙ in_slot_none c.in-Give.slot (Gave c.in-Give.slot) c.if-slot-ge-PAGES.true)

pub returns-then-slot-ge-PAGES-2-clause-skipped : goal.returns-then-slot-ge-PAGES-2-clause-skipped
returns-then-slot-ge-PAGES-2-clause-skipped g c = skips_slot c.args.participants.now (all_of c.args.sent.now) c.args.event.now (λ es. ap (input_of es) c.in-Take.is ∙ in_slot_none c.in-Take.slot (Took c.in-Take.slot) c.if-slot-ge-PAGES-2.true)

pub returns-in_err-give-in-Give-clause-err : goal.returns-in_err-give-in-Give-clause-err
returns-in_err-give-in-Give-clause-err g c = at_err _ (keeps_at c.args.participants.now (all_of c.args.sent.now) c.from-place.result c.index-participants-place-in-Give.result c.give.new.self c.if-place-participants.false c.in_err-give-in-Give.ensures.err)

pub returns-in_ok-give-in-Give-clause-entry : goal.returns-in_ok-give-in-Give-clause-entry
returns-in_ok-give-in-Give-clause-entry g c = enters_at g.W.Words.next_word c.args.participants.now (all_of c.args.sent.now) c.args.event.now c.from-place.result c.index-participants-place-in-Give.result c.give.new.self None (Gave c.in-Give.slot) c.in_ok-give-in-Give.field-0
    c.if-place-participants.false (c.from-place.ensures ∙ c.member.ensures) (ap moment_in (sym c.in-Give.is)) c.in_ok-give-in-Give.ensures.ok (λ es. ap (input_of es) c.in-Give.is ∙ in_slot_is c.in-Give.slot (Gave c.in-Give.slot) c.if-slot-ge-PAGES.false) refl refl

pub returns-else-slot-ge-PAGES-2-clause-entry : goal.returns-else-slot-ge-PAGES-2-clause-entry
returns-else-slot-ge-PAGES-2-clause-entry g c = enters_at g.W.Words.next_word c.args.participants.now (all_of c.args.sent.now) c.args.event.now c.from-place.result c.index-participants-place-in-Take.result c.take.new.self None (Took c.in-Take.slot) c.take.result
    c.if-place-participants.false (c.from-place.ensures ∙ c.member.ensures) (ap moment_in (sym c.in-Take.is)) c.take.ensures (λ es. ap (input_of es) c.in-Take.is ∙ in_slot_is c.in-Take.slot (Took c.in-Take.slot) c.if-slot-ge-PAGES-2.false) refl refl
