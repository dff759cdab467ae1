use Rattle.std.proofs.Common.{ℕ, List, [], Option, None}
use Rattle.std.specs.Prelude.{string_bytes, Vec}
use Rattle.std.specs.Global.{Global}
use Rattle.std.specs.List.{enumerate_from}
use Rattle.srm_names.proofs.Results.{at_err}
use Rattle.srm_names.specs.declared.page_msg.PageMsg.{PageMsg}
use Rattle.srm_node.specs.declared.working.Worked.{Worked}
use Rattle.srm_member.specs.TakenText.{slot_lines, gone_line, lists_of}
use Rattle.srm_member.proofs.Elements.{element_on, element_front, elements_all, length-numbered, numbered}
use Rattle.srm_output.proofs.Gathered.{ends, ends_front, ends_of_front, ok_then, err_then}
use Rattle.srm_member.proofs.printing.print_all.Goals as goal

abbrev list_of : Worked (Vec PageMsg Global) → List PageMsg
list_of worker = worker.list.items

abbrev lines_of : ℕ → ℕ × List PageMsg → List ℕ
lines_of me worker = slot_lines me worker.0 worker.1

pub returns-in_err-print_slot-clause-cut : goal.returns-in_err-print_slot-clause-cut
returns-in_err-print_slot-clause-cut g c =
    let workers = c.args.worked.now in
    at_err c.from_residual.result (ends_of_front _ _ (string_bytes c.args.lines.now) _ (gone_line c.args.me) (element_front (lines_of c.args.me) _ _ _ _ _ (enumerate_from 0 (lists_of workers)) c.loop-slot.slot (c.loop-slot.slot, list_of c.index-worked-slot.result)
    (rw (length-numbered list_of workers) c.loop-slot-test.true)
    (numbered list_of workers c.loop-slot.slot c.index-worked-slot.result c.loop-slot-test.true c.index-worked-slot.is)
    c.loop-slot.invariant
    (rw (← c.as_slice.ensures.value) c.in_err-print_slot.ensures.cut)))

pub loop-slot-preserved : goal.loop-slot-preserved
loop-slot-preserved g c =
    let workers = c.args.worked.now in
    element_on (lines_of c.args.me) _ _ _ _ _ (enumerate_from 0 (lists_of workers)) c.loop-slot.slot (c.loop-slot.slot, list_of c.index-worked-slot.result) _
    (rw (length-numbered list_of workers) c.loop-slot-test.true)
    (numbered list_of workers c.loop-slot.slot c.index-worked-slot.result c.loop-slot-test.true c.index-worked-slot.is)
    c.loop-slot.invariant
    (rw (← c.as_slice.ensures.value) c.in_ok-print_slot.ensures.printed)

pub returns-clause-printed : goal.returns-clause-printed
returns-clause-printed g c =
    let workers = c.args.worked.now in
    let none : Option (List ℕ) = None in
    let all = elements_all (lines_of c.args.me) _ _ none _ _ (enumerate_from 0 (lists_of workers)) c.loop-slot.slot (0, []) (rw (length-numbered list_of workers) c.loop-slot-test.false) c.loop-slot.invariant in
    ok_then c.print_gone.result c.print_gone.ensures.printed (λ last. ends _ _ _ _ _ _ _ all last)

pub returns-clause-cut : goal.returns-clause-cut
returns-clause-cut g c =
    let workers = c.args.worked.now in
    let none : Option (List ℕ) = None in
    let all = elements_all (lines_of c.args.me) _ _ none _ _ (enumerate_from 0 (lists_of workers)) c.loop-slot.slot (0, []) (rw (length-numbered list_of workers) c.loop-slot-test.false) c.loop-slot.invariant in
    err_then c.print_gone.result c.print_gone.ensures.cut (λ last. ends_front _ _ _ _ _ _ _ all last)
