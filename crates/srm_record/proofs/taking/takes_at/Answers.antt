use Rattle.std.proofs.Common.{◌++◌, ap, ◌∙◌, List, ℕ, map}
use Rattle.std.specs.Prelude.{Vec}
use Rattle.std.specs.Global.{Global}
use Rattle.std.specs.List.{enumerate_from, flat_map}
use Rattle.std.proofs.lemmas.List.{take_all}
use Rattle.srm_names.specs.declared.page_msg.PageMsg.{PageMsg}
use Rattle.srm_frames.specs.declared.line.Line.{Line}
use Rattle.srm_record.specs.Takes.{slot_lines, listed_lines}
use Rattle.srm_frames.proofs.Elements.{one_more_of}
use Rattle.srm_record.proofs.Elements.{length-numbered, numbered}
use Rattle.srm_record.proofs.taking.takes_at.Goals as goal

abbrev list_of : Vec PageMsg Global → List PageMsg
list_of list = list.items

pub loop-slot-preserved : goal.loop-slot-preserved
loop-slot-preserved c =
    let lists = c.args.taken.now in
    let slot = c.loop-slot.slot in
    let f : ℕ × List PageMsg → List Line = listed_lines c.args.last in
    let x : ℕ × List PageMsg = (slot, list_of c.index-taken-slot.result) in
    c.in_ok-add_slot.ensures
    ∙ ap (λ (taken : List PageMsg). c.loop-slot.lines.items ++ slot_lines c.args.last slot taken) c.as_slice.ensures.value
    ∙ ap (λ (lines : List Line). lines ++ f x) c.loop-slot.invariant
    ∙ one_more_of f (enumerate_from 0 (map list_of lists)) slot x
    (rw (length-numbered list_of lists) c.loop-slot-test.true)
    (numbered list_of lists slot c.index-taken-slot.result c.loop-slot-test.true c.index-taken-slot.is)

pub returns : goal.returns
returns c =
    let numbers = enumerate_from 0 (map list_of c.args.taken.now) in
    c.loop-slot.invariant
    ∙ ap (λ (ys : List (ℕ × List PageMsg)). flat_map (listed_lines c.args.last) ys)
    (take_all c.loop-slot.slot numbers (rw (length-numbered list_of c.args.taken.now) c.loop-slot-test.false))
