use Rattle.std.proofs.Common.{ℕ, List, map, subst}
use denote.Ref.{Bor}
use Rattle.std.specs.List.{enumerate_from, flat_map}
use Rattle.std.proofs.lemmas.List.{take_all}
use Rattle.srm_names.specs.declared.page_msg.PageMsg.{PageMsg}
use Rattle.srm_frames.specs.Lines.{lines_text}
use Rattle.srm_record.specs.Takes.{listed_lines}
use Rattle.srm_record.specs.Writing.{GoesOn}
use Rattle.srm_record.proofs.Elements.{length-numbered, numbered}
use Rattle.srm_record.proofs.Ending.{one_slot_more}
use Rattle.srm_record.proofs.record_file.RecordFile.put_takes.Goals as goal

abbrev list_of : Bor (List PageMsg) → List PageMsg
list_of list = list.now

pub loop-slot-preserved : goal.loop-slot-preserved
loop-slot-preserved g c =
    let lists = c.args.taken.now in
    let slot = c.loop-slot.slot in
    one_slot_more c.args.self.now c.loop-slot.self c.put_slot.new.self listed_lines (enumerate_from 0 (map list_of lists)) slot (slot, list_of c.index-taken-slot.result)
    (rw (length-numbered list_of lists) c.loop-slot-test.true)
    (numbered list_of lists slot c.index-taken-slot.result c.loop-slot-test.true c.index-taken-slot.is)
    c.loop-slot.invariant
    c.put_slot.ensures

pub returns : goal.returns
returns g c =
    let numbers = enumerate_from 0 (map list_of c.args.taken.now) in
    subst (λ (xs : List (ℕ × List PageMsg)). GoesOn c.args.self.now c.loop-slot.self (lines_text (flat_map (listed_lines c.args.self.now.last) xs)))
    (take_all c.loop-slot.slot numbers (rw (length-numbered list_of c.args.taken.now) c.loop-slot-test.false)) c.loop-slot.invariant
