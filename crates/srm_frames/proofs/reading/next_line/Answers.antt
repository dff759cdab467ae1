use Rattle.srm_frames.proofs.RecordLaws.{next_found, next_bad, next_none}
use Rattle.srm_frames.proofs.reading.next_line.Goals as goal

pub returns-in_default : goal.returns-in_default
returns-in_default c =
    let h = c.next_frame.ensures.none c.in_default.is in
    next_none c.args.reader.now c.next_frame.new.self h.0 h.1

pub returns-in-Some-2 : goal.returns-in-Some-2
returns-in-Some-2 c = next_found c.args.reader.now _ c.in-Some-2.line c.next_frame.new.self c.requires c.in-Some.ensures.found (rw c.in-Some-2.is at c.in_ok-line.ensures)

pub returns-in-None : goal.returns-in-None
returns-in-None c = next_bad c.args.place c.args.reader.now _ c.next_frame.new.self c.requires c.in-Some.ensures.found (rw c.in-None.is at c.in_ok-line.ensures)
