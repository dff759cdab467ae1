use Rattle.std.proofs.Common.{rules, sym, ◌∙◌}
use Rattle.srm_frames.proofs.RecordLaws.{read_ended, read_open}
use Rattle.srm_frames.proofs.reading.read_lines.Goals as goal

pub returns-then-is_end : goal.returns-then-is_end
returns-then-is_end c =
    read_ended c.args.reader.now c.lines.reader c.next_line.new.reader c.lines.lines.items c.push.new.self.items c.in-Some.line (search rules) c.lines.invariant
    (rw c.in-Some.is at c.in_ok-line.ensures) (sym c.is_end-is_end.ensures ∙ c.if-is_end.true)

pub returns : goal.returns
returns c = read_open c.args.reader.now c.lines.reader c.next_line.new.reader c.lines.lines.items c.lines.invariant (rw c.in_default.is at c.in_ok-line.ensures)
