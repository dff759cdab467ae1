use Rattle.std.proofs.Common.{Some, sym, arith}
use Rattle.std.proofs.lemmas.Str.Pattern.{split_parts}
use Rattle.srm_rooms.proofs.Lines.{cut}
use Rattle.srm_rooms.proofs.room_lines.value_in.Goals as goal

pub returns-then-eq-clause-value : goal.returns-then-eq-clause-value
returns-then-eq-clause-value c =
    let parts = split_parts 61 c.args.word.now (Some (c.in-Some.name, c.in-Some.value)) c.in-Some.ensures.cases (omega arith) in
    cut c.args.option.now c.args.word.now c.in-Some.name.now c.in-Some.value.now (sym c.if-eq.ensures) parts.0
