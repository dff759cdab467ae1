use Rattle.std.proofs.Common.{◌≡◌, ◌<◌, length, arith, subst}
use Rattle.std.specs.Prelude.{IfSome}
use Rattle.srm_script.proofs.Inputs.{read_whole}
use Rattle.srm_rooms.proofs.room_file.bytes_from.Goals as goal

pub returns-in-Ok-2 : goal.returns-in-Ok-2
returns-in-Ok-2 g c =
    let less : length c.read_to_end.new.buf.items < c.take.result.limit = omega (arith, c.if-len-gt-LONGEST.false, c.len.ensures, c.read_to_end.new.buf.ok, c.take.ensures.limit) in
    subst (λ r. IfSome (g.I.Read.remaining r.now) (λ text. c.read_to_end.new.buf.items ≡ text)) c.take.ensures.inner
    (read_whole _ c.take.result.limit c.new-bytes.result.items c.read_to_end.new.buf.items c.new-bytes.ensures.items c.in-Ok-2.ensures.bytes less)
