use Rattle.std.proofs.Common.{◌≤◌, length, ap, refl, arith}
use Rattle.srm_guard.proofs.Reading.{read_whole}
use Rattle.srm_guard.proofs.key.Key.read.Goals as goal

pub returns-in-Some-clause-whole : goal.returns-in-Some-clause-whole
returns-in-Some-clause-whole g c =
    let few : length c.read_to_end.new.buf.items ≤ 1024 = omega (arith, c.read_to_end.new.buf.ok.0, (c.in-Some.ensures.fits.0 refl).1) in
    read_whole _ _ _ _ _ _ c.take.ensures.limit (ap (λ r. g.I.Read.remaining r.now) c.take.ensures.inner) c.new-bytes.ensures.items c.in-Ok.ensures.bytes c.in-Some.ensures.value few
