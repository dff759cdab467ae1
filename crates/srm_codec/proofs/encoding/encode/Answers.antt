use Rattle.std.proofs.Common.{◌≡◌, refl, ap, ◌∙◌, arith}
use Rattle.srm_codec.specs.Spelling.{spelling}
use Rattle.srm_codec.specs.Judging.{judge}
use Rattle.srm_codec.proofs.JudgingLaws.{spelling_judged}
use Rattle.srm_codec.proofs.encoding.encode.Goals as goal

pub returns-clause-read : goal.returns-clause-read
returns-clause-read c =
    let spelled : c.encode_into.new.out.items ≡ spelling c.args.session c.args.datagram.now = rw (c.in_ok-encode_into.ensures, c.in_ok-out.ensures.items) refl in
    ap (judge c.args.session) spelled ∙ spelling_judged c.args.session c.args.datagram.now (omega arith) c.requires
