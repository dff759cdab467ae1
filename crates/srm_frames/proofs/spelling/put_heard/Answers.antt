use Rattle.std.proofs.Common.{◌∙◌, ap, List, ℕ, ◌++◌, arith}
use Rattle.srm_codec.specs.Spelling.{spelling}
use Rattle.srm_frames.specs.Lines.{line_text}
use Rattle.srm_frames.specs.declared.format.TheConstants.{HEARD}
use Rattle.srm_frames.proofs.Framing.{framed}
use Rattle.srm_frames.proofs.spelling.put_heard.Goals as goal

pub returns : goal.returns
unfolding line_text
returns c =
    let bytes = spelling c.args.session c.args.datagram.now in
    c.in_ok-seal.ensures
    ∙ framed HEARD c.args.moment c.len-start.result c.length.result c.args.out.now.items bytes c.encode_into.new.out.items (omega arith) (c.length.ensures.counts c.args.session)
    (c.in_ok-encode_into.ensures ∙ ap (λ (front : List ℕ). front ++ bytes) c.in_ok-put_head.ensures.head)
