use Rattle.std.proofs.Common.{refl, ◌∙◌, ap, length, List, ℕ, ◌++◌, arith}
use Rattle.srm_frames.proofs.Framing.{framed}
use Rattle.srm_frames.proofs.frame.put_frame.Goals as goal

pub returns-clause-frame : goal.returns-clause-frame
returns-clause-frame c =
    c.in_ok-seal.ensures
    ∙ framed c.args.kind c.args.moment c.len-start.result (length c.args.payload.now) c.args.out.now.items c.args.payload.now c.extend_from_slice.new.self.items (omega arith) refl
    (c.in_ok-extend_from_slice.ensures.items ∙ ap (λ (bytes : List ℕ). bytes ++ c.args.payload.now) c.in_ok-put_head.ensures.head)
