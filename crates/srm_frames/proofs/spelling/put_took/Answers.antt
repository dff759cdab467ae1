use Rattle.std.proofs.Common.{◌≡◌, ◌∙◌, ap, List, ℕ, [], ◌∷◌, ◌++◌, append_assoc, arith}
use Rattle.srm_frames.specs.Lines.{line_text}
use Rattle.srm_frames.specs.Messages.{message_text}
use Rattle.srm_frames.specs.declared.format.TheConstants.{TOOK}
use Rattle.srm_frames.proofs.Framing.{framed}
use Rattle.srm_frames.proofs.spelling.put_took.Goals as goal

pub returns : goal.returns
unfolding line_text
returns c =
    let head = c.put_head.new.out.items in
    let text = message_text c.args.message.now in
    let payload : c.put_message.new.out.items ≡ head ++ (c.args.slot ∷ text) =
    c.in_ok-put_message.ensures ∙ ap (λ (bytes : List ℕ). bytes ++ text) c.in_ok-push.ensures.items ∙ append_assoc head (c.args.slot ∷ []) text in
    c.in_ok-seal.ensures
    ∙ framed TOOK c.args.moment c.len-start.result c.saturating_add.result c.args.out.now.items (c.args.slot ∷ text) c.put_message.new.out.items (omega arith) (omega (arith, c.message_bytes.ensures, c.in_ok-put_head.ensures.fits))
    (payload ∙ ap (λ (bytes : List ℕ). bytes ++ (c.args.slot ∷ text)) c.in_ok-put_head.ensures.head)
