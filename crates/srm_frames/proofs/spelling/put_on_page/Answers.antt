use Rattle.std.proofs.Common.{◌≡◌, ◌∙◌, ap, List, ℕ, ◌++◌, append_assoc, arith}
use Rattle.srm_codec.specs.Spelling.{page_bytes}
use Rattle.srm_frames.proofs.Framing.{framed}
use Rattle.srm_frames.proofs.spelling.put_on_page.Goals as goal

pub returns : goal.returns
unfolding page_bytes
returns c =
    let behind = c.args.behind.now in
    let page = page_bytes c.args.page in
    let head = c.put_head.new.out.items in
    let payload : c.extend_from_slice.new.self.items ≡ head ++ (page ++ behind) =
    c.in_ok-extend_from_slice.ensures.items ∙ ap (λ (bytes : List ℕ). bytes ++ behind) c.in_ok-put_page.ensures ∙ append_assoc head page behind in
    c.in_ok-seal.ensures
    ∙ framed c.args.kind c.args.moment c.len-start.result (c.saturating_add.result) c.args.out.now.items (page ++ behind) c.extend_from_slice.new.self.items (omega arith) (omega arith)
    (payload ∙ ap (λ (bytes : List ℕ). bytes ++ (page ++ behind)) c.in_ok-put_head.ensures.head)
