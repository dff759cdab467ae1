use Rattle.std.proofs.Common.{ap, sym, arith, ◌∙◌, get_or, length, ◌/◌}
use Rattle.srm_store.specs.Places.{place_at}
use Rattle.srm_store.proofs.Placing.{place_past, place_inside_block}
use Rattle.srm_store.proofs.places.Places.get.Goals as goal

pub returns-in_err-block : goal.returns-in_err-block
returns-in_err-block c =
    let found = c.in_err-block.ensures.lookup in
    rw c.from_residual.ensures (sym (ap (λ bs. place_at bs c.args.number) (sym c.self.view_is) ∙ place_past c.self.inside.blocks.items c.args.number (omega (arith, found.3, ap length c.deref.ensures.value))))

pub returns : goal.returns
returns c =
    let found = c.in_ok-block.ensures.lookup in
    c.get-2.ensures ∙ place_inside_block c.self.inside.blocks.items c.args.number c.in_ok-block.block.now (found.1 ∙ ap (λ bs. get_or bs (c.args.number / 256) c.in_ok-block.block.now) c.deref.ensures.value) (omega (arith, found.3.0, ap length c.deref.ensures.value)) ∙ ap (λ bs. place_at bs c.args.number) c.self.view_is
