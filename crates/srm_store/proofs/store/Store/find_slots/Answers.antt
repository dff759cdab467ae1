use Rattle.std.proofs.Common.{refl, sym, subst, map, ◌∙◌}
use Rattle.std.proofs.lemmas.Bool.{false≢true}
use Rattle.srm_store.specs.Held.{page_of_name}
use Rattle.srm_store.specs.Fits.{StoreFits}
use Rattle.srm_store.proofs.Seating.{outgrows}
use Rattle.srm_store.proofs.store.Store.find_slots.Goals as goal

pub returns-then-lacks_room_for-clause-limit : goal.returns-then-lacks_room_for-clause-limit
returns-then-lacks_room_for-clause-limit c = λ inserted evidence settled h.
    let fits = subst (StoreFits inserted evidence settled) (sym c.self.view_is) h in
    (λ e. outgrows fits (map page_of_name c.args.names.now) ∙ sym c.lacks_room_for.ensures ∙ c.if-lacks_room_for.true, λ over. refl)

pub returns-clause-limit : goal.returns-clause-limit
returns-clause-limit c = λ inserted evidence settled h.
    let fits = subst (StoreFits inserted evidence settled) (sym c.self.view_is) h in
    (λ e. absurd (cc), λ over. absurd (false≢true (sym c.if-lacks_room_for.false ∙ c.lacks_room_for.ensures ∙ sym (outgrows fits (map page_of_name c.args.names.now)) ∙ over)))
