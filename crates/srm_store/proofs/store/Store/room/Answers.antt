use Rattle.srm_names.proofs.Results.{err_is}
use Rattle.srm_store.specs.declared.fault.StoreFault.TheVariants.{Memory}
use Rattle.srm_store.proofs.Faults.{no_page_limit, limit_handed_on, limit_past}
use Rattle.srm_store.proofs.store.Store.room.Goals as goal

pub returns-in_err-find_slots-clause-limit : goal.returns-in_err-find_slots-clause-limit
returns-in_err-find_slots-clause-limit c = λ inserted evidence settled h.
    limit_handed_on _ c.from_residual.result (c.in_err-find_slots.ensures.limit inserted evidence settled h) (err_is c.from_residual.result _ c.from_residual.ensures.1)

pub returns-in_err-make_room-clause-limit : goal.returns-in_err-make_room-clause-limit
returns-in_err-make_room-clause-limit c = λ inserted evidence settled h.
    limit_past c.from_residual-in_err-make_room.result (c.in_ok-find_slots.ensures.limit inserted evidence settled h)
    (no_page_limit c.from_residual-in_err-make_room.result (err_is c.from_residual-in_err-make_room.result Memory c.from_residual-in_err-make_room.ensures.1))

pub returns-clause-limit : goal.returns-clause-limit
returns-clause-limit c = λ inserted evidence settled h. limit_past _ (c.in_ok-find_slots.ensures.limit inserted evidence settled h) (λ e. cc)
