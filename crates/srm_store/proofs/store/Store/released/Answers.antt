use Rattle.std.proofs.Common.{ap}
use Rattle.srm_store.specs.Stores.{StoreContent}
use Rattle.srm_store.proofs.Reading.{held_here, released_is}
use Rattle.srm_store.proofs.store.Store.released.Goals as goal

pub returns-clause-value : goal.returns-clause-value
returns-clause-value c = λ inserted evidence settled h.
    released_is inserted c.args.stream c.places_of_stream.result.now.places c.released.result
    (held_here h (record { table = c.self.inside.table; is = ap (λ (s : StoreContent). s.table) c.self.view_is; row_is = c.places_of_stream.ensures.value; source = c.places_of_stream.ensures.source }))
    c.released.ensures.value
