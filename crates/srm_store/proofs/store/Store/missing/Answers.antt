use Rattle.std.proofs.Common.{ap, rules}
use Rattle.srm_store.specs.Stores.{StoreContent}
use Rattle.srm_store.proofs.Reading.{missing_is}
use Rattle.srm_store.proofs.store.Store.missing.Goals as goal

pub returns-clause-value : goal.returns-clause-value
returns-clause-value c = λ inserted evidence settled h. missing_is _ _ c.self.inside.table _ h (ap (λ (s : StoreContent). s.table) c.self.view_is) c.places_of_stream.ensures.source c.in_ok-names.ensures.ok (search rules)
