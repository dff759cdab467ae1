use Rattle.std.proofs.Common.{ℕ, ap, ◌∙◌}
use Rattle.srm_names.specs.declared.stream.Stream.{Stream}
use Rattle.srm_names.specs.Names.{named}
use Rattle.srm_store.specs.Held.{is_held}
use Rattle.srm_store.specs.Stores.{StoreContent}
use Rattle.srm_store.proofs.Reading.{holds_here}
use Rattle.srm_store.proofs.store.Store.holds.Goals as goal

pub returns : goal.returns
returns c = λ inserted evidence settled h.
    c.holds.ensures
    ∙ holds_here h (record { table = c.self.inside.table; is = ap (λ (s : StoreContent). s.table) c.self.view_is; row_is = c.places_of_stream.ensures.value; source = c.places_of_stream.ensures.source }) c.number.result
    ∙ ap (λ (k : ℕ). is_held inserted (named c.stream.result k)) c.number.ensures.value
    ∙ ap (λ (u : Stream). is_held inserted (named u c.args.name.number)) c.stream.ensures
