use Rattle.std.proofs.Common.{ap, sym, refl, ◌∙◌, length}
use Rattle.srm_names.specs.Histories.{count_up}
use Rattle.srm_store.specs.Stores.{StoreContent}
use Rattle.srm_store.proofs.Gaps.{gaps_named}
use Rattle.srm_store.proofs.Reading.{missing_here}
use Rattle.srm_store.proofs.store.Store.missing_count.Goals as goal

pub returns-clause-value : goal.returns-clause-value
returns-clause-value c = λ inserted evidence settled h.
    let content = c.places_of_stream.result.now in
    c.missing.ensures.value
    ∙ sym (gaps_named content c.args.stream (count_up 1 content.known))
    ∙ ap length (missing_here h (record { table = c.self.inside.table; is = ap (λ (s : StoreContent). s.table) c.self.view_is; row_is = c.places_of_stream.ensures.value; source = c.places_of_stream.ensures.source }) content.known refl)
