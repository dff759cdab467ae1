use Rattle.std.proofs.Common.{ap, sym, refl, ◌∙◌}
use Rattle.std.specs.Prelude.{find, nat_lt, option_map}
use Rattle.srm_names.specs.FullName.{FullName}
use Rattle.srm_names.specs.Histories.{count_up}
use Rattle.srm_names.specs.Names.{named}
use Rattle.srm_store.specs.Stores.{StoreContent}
use Rattle.srm_store.proofs.Gaps.{gap_named}
use Rattle.srm_store.proofs.Reading.{missing_here}
use Rattle.srm_store.proofs.store.Store.next_missing.Goals as goal

pub returns : goal.returns
returns c = λ inserted evidence settled h.
    let content = c.places_of_stream.result.now in
    c.name_at.ensures
    ∙ ap (option_map (named c.args.stream)) c.next_missing-number.ensures.value
    ∙ sym (gap_named content c.args.stream c.args.after (count_up 1 content.known))
    ∙ ap (find (λ (n : FullName). nat_lt c.args.after n.number))
    (missing_here h (record { table = c.self.inside.table; is = ap (λ (s : StoreContent). s.table) c.self.view_is; row_is = c.places_of_stream.ensures.value; source = c.places_of_stream.ensures.source }) content.known refl)
