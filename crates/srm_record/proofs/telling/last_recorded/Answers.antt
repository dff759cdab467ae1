use Rattle.std.proofs.Common.{◌∙◌, ◌++◌, [], ◌∷◌, ap, sym, take}
use Rattle.std.proofs.lemmas.List.{take_more}
use Rattle.srm_entries.specs.declared.entry.Entry.{Entry}
use Rattle.srm_record.specs.Calls.{last_recorded, last_after}
use Rattle.srm_record.proofs.Snocs.{last_recorded-snoc}
use Rattle.srm_record.proofs.telling.last_recorded.Goals as goal

pub loop-entry-preserved : goal.loop-entry-preserved
loop-entry-preserved c =
    let m = c.args.made in
    let es = take c.loop-entry.entry-index c.args.entries.now in
    let e = c.entry-item.result in
    let more = take_more c.args.entries.now c.loop-entry.entry-index e c.loop-entry-test.true ∙ ap (λ (x : Entry). es ++ x ∷ []) (sym c.entry-item.is) in
    c.last_after-last.ensures
    ∙ ap (λ last. last_after last e) c.loop-entry.invariant
    ∙ sym (last_recorded-snoc m es e) ∙ ap (last_recorded m) (sym more)
