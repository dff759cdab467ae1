use Rattle.std.proofs.Common.{◌-◌, length, ap, sym, ◌∙◌}
use Rattle.std.specs.Prelude.{slice_get}
use Rattle.srm_world.specs.Traces.{Trace}
use Rattle.srm_script.proofs.Newest.{sent_is_spellable}
use Rattle.srm_script.proofs.play.print_newest.Goals as goal

pub print_entry-requires : goal.print_entry-requires
print_entry-requires g c = sent_is_spellable c.args.world.now.trace (length c.entries.result.now - 1) c.in-Some.entry.now c.trace.ensures.lawful
    (ap (λ (t : Trace). slice_get t.entries (length c.entries.result.now - 1)) (sym c.trace.ensures.value) ∙ ap (λ es. slice_get es (length c.entries.result.now - 1)) (sym c.entries.ensures) ∙ sym c.in-Some.ensures.value)
