use Rattle.std.proofs.Common.{◌++◌, sym, ap, ◌∙◌}
use Rattle.srm_pages.specs.Ink.{strokes_of}
use Rattle.srm_pages.proofs.laws.well_keeps_its_rule.Goals as goal

pub returns : goal.returns
returns c = λ items views h i j p r at writes at' reads.
    (((h.fits i p at).pen writes).2) ∙ ap (λ l. strokes_of p.pen (l ++ items)) (sym ((h.fits j r at').reader reads).1)
