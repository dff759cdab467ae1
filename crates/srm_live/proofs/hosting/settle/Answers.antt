use Rattle.srm_live.proofs.hosting.settle.Goals as goal

pub returns-in-Some-clause-pens : goal.returns-in-Some-clause-pens
returns-in-Some-clause-pens g c = λ none.
    let pens = c.settle_typed.ensures.pens none in
    (c.in-Some.typed, c.in-Some.is, pens.0, pens.1, c.settle_typed.ensures.answers none)
