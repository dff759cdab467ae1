use Rattle.std.proofs.Common.{refl}
use Rattle.srm_names.specs.declared.page_msg.PageMsg.TheVariants.{Open, Draw, Left, Close}
use Rattle.srm_agent_state.proofs.ProgressSteps.{opens, draws, leaving, closes, given_as}
use Rattle.srm_agent_state.proofs.progress.Progress.give.Goals as goal

pub returns-in-Open : goal.returns-in-Open
returns-in-Open c = rw (← c.self.view_is) (given_as c.args.message.now (Open c.in-Open.field-0) c.in-Open.is _ _ (λ g fits goes. opens g c.in-Open.field-0 _ fits))

pub returns-in-Draw : goal.returns-in-Draw
returns-in-Draw c = rw c.draw.ensures.new (given_as c.args.message.now (Draw c.in-Draw.drawop) c.in-Draw.is _ _ (λ g fits goes.
    draws g c.in-Draw.drawop _ _ _ fits c.draw.ensures.places refl refl c.draw.ensures.below goes))

pub returns-in-Left : goal.returns-in-Left
returns-in-Left c = rw (← c.self-in-Left.view_is) (given_as c.args.message.now (Left c.in-Left.source) c.in-Left.is _ _ (λ g fits goes.
    leaving g c.in-Left.source c.index.result _ fits c.self-in-Left.invariant.left c.index.ensures.value c.index.ensures.below goes))

pub returns-in-Close : goal.returns-in-Close
returns-in-Close c = rw (← c.self-in-Close.view_is) (given_as c.args.message.now Close c.in-Close.is _ _ (λ g fits goes. closes g _ fits))
