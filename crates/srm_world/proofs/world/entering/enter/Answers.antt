use Rattle.std.proofs.Common.{ap, ◌∙◌, ◌∷◌, ◌++◌, []}
use Rattle.srm_names.proofs.Results.{at_err}
use Rattle.srm_world.specs.Sent.{all_of}
use Rattle.srm_world.specs.Worlds.{after_entry}
use Rattle.srm_world.proofs.Stepping.{keeps_all}
use Rattle.srm_world.proofs.world.entering.enter.Goals as goal

pub returns-in_err-reserve-clause-err : goal.returns-in_err-reserve-clause-err
returns-in_err-reserve-clause-err g c = at_err _ (keeps_all c.args.participants.now (all_of c.args.sent.now))

pub returns-in-None-clause-ok : goal.returns-in-None-clause-ok
returns-in-None-clause-ok g c = (rw c.in-None.is at c.in_ok-entry_of.ensures.skipped, ap (λ es. record { starts = c.trace.inside.starts.items; entries = es }) c.in_ok-reserve.ensures.items ∙ c.trace.view_is)

pub returns-in-Some-clause-ok : goal.returns-in-Some-clause-ok
returns-in-Some-clause-ok g c = (
  c.in-Some.entry,
  rw c.in-Some.is at c.in_ok-entry_of.ensures.entry,
  ap (λ es. record { starts = c.trace.inside.starts.items; entries = es }) (c.append.ensures ∙ ap (λ es. es ++ c.in-Some.entry ∷ []) c.in_ok-reserve.ensures.items)
      ∙ ap (λ t. after_entry t c.in-Some.entry) c.trace.view_is,
)
