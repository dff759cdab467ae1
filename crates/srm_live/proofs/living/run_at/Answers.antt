use Rattle.std.proofs.Common.{All, ◌≡◌, sym, ◌∙◌, subst}
use Rattle.srm_live.specs.LiveLines.{PrintingView, new_printing}
use Rattle.srm_live.proofs.LiveMembers.{lives_whole, whole_by_status}
use Rattle.srm_live.proofs.living.run_at.Goals as goal

pub returns-in-Some-clause-whole : goal.returns-in-Some-clause-whole
returns-in-Some-clause-whole g c = λ status.
    whole_by_status c.in-Some.fault c.run_printing.result _ _ c.in-Some.is c.print-in-Some.ensures.status
    (λ end. lives_whole g.R.File.Write.contents g.R.File.Read.remaining c.args.options (g.I.Read.remaining c.args.reader) c.in-Ok.sinks.items (sym c.in-Ok.sinks.ok.0 ∙ c.in-Ok.ensures.count) (subst (λ me. All (λ (s : PrintingView). s ≡ new_printing c.args.options.names me) c.in-Ok.sinks.items) c.me.ensures c.in-Ok.ensures.new) (c.run_printing.ensures end)) status
