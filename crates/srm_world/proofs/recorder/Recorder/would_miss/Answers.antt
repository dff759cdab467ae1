use Rattle.std.proofs.Common.{ap, sym, subst, ◌∙◌}
use Rattle.std.specs.Prelude.{IsOk}
use Rattle.std.proofs.lemmas.Result.{on_err_weaker}
use Rattle.srm_codec.specs.Judging.{judge}
use Rattle.srm_entries.specs.Configs.{Config}
use Rattle.srm_entries.specs.Entries.{is_gone}
use Rattle.srm_agent.proofs.Ignoring.{if_one}
use Rattle.srm_world.proofs.recorder.Recorder.would_miss.Goals as goal

pub returns-clause-ok : goal.returns-clause-ok
returns-clause-ok g c = rw (← c.self.view_is) (if_one c.would_miss.result c.would_miss.ensures.ok (λ count by. by.each _ _ _ c.self.invariant.fits))

pub returns-clause-here : goal.returns-clause-here
returns-clause-here g c = on_err_weaker c.would_miss.result (λ here. rw (← c.self.view_is) (ap is_gone (sym c.self.invariant.fits.state) ∙ here)) c.would_miss.ensures.here

pub returns-clause-spelled : goal.returns-clause-spelled
returns-clause-spelled g c = on_err_weaker c.would_miss.result (λ spelled. rw (← c.self.view_is) (subst (λ (s : Config). IsOk (judge s.session c.args.bytes.now)) c.self.invariant.fits.config spelled)) c.would_miss.ensures.spelled
