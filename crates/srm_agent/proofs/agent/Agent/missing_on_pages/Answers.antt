use Rattle.std.proofs.Common.{◌∙◌, sym, arith}
use Rattle.srm_agent.proofs.Asking.{misses_on_more, misses_in_all}
use Rattle.srm_agent.proofs.agent.Agent.missing_on_pages.Goals as goal

pub loop-page-preserved : goal.loop-page-preserved
loop-page-preserved g c = misses_on_more _ _ c.loop-page.page-index c.loop-page.count c.missing_on-count.result c.page-item.result _ c.loop-page-test.true (sym c.page-item.is) c.loop-page.invariant c.missing_on-count.ensures

pub returns : goal.returns
returns g c = misses_in_all c.args.self.now c.as_slice-pages.result.now c.loop-page.page-index c.loop-page.count (λ s made past h. let fits = rw (← c.self.view_is) at h in c.as_slice-pages.ensures.value ∙ fits.pages) c.loop-page-test.false (omega (arith, c.loop-page.auto.page-index-end, c.as_slice-pages.ensures.table.few)) c.loop-page.invariant
