use Rattle.srm_agent.proofs.Asking.{MissesOnFirst}
use Rattle.srm_agent.proofs.agent.Agent.missing_on_pages.Given as goal

abbrev pub invariant-loop-page : goal.invariant-loop-page
invariant-loop-page g l = MissesOnFirst l.fn.self l.pages l.page-index l.count
