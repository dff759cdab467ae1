use Rattle.srm_agent.proofs.Fitting.{fits_run}
use Rattle.srm_agent.proofs.agent.Agent.fits_runs_alone.Goals as goal

pub returns : goal.returns
returns g c = λ s made past h. fits_run s made past _ h
