use Rattle.srm_entries.proofs.Holding.{ok_then}
use Rattle.srm_agent_state.proofs.Learning.{settles_one}
use Rattle.srm_agent_state.proofs.session_messages.settle.Goals as goal

pub returns-in-Some : goal.returns-in-Some
returns-in-Some c = settles_one c.args.leaver c.in-Some.member c.args.rows.now _ _ c.in-Some.is (ok_then c.settle_final.result (c.settle_final.ensures.room c.requires) c.settle_final.ensures.fits)
