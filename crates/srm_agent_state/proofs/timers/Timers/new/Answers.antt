use Rattle.srm_agent_state.proofs.Starting.{timers_begin, asks_with, fixes_with, settings_begin}
use Rattle.srm_agent_state.proofs.timers.Timers.new.Goals as goal

pub returns-clause-fits : goal.returns-clause-fits
returns-clause-fits c = timers_begin _ _ (asks_with c.c1.ensures.value c.c2.ensures.value c.new-2.ensures) (fixes_with c.d1.ensures.value c.d2.ensures.value c.new-4.ensures)

pub returns-clause-settings : goal.returns-clause-settings
returns-clause-settings c = settings_begin _ _ (asks_with c.c1.ensures.value c.c2.ensures.value c.new-2.ensures) (fixes_with c.d1.ensures.value c.d2.ensures.value c.new-4.ensures)
