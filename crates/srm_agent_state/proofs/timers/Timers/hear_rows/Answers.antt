use Rattle.srm_agent_state.proofs.Midway.{on_ok}
use Rattle.srm_agent_state.proofs.Missing.{rows_hear}
use Rattle.srm_agent_state.proofs.timers.Timers.hear_rows.Goals as goal

pub returns-clause-hears : goal.returns-clause-hears
returns-clause-hears g c = on_ok c.detect.result (λ arms e.
    rows_hear g.W.Words.next_word c.args.words.now c.detect.new.words c.args.newly_missing.now c.args.dist.now c.args.now arms.items c.args.self.now c.detect.new.self
    (rw e at c.detect.ensures.fits) c.detect.ensures.fixes (rw e at c.detect.ensures.arms) (rw e at c.detect.ensures.chosen))
