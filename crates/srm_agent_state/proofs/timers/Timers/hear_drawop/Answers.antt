use Rattle.srm_agent_state.proofs.Missing.{drawop_hears}
use Rattle.srm_agent_state.proofs.timers.Timers.hear_drawop.Goals as goal

pub returns-clause-hears : goal.returns-clause-hears
returns-clause-hears g c =
    drawop_hears g.W.Words.next_word c.args.words.now c.detect.new.words c.args.repaired c.args.name c.args.newly_missing.now c.args.dist.now c.args.now c.in_ok-arms.arms.items
    c.args.self.now c.drawop_room.new.self c.detect.new.self c.gain.new.self c.end_repair.new.self
    c.drawop_room.ensures.asks c.drawop_room.ensures.fixes c.drawop_room.ensures.settings
    c.in_ok-arms.ensures.fits c.in_ok-arms.ensures.fixes c.in_ok-arms.ensures.arms c.in_ok-arms.ensures.chosen
    c.gain.ensures.asks c.gain.ensures.fixes c.end_repair.ensures.fixes c.end_repair.ensures.asks
