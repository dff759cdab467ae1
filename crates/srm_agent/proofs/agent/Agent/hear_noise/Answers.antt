use Rattle.srm_agent.proofs.Answered.{ignored_by}
use Rattle.srm_agent.proofs.Ignoring.{noise_enters, noise_is}
use Rattle.srm_agent.proofs.agent.Agent.hear_noise.Goals as goal

pub returns-clause-ok : goal.returns-clause-ok
returns-clause-ok g c = noise_enters g.W.Words.next_word _ _ c.args.moment c.args.fault _ c.requires.here c.requires.later
    c.in_ok-cause.ensures.other c.ignore.ensures.new (ignored_by c.args.self.now _ _ _ _ (rw (← c.in_ok-cause.ensures.value) c.ignore.ensures.heard))

pub returns-clause-noise : goal.returns-clause-noise
returns-clause-noise g c = noise_is _ c.args.moment _ c.args.fault _ _ c.in_ok-cause.ensures.other c.in_ok-cause.ensures.value (ignored_by c.args.self.now _ _ _ _ c.ignore.ensures.heard)
