use Rattle.std.proofs.Common.{sym, subst, ◌∙◌, ℕ}
use Rattle.srm_agent.specs.Asking.{WouldMissBytes}
use Rattle.srm_agent.proofs.Ignoring.{if_one, refused_as_read}
use Rattle.srm_agent.proofs.WouldMiss.{gone_misses, noise_misses, datagram_misses}
use Rattle.srm_agent.proofs.agent.Agent.would_miss.Goals as goal

pub returns-then-is_gone-clause-ok : goal.returns-then-is_gone-clause-ok
returns-then-is_gone-clause-ok g c = gone_misses c.args.self.now c.args.bytes.now (sym c.is_gone.ensures ∙ c.if-is_gone.true)

pub returns-in-Ok-clause-ok : goal.returns-in-Ok-clause-ok
returns-in-Ok-clause-ok g c = if_one c.would_miss_by.result c.would_miss_by.ensures
    (λ count by. datagram_misses c.args.self.now c.session.result c.args.bytes.now (sym c.is_gone.ensures ∙ c.if-is_gone.false) (rw (← c.self.view_is) c.session.ensures) c.in-Ok.datagram count c.in-Ok.ensures.judged by)

pub returns-in-Ok-clause-spelled : goal.returns-in-Ok-clause-spelled
returns-in-Ok-clause-spelled g c = refused_as_read c.would_miss_by.result c.session.result _ c.args.bytes.now c.in-Ok.datagram (rw (← c.self.view_is) c.session.ensures) c.in-Ok.ensures.judged

pub returns-in-Err-clause-ok : goal.returns-in-Err-clause-ok
returns-in-Err-clause-ok g c = if_one c.none_by_noise.result c.none_by_noise.ensures.none
    (λ count p. subst (λ (k : ℕ). WouldMissBytes c.args.bytes.now c.args.self.now k) (sym p.0)
    (noise_misses c.args.self.now c.session.result c.args.bytes.now (sym c.is_gone.ensures ∙ c.if-is_gone.false) (rw (← c.self.view_is) c.session.ensures) c.in-Err.fault p.1 c.in-Err.ensures.judged))
