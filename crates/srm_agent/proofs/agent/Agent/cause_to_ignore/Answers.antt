use Rattle.std.proofs.Common.{sym, ◌∙◌}
use Rattle.srm_agent.proofs.Deciding.{first_judged}
use Rattle.srm_agent.proofs.agent.Agent.cause_to_ignore.Goals as goal

pub returns-clause-verdict : goal.returns-clause-verdict
returns-clause-verdict g c = λ s made past h.
    first_judged s made past _ c.args.datagram.now c.args.names.now c.is_own.result c.is_stranger.result c.lacks_room_for.result c.is_beyond_final.result c.conflicts.result c.cause.result
    (record { fits = h; here = c.requires.here; of = c.requires.names }) c.is_own.ensures c.is_stranger.ensures (rw (← c.self.view_is) c.lacks_room_for.ensures) (c.is_beyond_final.ensures s made past h) (c.conflicts.ensures s made past h)
    c.cause.ensures.first

pub returns-clause-room : goal.returns-clause-room
returns-clause-room g c = λ none. rw (← c.self.view_is) (sym c.lacks_room_for.ensures ∙ c.cause.ensures.room none)
