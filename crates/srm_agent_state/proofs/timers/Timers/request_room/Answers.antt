use Rattle.srm_agent_state.proofs.Midway.{fixes_stay, both_stay}
use Rattle.srm_agent_state.proofs.timers.Timers.request_room.Goals as goal

pub returns-in_err-make_places-clause-kept : goal.returns-in_err-make_places-clause-kept
returns-in_err-make_places-clause-kept c = rw (← c.self.view_is) (fixes_stay _ _ _ c.make_places.ensures.kept)

pub returns-in_err-room-clause-kept : goal.returns-in_err-room-clause-kept
returns-in_err-room-clause-kept c = rw (← c.self.view_is) (both_stay _ _ _ _ c.room.ensures.kept c.make_places.ensures.kept)

pub returns-clause-kept : goal.returns-clause-kept
returns-clause-kept c = rw (← c.self.view_is) (both_stay _ _ _ _ c.room.ensures.kept c.make_places.ensures.kept)
