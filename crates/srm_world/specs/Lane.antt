-- The messages that one page worker was given and hasn't taken yet.
use Rattle.std.specs.Prelude.{ℕ, List}
use Rattle.std.specs.VecDeque.{deque_capacity}
use Rattle.srm_names.specs.declared.page_msg.PageMsg.{PageMsg}
use Rattle.srm_world.specs.declared.lane.Lane.TheInside.{Inside}

-- what waits for one worker, oldest first, and for how many there is room
pub record LaneContent : Type 0 where
  pub waiting : List PageMsg
  pub capacity : ℕ

abbrev pub lane_of : Inside → LaneContent
lane_of l = record { waiting = l.messages.items; capacity = deque_capacity l.messages }
