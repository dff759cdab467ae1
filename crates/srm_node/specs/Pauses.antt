-- How long a node pauses after a turn, in microseconds.
use Rattle.std.specs.Prelude.{ℕ, ◌-◌, ◌==◌, ◌&&◌, ◌||◌, min, max, Bool, not, if◌then◌else◌, Option, Some, None}
use Rattle.srm_node.specs.declared.limits.TheConstants.{DATAGRAMS_A_TURN}
use Rattle.srm_node.specs.declared.pausing.Turn.{Turn}

-- the turn heard or drew all that it might, or found a command, so there may be more
abbrev pub is_full : Turn → Bool
is_full turn = (turn.heard == DATAGRAMS_A_TURN) || (turn.drawn == turn.most) || turn.obeyed

-- it heard and drew nothing, and found no command
abbrev pub is_idle : Turn → Bool
is_idle turn = (turn.heard == 0) && (turn.drawn == 0) && not turn.obeyed

-- the longest pause of all: 10 ms
abbrev pub LONGEST_PAUSE : ℕ
LONGEST_PAUSE = 10000

-- A pause lasts 10 ms at most, and 1 ms after a turn that gave a message.
abbrev pub longest_after : Turn → ℕ
longest_after turn = if turn.gave then 1000 else LONGEST_PAUSE

-- After an idle turn it lasts 1 ms at least.
abbrev pub shortest_after : Turn → ℕ
shortest_after turn = if is_idle turn then 1000 else 0

-- how long until something is due; the longest pause, if nothing is
abbrev pub time_until : Option ℕ → ℕ → ℕ
time_until (Some due) now = due - now
time_until None now = LONGEST_PAUSE

-- A node pauses until something is due, within these bounds, and not at all where there may be more.
abbrev pub pause_after : Turn → Option ℕ → ℕ → ℕ
pause_after turn due now = if is_full turn then 0 else max (min (time_until due now) (longest_after turn)) (shortest_after turn)
