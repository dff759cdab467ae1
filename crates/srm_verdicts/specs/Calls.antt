-- Which lines of a record are calls.
use Rattle.std.specs.Prelude.{ℕ, List, length, filter, Bool, true, false}
use Rattle.srm_frames.specs.declared.line.Call.{Call}
use Rattle.srm_frames.specs.declared.line.Call.TheVariants.{Took, Ended}
use Rattle.srm_frames.specs.declared.line.Line.{Line}

-- a line is a call of the member, not what a page worker took or that the member ended
abbrev pub is_call : Call → Bool
is_call (Took slot message) = false
is_call Ended = false
is_call call = true

-- how many of these lines are calls
abbrev pub calls_among : List Line → ℕ
calls_among ls = length (filter (λ (l : Line). is_call l.call) ls)
