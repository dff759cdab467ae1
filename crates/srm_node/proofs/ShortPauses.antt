-- No pause lasts longer than 10 ms.
use Rattle.std.proofs.Common.{ℕ, ◌≤◌, Bool, true, false, if◌then◌else◌, min, max, arith}
use Rattle.std.specs.Prelude.{Option}
use Rattle.srm_node.specs.declared.pausing.Turn.{Turn}
use Rattle.srm_node.specs.Pauses.{LONGEST_PAUSE, is_full, is_idle, pause_after, time_until}

bounded : (full gave idle : Bool) (t : ℕ) → (if full then 0 else max (min t (if gave then 1000 else LONGEST_PAUSE)) (if idle then 1000 else 0)) ≤ LONGEST_PAUSE
bounded true gave idle t = omega arith
bounded false true true t = omega arith
bounded false true false t = omega arith
bounded false false true t = omega arith
bounded false false false t = omega arith

pub pause_is_short : (turn : Turn) (due : Option ℕ) (now : ℕ) → pause_after turn due now ≤ LONGEST_PAUSE
pause_is_short turn due now = bounded (is_full turn) turn.gave (is_idle turn) (time_until due now)
