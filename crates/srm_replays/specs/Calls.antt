-- Which calls of a member act: those that its record has.
use Rattle.std.specs.Prelude.{Bool, true, false, not, ◌&&◌, List, [], ◌∷◌, is_none}
use Rattle.srm_entries.specs.declared.entry.Entry.{Entry}
use Rattle.srm_entries.specs.declared.entry.Effects.{Effects}
use Rattle.srm_entries.specs.declared.entry.Input.{Input}
use Rattle.srm_entries.specs.declared.entry.Input.TheVariants.{Drew, Heard, Noise, Ticked, Showed, AskedLeave, Gave, Took}
use Rattle.srm_entries.specs.declared.entry.Verdict.{Verdict}
use Rattle.srm_entries.specs.declared.entry.Verdict.TheVariants.{Done, Ignored, Refused}

abbrev pub is_empty : {A : Type 0} → List A → Bool
is_empty [] = true
is_empty (x ∷ xs) = false

abbrev pub is_done : Verdict → Bool
is_done Done = true
is_done (Ignored cause) = false
is_done (Refused fault) = false

-- no timer was set, nothing was asked for or repaired, and nothing was sent
abbrev pub is_idle : Effects → Bool
is_idle f = is_empty f.arms && is_empty f.asks && is_empty f.fixes && is_empty f.outs

-- whether a call that is done does something, by what it was given
abbrev pub acts_by : Input → Effects → Bool
acts_by (Drew page body) f = true
acts_by (Heard g) f = true
acts_by Noise f = false
acts_by Ticked f = not (is_idle f)
acts_by (Showed page) f = true
acts_by AskedLeave f = true
acts_by (Gave slot) f = not (is_none f.message)
acts_by (Took slot) f = false

-- whether the call did something: whether anything but the last moment may be another after it
abbrev pub acts : Entry → Bool
acts e = is_done e.verdict && acts_by e.input e.effects
