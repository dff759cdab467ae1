-- What is kept of names for their repairs: who asked for each first, and until when it is held off.
use Rattle.std.specs.Prelude.{◌≡◌, ℕ, List, map, Option, Some, None, if◌then◌else◌}
use Rattle.srm_names.specs.FullName.{FullName}
use Rattle.srm_names.specs.Histories.{or_else}
use Rattle.srm_names.specs.Names.{same_name}
use Rattle.srm_deadlines.specs.declared.by_name.NamedValue.{NamedValue}
use Rattle.srm_deadlines.specs.Places.{value_at, KeepsPlaces, HasPlaces}
use Rattle.srm_timers.specs.declared.marks.Mark.{Mark}
use Rattle.srm_timers.specs.FixCalls.{is_held_off}

abbrev pub asker_of : Option Mark → Option ℕ
asker_of None = None
asker_of (Some m) = m.asker

abbrev pub until_of : Option Mark → Option ℕ
until_of None = None
until_of (Some m) = Some m.until

-- one number of a mark, by name
abbrev pub place_by : (Option Mark → Option ℕ) → NamedValue Mark → NamedValue ℕ
place_by f p = record { name = p.name; value = f p.value }

-- what contracts see: the askers, and until when names are held off
pub record MarkContent : Type 0 where
  pub askers : List (NamedValue ℕ)
  pub held_off : List (NamedValue ℕ)

abbrev pub marks_of : List (NamedValue Mark) → MarkContent
marks_of places = record { askers = map (place_by asker_of) places; held_off = map (place_by until_of) places }

-- these names have places for both
pub record HaveMarks (names : List FullName) (m : MarkContent) : Type 0 where
  pub askers : HasPlaces names m.askers
  pub held_off : HasPlaces names m.held_off

-- places stay
pub record MarksKeepPlaces (old new : MarkContent) : Type 0 where
  pub askers : KeepsPlaces old.askers new.askers
  pub held_off : KeepsPlaces old.held_off new.held_off

-- who asked for a name is noted, unless one asked before
pub record NotesAsker (name : FullName) (from : ℕ) (old new : List (NamedValue ℕ)) : Type 0 where
  pub each : (n : FullName) → value_at new n ≡ or_else (value_at old n) (if same_name n name then Some from else None)

-- names are held off as they were
pub record OffAsBefore (old new : List (NamedValue ℕ)) : Type 0 where
  pub each : (n : FullName) (now : ℕ) → is_held_off new n now ≡ is_held_off old n now
