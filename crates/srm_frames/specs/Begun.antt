-- What reading a beginning answers, step by step.
use Rattle.std.specs.Prelude.{◌≡◌, ℕ, ◌-◌, Bool, true, false, List, ◌++◌, length, take, Option, Some, None, Result, Ok, Err}
use Rattle.std.specs.Int.{Width, w32}
use Rattle.srm_codec.specs.Spelling.{AreBytes}
use Rattle.srm_codec.specs.Judging.{number_at}
use Rattle.srm_entries.specs.Configs.{Config, IsConfig}
use Rattle.srm_frames.specs.declared.beginning.Beginning.{Beginning}
use Rattle.srm_frames.specs.declared.fault.RecordFault.{RecordFault}
use Rattle.srm_frames.specs.Checksums.{crc_32}
use Rattle.srm_frames.specs.Beginnings.{beginning_text}
use Rattle.srm_frames.specs.Readings.{config_at, fields_at}
use Rattle.srm_frames.specs.WhatIsRead.{IsBeginning, IsFault, versioned}

-- whether this number stands there
abbrev pub IsThere : Width → ℕ → Bool → List ℕ → List ℕ → Type 0
IsThere w n true old new = number_at w old ≡ Ok (n, new)
IsThere w n false old new = (rest : List ℕ) → number_at w old ≡ Ok (n, rest) → ⊥

-- The front is that of a record of the known version, or that is the fault.
abbrev pub IsVersioned : {A : Type 0} → Result A RecordFault → List ℕ → List ℕ → Type 0
IsVersioned (Ok x) old new = (old ≡ versioned ++ new) × AreBytes new
IsVersioned (Err fault) old new = IsFault old fault

-- settings that are in their ranges, or none are read
abbrev pub IsConfigAt : Option Config → List ℕ → List ℕ → Type 0
IsConfigAt (Some c) old new = (config_at old ≡ Ok (c, new)) × IsConfig c
IsConfigAt None old new = (c : Config) (rest : List ℕ) → config_at old ≡ Ok (c, rest) → IsConfig c → ⊥

abbrev pub AreFieldsAt : Option Beginning → List ℕ → List ℕ → Type 0
AreFieldsAt (Some b) old new = (fields_at old ≡ Ok (b, new)) × IsConfig b.config
AreFieldsAt None old new = (b : Beginning) (rest : List ℕ) → fields_at old ≡ Ok (b, rest) → IsConfig b.config → ⊥

-- the bytes of a whole that are in front of those that are left
abbrev pub in_front_of : List ℕ → List ℕ → List ℕ
in_front_of whole left = take (length whole - length left) whole

-- whether a checksum stands there, of what stands before it
abbrev pub IsChecked : Bool → List ℕ → List ℕ → List ℕ → Type 0
IsChecked true whole old new = number_at w32 old ≡ Ok (crc_32 (in_front_of whole old), new)
IsChecked false whole old new = (rest : List ℕ) → number_at w32 old ≡ Ok (crc_32 (in_front_of whole old), rest) → ⊥

abbrev pub IsBegun : Result Beginning RecordFault → List ℕ → List ℕ → Type 0
IsBegun (Ok b) old new = (old ≡ beginning_text b ++ new) × IsBeginning b × AreBytes new
IsBegun (Err fault) old new = IsFault old fault
