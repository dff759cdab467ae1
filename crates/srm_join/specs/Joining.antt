-- What a room has for one of its members.
use Rattle.std.specs.Prelude.{◌<◌, ◌≤◌, ℕ, List, length, option_map, slice_get, Option, Result, Ok, Err}
use Rattle.srm_entries.specs.Configs.{Config, IsConfig, config_with}
use Rattle.srm_entries.specs.declared.settings.Settings.{Settings}
use Rattle.srm_guard.specs.Seals.{SealView, IsNewSeal}
use Rattle.srm_room.specs.Rooms.{Content, IsRoom, Person}
use Rattle.srm_room.specs.declared.room_settings.RoomSettings.{RoomSettings}
use Rattle.srm_join.specs.declared.sealing.SealFault.{SealFault}
use Rattle.srm_join.specs.declared.sealing.SealFault.TheVariants.{NoKey, NoMember, Memory}

abbrev pub settings_of : RoomSettings → Settings
settings_of s = record { rate = s.rate; depth = s.depth; c1 = s.c1; c2 = s.c2; d1 = s.d1; d2 = s.d2; least_distance = s.least_distance }

-- the settings of the agent of the member with this place
abbrev pub config_in : Content → ℕ → Config
config_in r me = config_with me (length r.people) r.session (settings_of r.settings)

-- whatever room it is, an agent takes the settings that it has for each of its members
abbrev pub TakesSettings : Type 0
TakesSettings = (r : Content) (me : ℕ) → IsRoom r → me < length r.people → IsConfig (config_in r me)

-- the name and the address of the member with this place
abbrev pub name_at : List Person → ℕ → Option (List ℕ)
name_at people place = option_map (λ (p : Person). p.name) (slice_get people place)

abbrev pub address_at : List Person → ℕ → Option (List ℕ)
address_at people place = option_map (λ (p : Person). p.address) (slice_get people place)

-- a new seal by the room's key, whose counters begin here; or no such member; or no memory
abbrev pub SealsIn : Content → ℕ → ℕ → Result SealView SealFault → Type 0
SealsIn r me start (Ok seal) = (me < length r.people) × IsNewSeal r.key me start seal
SealsIn r me start (Err NoMember) = length r.people ≤ me
SealsIn r me start (Err NoKey) = ⊥
SealsIn r me start (Err Memory) = me < length r.people
