-- Rooms that are made, and their files.
use Rattle.std.specs.Prelude.{◌≡◌, ℕ, List, length, map, Option, Ok, IfSome}
use Rattle.std.specs.Io.KnownBytes.{Appends}
use denote.Ref.{Bor}
use Rattle.srm_room.specs.Readings.{said}
use Rattle.srm_room.specs.Rooms.{Content, IsRoom, Person, person_of}
use Rattle.srm_options.specs.declared.room.RoomCommand.{RoomCommand}
use Rattle.srm_options.specs.declared.room.RoomCommand.TheVariants.{New, Show, Take, Check}

-- names and addresses, as a line has them
abbrev pub people_of : List (Bor (List ℕ) × Bor (List ℕ)) → List Person
people_of pairs = map (λ (pair : Bor (List ℕ) × Bor (List ℕ)). person_of pair.0.now pair.1.now) pairs

-- A room of these members, with a key of 32 bytes.
pub record IsMadeOf (ps : List Person) (room : Content) : Type 0 where
  pub is_room : IsRoom room
  pub people : room.people ≡ ps
  pub key_length : length room.key ≡ 32

-- A text that says this room was printed.
abbrev pub PrintsRoom : Content → Option (List ℕ) → Option (List ℕ) → Type 0
PrintsRoom room old new = (text : List ℕ) × (said text ≡ Ok room) × Appends old new text

-- A file was opened, and has this text behind what it held then.
abbrev pub StoresText : {F : Type 0} → (F → Option (List ℕ)) → List ℕ → Type 0
StoresText {F} contents text = (opened : F) × (closed : F) × Appends (contents opened) (contents closed) text

-- A file was opened, and has a text that says this room behind what it held then.
abbrev pub StoresRoom : {F : Type 0} → (F → Option (List ℕ)) → Content → Type 0
StoresRoom contents room = (text : List ℕ) × (said text ≡ Ok room) × StoresText contents text

-- What was read, where that is known, says this room.
abbrev pub IsSaidBy : Option (List ℕ) → Content → Type 0
IsSaidBy input room = IfSome input (λ text. said text ≡ Ok room)

-- A file was opened, and what it had says this room.
abbrev pub IsReadAt : {F : Type 0} → (F → Option (List ℕ)) → Content → Type 0
IsReadAt {F} remaining room = (opened : F) × IsSaidBy (remaining opened) room

-- A room of these members was made and stored.
abbrev pub MakesRoom : {F : Type 0} → (F → Option (List ℕ)) → List Person → Type 0
MakesRoom contents people = (room : Content) × IsMadeOf people room × StoresRoom contents room

-- The room of a file was printed.
abbrev pub ShowsRoom : {F : Type 0} → (F → Option (List ℕ)) → Option (List ℕ) → Option (List ℕ) → Type 0
ShowsRoom remaining before after = (room : Content) × IsReadAt remaining room × PrintsRoom room before after

-- The room that an input says was stored.
abbrev pub TakesRoom : {F : Type 0} → (F → Option (List ℕ)) → Option (List ℕ) → Type 0
TakesRoom contents input = (room : Content) × IsSaidBy input room × StoresRoom contents room

-- What a command does. What a check prints isn't said.
abbrev pub IsDone : {F : Type 0} → (F → Option (List ℕ)) → (F → Option (List ℕ)) → RoomCommand → Option (List ℕ) → Option (List ℕ) → Option (List ℕ) → Type 0
IsDone remaining contents (New path members) input before after = MakesRoom contents (people_of members.items)
IsDone remaining contents (Show path) input before after = ShowsRoom remaining before after
IsDone remaining contents (Take path) input before after = TakesRoom contents input
IsDone remaining contents (Check path) input before after = Unit {0}
