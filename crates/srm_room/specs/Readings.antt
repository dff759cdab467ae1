-- Which room a text says, and the first fault of one that says none.
use Rattle.std.specs.Prelude.{◌≡◌, ℕ, pos, suc, not, ◌==◌, ◌&&◌, nat_le, nat_lt, if◌then◌else◌, List, [], ◌∷◌, ◌++◌, length, Option, Some, None, Result, Ok, Err, IfOk, IfSome}
use Rattle.hex.specs.Hex.{decode_of}
use Rattle.hex.specs.declared.error.FromHexError.{FromHexError}
use Rattle.toml.specs.Data.{Data, string, integer, array, table, Items, no_items, item, Members, no_members, member, get_member}
use Rattle.toml.specs.Parse.{parse_document}
use Rattle.srm_names.specs.declared.limits.TheConstants.{MEMBERS}
use Rattle.srm_room.specs.declared.fault.Fault.{Fault}
use Rattle.srm_room.specs.declared.fault.Fault.TheVariants as fault
use Rattle.srm_room.specs.declared.fault.RoomError.{RoomError}
use Rattle.srm_room.specs.declared.fault.RoomError.TheVariants as error
use Rattle.srm_room.specs.declared.field.Field.{Field}
use Rattle.srm_room.specs.declared.field.Field.TheVariants as field
use Rattle.srm_room.specs.declared.field.Place.{Place}
use Rattle.srm_room.specs.declared.field.Place.TheVariants as place
use Rattle.srm_room.specs.declared.reading_settings.Waits.{Waits}
use Rattle.srm_room.specs.declared.room_settings.RoomSettings.{RoomSettings}
use Rattle.srm_room.specs.declared.room_settings.TheConstants.{GREATEST_WAIT}
use Rattle.srm_room.specs.Documents.{document, key_of}
use Rattle.srm_room.specs.Rooms.{Person, person_of, Content, IsRoom, is_name, is_address, has_name, has_address}

infixl 10 ◌>>=◌
abbrev pub ◌>>=◌ : {A B : Type 0} → Result A Fault → (A → Result B Fault) → Result B Fault
(Ok x) >>= f = f x
(Err e) >>= f = Err e

-- the keys of a table
abbrev pub size : Members → ℕ
size no_members = 0
size (member k d ms) = suc (size ms)

-- what stands at a key
abbrev pub found : Place → Field → Option Data → Result Data Fault
found p f None = Err (fault.Lacks p f)
found p f (Some d) = Ok d

abbrev pub value_in : Place → Field → Members → Result Data Fault
value_in p f ms = found p f (get_member (key_of f) ms)

-- a text, a number in its range, a table, an array
abbrev pub text_of : Place → Field → Data → Result (List ℕ) Fault
text_of p f (string text) = Ok text
text_of p f _ = Err (fault.Wrong p f)

abbrev pub number_of : Place → Field → ℕ → ℕ → Data → Result ℕ Fault
number_of p f least greatest (integer (pos n)) = if nat_le least n && nat_le n greatest then Ok n else Err (fault.Wrong p f)
number_of p f least greatest _ = Err (fault.Wrong p f)

abbrev pub table_of : Place → Field → Data → Result Members Fault
table_of p f (table ms) = Ok ms
table_of p f _ = Err (fault.Wrong p f)

abbrev pub array_of : Place → Field → Data → Result Items Fault
array_of p f (array ds) = Ok ds
array_of p f _ = Err (fault.Wrong p f)

abbrev pub text_in : Place → Field → Members → Result (List ℕ) Fault
text_in p f ms = value_in p f ms >>= text_of p f

abbrev pub number_in : Place → Field → ℕ → ℕ → Members → Result ℕ Fault
number_in p f least greatest ms = value_in p f ms >>= number_of p f least greatest

-- no key but these
abbrev pub no_more : {A : Type 0} → Place → ℕ → Members → A → Result A Fault
no_more p count ms x = if size ms == count then Ok x else Err (fault.Unknown p)

-- ---- a member, behind those before it

abbrev pub judged : List Person → Person → Result Person Fault
judged before p =
    if not (is_name p.name) then Err (fault.Name (length before))
    else if not (is_address p.address) then Err (fault.Address (length before))
    else if has_name before p.name then Err (fault.NameTwice (length before))
    else if has_address before p.address then Err (fault.AddressTwice (length before))
    else Ok p

unfoldable pub person_in : List Person → Members → Result Person Fault
person_in before ms = do
  name ← text_in (place.Member (length before)) field.Name ms
  address ← text_in (place.Member (length before)) field.Address ms
  p ← no_more (place.Member (length before)) 2 ms (person_of name address)
  judged before p

abbrev pub person_at : List Person → Data → Result Person Fault
person_at before d = table_of (place.Member (length before)) field.Member d >>= person_in before

abbrev pub people_behind : List Person → Items → Result (List Person) Fault
people_behind before no_items = Ok before
people_behind before (item d ds) = person_at before d >>= λ p. people_behind (before ++ p ∷ []) ds

abbrev pub counted : List Person → Result (List Person) Fault
counted ps =
    if length ps == 0 then Err fault.NoMember
    else if nat_lt MEMBERS (length ps) then Err fault.TooMany
    else Ok ps

unfoldable pub values_in : Members → Result Items Fault
values_in ms = value_in place.Top field.Member ms >>= array_of place.Top field.Member

unfoldable pub people_in : Members → Result (List Person) Fault
people_in ms = do
  ds ← values_in ms
  ps ← people_behind [] ds
  counted ps

-- ---- key and settings

abbrev pub key_of_digits : Result (List ℕ) FromHexError → Result (List ℕ) Fault
key_of_digits (Err _) = Err (fault.Wrong place.Top field.Key)
key_of_digits (Ok key) = if nat_le 16 (length key) && nat_le (length key) 1024 then Ok key else Err fault.KeyLength

unfoldable pub key_in : Members → Result (List ℕ) Fault
key_in ms = text_in place.Top field.Key ms >>= λ digits. key_of_digits (decode_of digits)

abbrev pub wait_of : Data → Result ℕ Fault
wait_of d = number_of place.Settings field.Waits 0 GREATEST_WAIT d

abbrev pub waits_of : Items → Result Waits Fault
waits_of (item a (item b (item c (item d no_items)))) = do
  c1 ← wait_of a
  c2 ← wait_of b
  d1 ← wait_of c
  d2 ← wait_of d
  Ok (record { c1 = c1; c2 = c2; d1 = d1; d2 = d2 })
waits_of _ = Err (fault.Wrong place.Settings field.Waits)

abbrev pub setting_in : Field → ℕ → ℕ → Members → Result ℕ Fault
setting_in f least greatest ms = number_in place.Settings f least greatest ms

unfoldable pub waits_in : Members → Result Waits Fault
waits_in ms = do
  d ← value_in place.Settings field.Waits ms
  ds ← array_of place.Settings field.Waits d
  waits_of ds

unfoldable pub settings_in : Members → Result RoomSettings Fault
settings_in ms = do
  w ← waits_in ms
  least_distance ← setting_in field.LeastDistance 1 10000000 ms
  rate ← setting_in field.Rate 1 100000000 ms
  depth ← setting_in field.Depth 1051 1000000 ms
  linger ← setting_in field.Linger 0 30000000 ms
  most_missing ← setting_in field.MostMissing 1 16777216 ms
  no_more place.Settings 6 ms (record { c1 = w.c1; c2 = w.c2; d1 = w.d1; d2 = w.d2; least_distance = least_distance; rate = rate; depth = depth; linger = linger; most_missing = most_missing })

abbrev pub settings_at : Members → Result RoomSettings Fault
settings_at ms = do
  d ← value_in place.Top field.Settings ms
  s ← table_of place.Top field.Settings d
  settings_in s

-- ---- the room

-- which room a document says, or its first fault
unfoldable pub room_in : Members → Result Content Fault
room_in ms = do
  format ← number_in place.Top field.Ringyew 1 1 ms
  session ← number_in place.Top field.Session 0 4294967295 ms
  key ← key_in ms
  people ← people_in ms
  settings ← settings_at ms
  no_more place.Top 5 ms (record { session = session; key = key; people = people; settings = settings })

abbrev pub room_of : Option Members → Result Content Fault
room_of None = Err fault.NotToml
room_of (Some ms) = room_in ms

-- which room a text says, or its first fault
abbrev pub said : List ℕ → Result Content Fault
said text = room_of (parse_document text)

-- ---- laws

-- whatever a document says is a room
abbrev pub ReadsRooms : Type 0
ReadsRooms = (ms : Members) → IfOk (room_in ms) IsRoom

-- the document of a room says this room
abbrev pub ReadsBack : Type 0
ReadsBack = (r : Content) → IsRoom r → room_in (document r) ≡ Ok r

-- ---- what calls return

-- a call without memory returns what reading gives
abbrev pub Gives : {X Y : Type 0} → (X → Y) → Result X Fault → Result Y Fault → Type 0
Gives view (Ok x) read = read ≡ Ok (view x)
Gives view (Err f) read = read ≡ Err f

-- a refusal is that of reading, unless memory ran out
abbrev pub fault_of : RoomError → Option Fault
fault_of error.Memory = None
fault_of (error.Syntax e line) = Some fault.NotToml
fault_of (error.Refused f line) = Some f

abbrev pub IsRefusal : {Y : Type 0} → RoomError → Result Y Fault → Type 0
IsRefusal e read = IfSome (fault_of e) (λ f. read ≡ Err f)

abbrev pub Reads : {X Y : Type 0} → (X → Y) → Result X RoomError → Result Y Fault → Type 0
Reads view (Ok x) read = read ≡ Ok (view x)
Reads view (Err e) read = IsRefusal e read
