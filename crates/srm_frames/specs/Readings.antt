-- What is read of bytes, field by field. DecodeFault's variants only tell that nothing is read; which one it is tells nothing.
use Rattle.std.specs.Prelude.{◌≡◌, ℕ, ◌+◌, ◌==◌, nat_lt, nat_le, List, length, take, Option, Some, None, Result, Ok, Err, IsErr, if◌then◌else◌}
use Rattle.std.specs.Int.{w8, w32, w64}
use Rattle.srm_names.specs.declared.limits.TheConstants.{PAGES, LATEST_MOMENT}
use Rattle.srm_names.specs.declared.page_msg.PageMsg.{PageMsg}
use Rattle.srm_names.specs.declared.page_msg.PageMsg.TheVariants as messages
use Rattle.srm_codec.specs.declared.fault.DecodeFault.{DecodeFault}
use Rattle.srm_codec.specs.declared.fault.DecodeFault.TheVariants.{Length, Kind, Number}
use Rattle.srm_codec.specs.Judging.{◌>>=◌, Read, check, nothing_after, judged, prefix_at, number_at, member_at, moment_at, page_at, name_at}
use Rattle.srm_entries.specs.Configs.{Config}
use Rattle.srm_frames.specs.declared.format.TheConstants.{FRAME_HEAD_BYTES, DREW, HEARD, TICKED, SHOWED, ASKED_LEAVE, GAVE, TOOK, ENDED, OPEN, DRAW, LEFT, CLOSE}
use Rattle.srm_frames.specs.declared.beginning.Beginning.{Beginning}
use Rattle.srm_frames.specs.declared.line.Line.{Line}
use Rattle.srm_frames.specs.declared.line.Call.{Call}
use Rattle.srm_frames.specs.declared.line.Call.TheVariants.{Drew, Heard, Ticked, Showed, AskedLeave, Gave, Took, Ended}
use Rattle.srm_frames.specs.Checksums.{crc_32}

-- What is found, with these bytes left, is what reading gives; where nothing is, reading has a fault.
abbrev pub IsFound : {A : Type 0} → Option A → List ℕ → Read A → Type 0
IsFound (Some x) rest read = read ≡ Ok (x, rest)
IsFound None rest read = IsErr read

-- The same, of something that is seen by a view.
abbrev pub IsFoundBy : {A B : Type 0} → (A → B) → Option A → List ℕ → Read B → Type 0
IsFoundBy view (Some x) rest read = read ≡ Ok (view x, rest)
IsFoundBy view None rest read = IsErr read

-- The same, of something that is all that there is.
abbrev pub IsSeen : {A : Type 0} → Option A → Result A DecodeFault → Type 0
IsSeen (Some x) read = read ≡ Ok x
IsSeen None read = IsErr read

-- a frame's kind, its moment and its payload
pub record FrameParts : Type 0 where
  pub kind : ℕ
  pub moment : ℕ
  pub payload : List ℕ

abbrev pub parts : ℕ → ℕ → List ℕ → FrameParts
parts kind moment payload = record { kind = kind; moment = moment; payload = payload }

-- a frame, whose checksum is that of what stands before it
unfoldable pub frame_at : List ℕ → Read FrameParts
frame_at bytes = do
  kind ← number_at w8 bytes
  moment ← number_at w64 kind.1
  size ← number_at w32 moment.1
  payload ← prefix_at size.0 size.1
  checksum ← number_at w32 payload.1
  check (checksum.0 == crc_32 (take (FRAME_HEAD_BYTES + size.0) bytes)) Length (record { kind = kind.0; moment = moment.0; payload = payload.0 }, checksum.1)

-- a value, and nothing more
abbrev pub bare : {A : Type 0} → A → List ℕ → Result A DecodeFault
bare x bytes = check (length bytes == 0) Length x

unfoldable pub open_in : List ℕ → Result PageMsg DecodeFault
open_in bytes = do
  page ← page_at bytes
  nothing_after (messages.Open page.0, page.1)

unfoldable pub draw_in : List ℕ → Result PageMsg DecodeFault
draw_in bytes = do
  name ← name_at None None bytes
  stamp ← moment_at name.1
  Ok (messages.Draw (record { name = name.0; stamp = stamp.0; body = stamp.1 }))

unfoldable pub left_in : List ℕ → Result PageMsg DecodeFault
left_in bytes = do
  member ← member_at bytes
  nothing_after (messages.Left member.0, member.1)

abbrev pub message_behind : ℕ → List ℕ → Result PageMsg DecodeFault
message_behind kind bytes =
    if kind == OPEN then open_in bytes
    else if kind == DRAW then draw_in bytes
    else if kind == LEFT then left_in bytes
    else if kind == CLOSE then bare messages.Close bytes
    else Err Kind

-- a message
unfoldable pub message_in : List ℕ → Result PageMsg DecodeFault
message_in bytes = do
  kind ← number_at w8 bytes
  message_behind kind.0 kind.1

unfoldable pub slot_at : List ℕ → Read ℕ
slot_at bytes = judged w8 (λ n. nat_lt n PAGES) Number bytes

unfoldable pub drew_in : List ℕ → Result Call DecodeFault
drew_in bytes = do
  page ← page_at bytes
  Ok (Drew page.0 page.1)

unfoldable pub showed_in : List ℕ → Result Call DecodeFault
showed_in bytes = do
  page ← page_at bytes
  nothing_after (Showed page.0, page.1)

unfoldable pub gave_in : List ℕ → Result Call DecodeFault
gave_in bytes = do
  slot ← slot_at bytes
  nothing_after (Gave slot.0, slot.1)

unfoldable pub took_in : List ℕ → Result Call DecodeFault
took_in bytes = do
  slot ← slot_at bytes
  message ← message_in slot.1
  Ok (Took slot.0 message)

-- the call of a kind with this payload
unfoldable pub call_in : ℕ → List ℕ → Result Call DecodeFault
call_in kind payload =
    if kind == DREW then drew_in payload
    else if kind == HEARD then Ok (Heard payload)
    else if kind == TICKED then bare Ticked payload
    else if kind == SHOWED then showed_in payload
    else if kind == ASKED_LEAVE then bare AskedLeave payload
    else if kind == GAVE then gave_in payload
    else if kind == TOOK then took_in payload
    else if kind == ENDED then bare Ended payload
    else Err Kind

-- the line of a frame
unfoldable pub line_in : FrameParts → Result Line DecodeFault
line_in f = do
  call ← call_in f.kind f.payload
  check (nat_le f.moment LATEST_MOMENT) Number (record { moment = f.moment; call = call })

-- ---- how a member began, field by field, behind the version

unfoldable pub identity_at : List ℕ → Read (ℕ × ℕ × ℕ)
identity_at bytes = do
  me ← member_at bytes
  members ← number_at w8 me.1
  session ← number_at w32 members.1
  Ok ((me.0, members.0, session.0), session.1)

unfoldable pub limits_at : List ℕ → Read (ℕ × ℕ × ℕ)
limits_at bytes = do
  rate ← number_at w32 bytes
  depth ← number_at w32 rate.1
  least_distance ← number_at w32 depth.1
  Ok ((rate.0, depth.0, least_distance.0), least_distance.1)

unfoldable pub pair_at : List ℕ → Read (ℕ × ℕ)
pair_at bytes = do
  low ← number_at w8 bytes
  spread ← number_at w8 low.1
  Ok ((low.0, spread.0), spread.1)

unfoldable pub waits_at : List ℕ → Read ((ℕ × ℕ) × (ℕ × ℕ))
waits_at bytes = do
  requests ← pair_at bytes
  repairs ← pair_at requests.1
  Ok ((requests.0, repairs.0), repairs.1)

abbrev pub config_of : ℕ × ℕ × ℕ → ℕ × ℕ × ℕ → (ℕ × ℕ) × (ℕ × ℕ) → Config
config_of i l w = record { me = i.0; members = i.1; session = i.2; rate = l.0; depth = l.1; c1 = w.0.0; c2 = w.0.1; d1 = w.1.0; d2 = w.1.1; least_distance = l.2 }

-- settings, which may be out of their ranges
unfoldable pub config_at : List ℕ → Read Config
config_at bytes = do
  identity ← identity_at bytes
  limits ← limits_at identity.1
  waits ← waits_at limits.1
  Ok (config_of identity.0 limits.0 waits.0, waits.1)

unfoldable pub origin_at : List ℕ → Read (ℕ × ℕ × ℕ)
origin_at bytes = do
  seed ← number_at w64 bytes
  made ← moment_at seed.1
  wall ← number_at w64 made.1
  Ok ((seed.0, made.0, wall.0), wall.1)

abbrev pub beginning_of : Config → ℕ × ℕ × ℕ → Beginning
beginning_of c o = record { config = c; made = o.1; seed = o.0; wall = o.2 }

unfoldable pub fields_at : List ℕ → Read Beginning
fields_at bytes = do
  config ← config_at bytes
  origin ← origin_at config.1
  Ok (beginning_of config.0 origin.0, origin.1)
