-- Which datagram bytes spell, or the first fault in the order in which the fields are judged.
use Rattle.std.specs.Prelude.{ℕ, zero, suc, ◌==◌, nat_lt, nat_le, Bool, true, not, ◌&&◌, ◌||◌, List, [], ◌∷◌, length, take, drop, Option, Some, None, Result, Ok, Err, if◌then◌else◌}
use Rattle.std.specs.List.{list_all}
use Rattle.std.specs.Int.{Width, w8, w16, w32, w64, byte_len, from_be_bytes}
use Rattle.srm_names.specs.declared.limits.TheConstants.{MEMBERS, DRAWOPS, LONGEST_BODY, LATEST_MOMENT}
use Rattle.srm_names.specs.declared.page.Page.{Page}
use Rattle.srm_names.specs.declared.stream.Stream.{Stream}
use Rattle.srm_names.specs.declared.drawop.Drawop.{Drawop}
use Rattle.srm_names.specs.declared.echo.Echo.{Echo}
use Rattle.srm_names.specs.FullName.{FullName}
use Rattle.srm_names.specs.Names.{stream_below}
use Rattle.srm_codec.specs.Spelling.{asked_by}
use Rattle.srm_codec.specs.declared.format.TheConstants.{MAGIC, PLAIN, PACKED, DATA, REQUEST, REPAIR, SESSION_MESSAGE}
use Rattle.srm_codec.specs.declared.datagram.Datagram.{Datagram}
use Rattle.srm_codec.specs.declared.datagram.Datagram.TheVariants.{Data, Request, Repair, Session}
use Rattle.srm_codec.specs.declared.fault.DecodeFault.{DecodeFault}
use Rattle.srm_codec.specs.declared.fault.DecodeFault.TheVariants.{Short, Magic, Version, Kind, Member, Number, Length, Order, Flags, Source}
use Rattle.srm_codec.specs.declared.fault.DecodeFault.TheVariants as faults

infixl 10 ◌>>=◌
abbrev pub ◌>>=◌ : {A B : Type 0} → Result A DecodeFault → (A → Result B DecodeFault) → Result B DecodeFault
(Ok x) >>= f = f x
(Err e) >>= f = Err e

-- a value, and the bytes after it
abbrev pub Read : Type 0 → Type 0
Read A = Result (A × List ℕ) DecodeFault

abbrev pub check : {A : Type 0} → Bool → DecodeFault → A → Result A DecodeFault
check good fault x = if good then Ok x else Err fault

-- this many bytes
unfoldable pub prefix_at : ℕ → List ℕ → Read (List ℕ)
prefix_at n bytes = if nat_lt (length bytes) n then Err Short else Ok (take n bytes, drop n bytes)

-- a number of this width
abbrev pub number_at : Width → List ℕ → Read ℕ
number_at w bytes = do
  prefix ← prefix_at (byte_len w) bytes
  Ok (from_be_bytes w prefix.0, prefix.1)

-- a number that passes a test
abbrev pub judged : Width → (ℕ → Bool) → DecodeFault → List ℕ → Read ℕ
judged w good fault bytes = do
  n ← number_at w bytes
  check (good n.0) fault n

unfoldable pub magic_at : List ℕ → Read ℕ
magic_at bytes = judged w16 (λ n. n == MAGIC) Magic bytes

unfoldable pub version_at : List ℕ → Read ℕ
version_at bytes = judged w8 (λ n. (n == PLAIN) || (n == PACKED)) Version bytes

-- the packed version has requests alone
abbrev pub is_kind : ℕ → ℕ → Bool
is_kind version kind = (kind == REQUEST) || (version == PLAIN) && nat_le DATA kind && nat_le kind SESSION_MESSAGE

unfoldable pub kind_at : ℕ → List ℕ → Read ℕ
kind_at version bytes = judged w8 (is_kind version) Kind bytes

unfoldable pub session_at : ℕ → List ℕ → Read ℕ
session_at session bytes = judged w32 (λ n. n == session) faults.Session bytes

unfoldable pub member_at : List ℕ → Read ℕ
member_at bytes = judged w8 (λ n. nat_lt n MEMBERS) Member bytes

unfoldable pub moment_at : List ℕ → Read ℕ
moment_at bytes = judged w64 (λ n. nat_le n LATEST_MOMENT) Number bytes

unfoldable pub page_at : List ℕ → Read Page
page_at bytes = do
  creator ← member_at bytes
  number ← number_at w16 creator.1
  Ok (record { creator = creator.0; number = number.0 }, number.1)

-- a source, which where one is wanted is that one
abbrev pub is_wanted : Option ℕ → ℕ → Bool
is_wanted None source = true
is_wanted (Some wanted) source = source == wanted

unfoldable pub source_at : Option ℕ → List ℕ → Read ℕ
source_at wanted bytes = do
  source ← member_at bytes
  check (is_wanted wanted source.0) Source source

-- a stream that is above the last one, where there is one
abbrev pub is_above : Option FullName → Stream → Bool
is_above None stream = true
is_above (Some row) stream = stream_below row.stream stream

unfoldable pub any_stream_at : Option ℕ → List ℕ → Read Stream
any_stream_at wanted bytes = do
  source ← source_at wanted bytes
  page ← page_at source.1
  Ok (record { source = source.0; page = page.0 }, page.1)

unfoldable pub stream_at : Option ℕ → Option FullName → List ℕ → Read Stream
stream_at wanted last bytes = do
  stream ← any_stream_at wanted bytes
  check (is_above last stream.0) Order stream

unfoldable pub number_in_stream_at : List ℕ → Read ℕ
number_in_stream_at bytes = judged w32 (λ n. nat_le 1 n && nat_le n DRAWOPS) Number bytes

unfoldable pub name_at : Option ℕ → Option FullName → List ℕ → Read FullName
name_at wanted last bytes = do
  stream ← stream_at wanted last bytes
  number ← number_in_stream_at stream.1
  Ok (record { stream = stream.0; number = number.0 }, number.1)

unfoldable pub size_at : List ℕ → Read ℕ
size_at bytes = judged w16 (λ n. nat_le n LONGEST_BODY) Length bytes

unfoldable pub body_at : List ℕ → Read (List ℕ)
body_at bytes = do
  size ← size_at bytes
  prefix_at size.0 size.1

unfoldable pub drawop_at : Option ℕ → List ℕ → Read Drawop
drawop_at wanted bytes = do
  name ← name_at wanted None bytes
  stamp ← moment_at name.1
  body ← body_at stamp.1
  Ok (record { name = name.0; stamp = stamp.0; body = body.0 }, body.1)

-- a mask that names no number past the limit, and at least one
unfoldable pub mask_at : FullName → List ℕ → Read ℕ
mask_at name bytes = judged w32 (λ mask. not (mask == 0) && list_all (λ n. nat_le n.number DRAWOPS) (asked_by name mask)) Number bytes

unfoldable pub flag_at : List ℕ → Read Bool
flag_at bytes = do
  flags ← judged w8 (λ n. nat_le n 1) Flags bytes
  Ok (flags.0 == 1, flags.1)

-- a member above that of the last echo, where there is one
abbrev pub is_later_echo : Option Echo → ℕ → Bool
is_later_echo None member = true
is_later_echo (Some echo) member = nat_lt echo.member member

unfoldable pub echo_member_at : Option Echo → List ℕ → Read ℕ
echo_member_at last bytes = do
  member ← member_at bytes
  check (is_later_echo last member.0) Order member

unfoldable pub echo_at : Option Echo → List ℕ → Read Echo
echo_at last bytes = do
  member ← echo_member_at last bytes
  t1 ← moment_at member.1
  delay ← moment_at t1.1
  Ok (record { member = member.0; t1 = t1.0; delay = delay.0 }, delay.1)

-- this many values, each read with the one before it
unfoldable pub items_at : {X : Type 0} → (Option X → List ℕ → Read X) → ℕ → Option X → List ℕ → Read (List X)
items_at item zero last bytes = Ok ([], bytes)
items_at item (suc n) last bytes = do
  x ← item last bytes
  xs ← items_at item n (Some x.0) x.1
  Ok (x.0 ∷ xs.0, xs.1)

-- values behind their count
unfoldable pub list_at : {X : Type 0} → (Option X → List ℕ → Read X) → List ℕ → Read (List X)
list_at item bytes = do
  count ← number_at w8 bytes
  items_at item count.0 None count.1

-- nothing after the last field
abbrev pub nothing_after : {A : Type 0} → A × List ℕ → Result A DecodeFault
nothing_after read = check (length read.1 == 0) Length read.0

-- a drawop, and nothing more
unfoldable pub only_drawop : Option ℕ → List ℕ → Result Drawop DecodeFault
only_drawop wanted bytes = do
  drawop ← drawop_at wanted bytes
  nothing_after drawop

unfoldable pub data_of : ℕ → List ℕ → Result Datagram DecodeFault
data_of sender bytes = do
  drawop ← only_drawop (Some sender) bytes
  Ok (Data drawop)

unfoldable pub request_of : ℕ → List ℕ → Result Datagram DecodeFault
request_of sender bytes = do
  name ← name_at None None bytes
  nothing_after (Request sender name.0 0, name.1)

unfoldable pub packed_of : ℕ → List ℕ → Result Datagram DecodeFault
packed_of sender bytes = do
  name ← name_at None None bytes
  mask ← mask_at name.0 name.1
  nothing_after (Request sender name.0 mask.0, mask.1)

unfoldable pub repair_of : ℕ → List ℕ → Result Datagram DecodeFault
repair_of sender bytes = do
  drawop ← only_drawop None bytes
  Ok (Repair sender drawop)

unfoldable pub session_of : ℕ → List ℕ → Result Datagram DecodeFault
session_of sender bytes = do
  sent ← moment_at bytes
  farewell ← flag_at sent.1
  shown ← page_at farewell.1
  rows ← list_at (name_at (if farewell.0 then Some sender else None)) shown.1
  echoes ← list_at echo_at rows.1
  nothing_after (Session sender sent.0 farewell.0 shown.0 rows.0 echoes.0, echoes.1)

-- what stands behind the head
unfoldable pub contents_of : ℕ → ℕ → ℕ → List ℕ → Result Datagram DecodeFault
contents_of version kind sender bytes =
    if kind == DATA then data_of sender bytes
    else if kind == REQUEST then (if version == PLAIN then request_of sender bytes else packed_of sender bytes)
    else if kind == REPAIR then repair_of sender bytes
    else session_of sender bytes

-- the datagram that the bytes spell for a session, or their first fault
unfoldable pub judge : ℕ → List ℕ → Result Datagram DecodeFault
judge session bytes = do
  magic ← magic_at bytes
  version ← version_at magic.1
  kind ← kind_at version.0 version.1
  number ← session_at session kind.1
  sender ← member_at number.1
  contents_of version.0 kind.0 sender.0 sender.1
