-- What a room is, and which names and addresses it takes.
use Rattle.std.specs.Prelude.{◌≡◌, ◌≢◌, ℕ, ◌+◌, ◌*◌, ◌-◌, ◌^◌, ◌<◌, ◌≤◌, min, Bool, true, false, not, ◌&&◌, ◌||◌, ◌==◌, nat_le, nat_lt, if◌then◌else◌, List, [], ◌∷◌, length, map, string_bytes}
use Rattle.std.specs.Char.{is_whitespace, is_control, is_ascii_digit, is_ascii_alphanumeric}
use Rattle.std.specs.List.{AllByRecursion, list_all}
use Rattle.std.specs.Str.{chars, bytes_eq}
use Rattle.hex.specs.Hex.{IsBytes, is_hex_digit}
use Rattle.srm_names.specs.declared.limits.TheConstants.{MEMBERS}
use Rattle.srm_room.specs.declared.room_member.RoomMember.{RoomMember}
use Rattle.srm_room.specs.declared.room_parts.RoomParts.{RoomParts}
use Rattle.srm_room.specs.declared.room_settings.RoomSettings.{RoomSettings}
use Rattle.srm_room.specs.declared.room_settings.TheConstants.{GREATEST_WAIT}

-- ---- names

-- no space, control character or '='
abbrev pub is_name_char : ℕ → Bool
is_name_char c = not (is_whitespace c) && not (is_control c) && not (c == 61)

-- 1 to 40 such characters, not all of them digits
abbrev pub is_name : List ℕ → Bool
is_name text =
    let letters = chars text in
    (nat_le 1 (length letters) && nat_le (length letters) 40) && list_all is_name_char letters && not (list_all is_ascii_digit letters)

-- ---- addresses

-- what stands for no port
abbrev pub no_port : ℕ
no_port = 65536

-- the number behind the last colon, one byte further: a colon begins a number, and what is neither a digit nor below 65536 is none
abbrev pub port_step : ℕ → ℕ → ℕ
port_step port b = if b == 58 then 0 else if is_ascii_digit b then min no_port (port * 10 + (b - 48)) else no_port

abbrev pub port_behind : ℕ → List ℕ → ℕ
port_behind port [] = port
port_behind port (b ∷ rest) = port_behind (port_step port b) rest

-- letters, digits, '-', '.' and '_' make a host's name, or an IPv4 address
abbrev pub is_host_byte : ℕ → Bool
is_host_byte b = is_ascii_alphanumeric b || b == 45 || b == 46 || b == 95

-- the rest of a host's name, a colon, and digits
abbrev pub is_host : List ℕ → Bool
is_host [] = false
is_host (b ∷ rest) = if b == 58 then list_all is_ascii_digit rest else is_host_byte b && is_host rest

-- hexadecimal digits, ':', '.' and '%' make an IPv6 address with its scope
abbrev pub is_ipv6_byte : ℕ → Bool
is_ipv6_byte b = is_hex_digit b || b == 58 || b == 46 || b == 37

-- a colon and digits
abbrev pub is_port_text : List ℕ → Bool
is_port_text [] = false
is_port_text (b ∷ rest) = b == 58 && list_all is_ascii_digit rest

-- the rest of an IPv6 address, ']', a colon, and digits
abbrev pub is_bracketed : List ℕ → Bool
is_bracketed [] = false
is_bracketed (b ∷ rest) = if b == 93 then is_port_text rest else is_ipv6_byte b && is_bracketed rest

-- '[IPv6]:port', 'IPv4:port' or 'host:port'
abbrev pub has_form : List ℕ → Bool
has_form [] = false
has_form (b ∷ rest) = if b == 91 then is_bracketed rest else is_host_byte b && is_host rest

-- of one of these forms, with a port from 1 to 65535
abbrev pub is_address : List ℕ → Bool
is_address text = has_form text && (nat_le 1 (port_behind no_port text) && nat_lt (port_behind no_port text) no_port)

-- ---- rooms

-- a member, as bytes of UTF-8
pub record Person : Type 0 where
  pub name : List ℕ
  pub address : List ℕ

abbrev pub person_of : List ℕ → List ℕ → Person
person_of name address = record { name = name; address = address }

abbrev pub person : RoomMember → Person
person m = person_of (string_bytes m.name) (string_bytes m.address)

-- what a room says
pub record Content : Type 0 where
  pub session : ℕ
  pub key : List ℕ
  pub people : List Person
  pub settings : RoomSettings

abbrev pub content : ℕ → List ℕ → List RoomMember → RoomSettings → Content
content session key members settings = record { session = session; key = key; people = map person members; settings = settings }

abbrev pub content_of : RoomParts → Content
content_of p = content p.session p.key.items p.members.items p.settings

-- a number from the least to the greatest
abbrev pub IsFrom : ℕ → ℕ → ℕ → Type 0
IsFrom least greatest n = (least ≤ n) × (n ≤ greatest)

pub record AreSettings (s : RoomSettings) : Type 0 where
  pub c1 : s.c1 ≤ GREATEST_WAIT
  pub c2 : s.c2 ≤ GREATEST_WAIT
  pub d1 : s.d1 ≤ GREATEST_WAIT
  pub d2 : s.d2 ≤ GREATEST_WAIT
  pub least_distance : IsFrom 1 10000000 s.least_distance
  pub rate : IsFrom 1 100000000 s.rate
  pub depth : IsFrom 1051 1000000 s.depth
  pub linger : s.linger ≤ 30000000
  pub most_missing : IsFrom 1 16777216 s.most_missing

-- one has the name, or the address
abbrev pub has_name : List Person → List ℕ → Bool
has_name [] name = false
has_name (p ∷ ps) name = bytes_eq p.name name || has_name ps name

abbrev pub has_address : List Person → List ℕ → Bool
has_address [] address = false
has_address (p ∷ ps) address = bytes_eq p.address address || has_address ps address

-- a name and an address as they may be
pub record IsPerson (p : Person) : Type 0 where
  pub named : is_name p.name ≡ true
  pub reached : is_address p.address ≡ true

pub record Differ (p q : Person) : Type 0 where
  pub names : p.name ≢ q.name
  pub addresses : p.address ≢ q.address

-- no two have the name or the address in common
abbrev pub AreApart : List Person → Type 0
AreApart [] = Unit {0}
AreApart (p ∷ ps) = AllByRecursion (Differ p) ps × AreApart ps

-- 1 to 32 members with distinct names and distinct addresses
pub record ArePeople (ps : List Person) : Type 0 where
  pub count : IsFrom 1 MEMBERS (length ps)
  pub each : AllByRecursion IsPerson ps
  pub apart : AreApart ps

-- a room has a session, a key, 1 to 32 members and settings in their ranges
pub record IsRoom (r : Content) : Type 0 where
  pub session : r.session < 2 ^ 32
  pub key_bytes : IsBytes r.key
  pub key_length : IsFrom 16 1024 (length r.key)
  pub people : ArePeople r.people
  pub settings : AreSettings r.settings
