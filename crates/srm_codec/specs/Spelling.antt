-- What names datagrams, which datagrams have a spelling, and the one spelling of each.
use Rattle.std.specs.Prelude.{◌≡◌, ℕ, zero, suc, ◌+◌, ◌*◌, ◌^◌, ◌<◌, ◌≤◌, ◌/◌, ◌%◌, ◌==◌, Bool, true, false, List, [], ◌∷◌, ◌++◌, length, map, slice_index, if◌then◌else◌, Option, Some, None}
use Rattle.std.specs.List.{flat_map, AllByRecursion}
use Rattle.std.specs.Int.{w16, w32, w64, to_be_bytes}
use Rattle.srm_names.specs.declared.limits.TheConstants.{MEMBERS, PAGE_NUMBERS, DRAWOPS, LONGEST_BODY, LATEST_MOMENT}
use Rattle.srm_names.specs.declared.page.Page.{Page}
use Rattle.srm_names.specs.declared.drawop.Drawop.{Drawop}
use Rattle.srm_names.specs.declared.echo.Echo.{Echo}
use Rattle.srm_names.specs.FullName.{FullName}
use Rattle.srm_names.specs.Names.{named, ascending, stream_below, echo_below}
use Rattle.srm_codec.specs.declared.format.TheConstants.{MAGIC, PLAIN, PACKED, DATA, REQUEST, REPAIR, SESSION_MESSAGE, HEAD_BYTES, NAME_BYTES, MASK_BYTES, MASK_BITS, DRAWOP_BYTES, SESSION_MESSAGE_BYTES, ECHO_BYTES, LONGEST_LIST}
use Rattle.srm_codec.specs.declared.datagram.Datagram.{Datagram}
use Rattle.srm_codec.specs.declared.datagram.Datagram.TheVariants.{Data, Request, Repair, Session}

abbrev pub sender_of : Datagram → ℕ
sender_of (Data drawop) = drawop.name.stream.source
sender_of (Request sender name mask) = sender
sender_of (Repair sender drawop) = sender
sender_of (Session sender sent farewell shown rows echoes) = sender

abbrev pub is_session : Datagram → Bool
is_session (Session sender sent farewell shown rows echoes) = true
is_session _ = false

abbrev pub is_data : Datagram → Bool
is_data (Data drawop) = true
is_data _ = false

abbrev pub is_farewell : Datagram → Bool
is_farewell (Session sender sent farewell shown rows echoes) = farewell
is_farewell _ = false

-- the numbers of the bits that are set in a mask of this many bits, with 0 for the lowest
unfoldable pub bits_set : ℕ → ℕ → List ℕ
bits_set zero mask = []
bits_set (suc k) mask = (if mask % 2 == 1 then 0 ∷ [] else []) ++ map (λ bit. bit + 1) (bits_set k (mask / 2))

-- the names that a request asks for, in order
abbrev pub asked_by : FullName → ℕ → List FullName
asked_by name mask = name ∷ map (λ bit. named name.stream (name.number + 1 + bit)) (bits_set MASK_BITS mask)

-- the names that a datagram names, in order
abbrev pub names_in : Datagram → List FullName
names_in (Data drawop) = drawop.name ∷ []
names_in (Request sender name mask) = asked_by name mask
names_in (Repair sender drawop) = drawop.name ∷ []
names_in (Session sender sent farewell shown rows echoes) = rows

-- the name of what has one alone by its kind: of data and of a repair
abbrev pub sole_name : Datagram → Option FullName
sole_name (Data drawop) = Some drawop.name
sole_name (Repair sender drawop) = Some drawop.name
sole_name _ = None

-- what has a spelling
abbrev pub is_page : Page → Type 0
is_page p = (p.creator < MEMBERS) × (p.number < PAGE_NUMBERS)

abbrev pub is_name : FullName → Type 0
is_name n = (n.stream.source < MEMBERS) × is_page n.stream.page × (1 ≤ n.number) × (n.number ≤ DRAWOPS)

abbrev pub is_drawop : Drawop → Type 0
is_drawop d = is_name d.name × (d.stamp ≤ LATEST_MOMENT) × (length d.body ≤ LONGEST_BODY)

abbrev pub is_echo : Echo → Type 0
is_echo e = (e.member < MEMBERS) × (e.t1 ≤ LATEST_MOMENT) × (e.delay ≤ LATEST_MOMENT)

abbrev pub row_below : FullName → FullName → Bool
row_below a b = stream_below a.stream b.stream

-- rows rise by stream, and in a farewell the source of each is the sender
pub record AreRows (farewell : Bool) (sender : ℕ) (rows : List FullName) : Type 0 where
  pub few : length rows ≤ LONGEST_LIST
  pub names : AllByRecursion is_name rows
  pub rising : ascending row_below rows ≡ true
  pub sources : AllByRecursion (λ row. farewell ≡ true → row.stream.source ≡ sender) rows

-- echoes rise by member
pub record AreEchoes (echoes : List Echo) : Type 0 where
  pub few : length echoes ≤ LONGEST_LIST
  pub each : AllByRecursion is_echo echoes
  pub rising : ascending echo_below echoes ≡ true

abbrev pub IsSpellable : Datagram → Type 0
IsSpellable (Data drawop) = is_drawop drawop
IsSpellable (Request sender name mask) = (sender < MEMBERS) × (mask < 2 ^ MASK_BITS) × AllByRecursion is_name (asked_by name mask)
IsSpellable (Repair sender drawop) = (sender < MEMBERS) × is_drawop drawop
IsSpellable (Session sender sent farewell shown rows echoes) =
    (sender < MEMBERS) × (sent ≤ LATEST_MOMENT) × is_page shown × AreRows farewell sender rows × AreEchoes echoes

-- the fields
unfoldable pub head : ℕ → ℕ → ℕ → ℕ → List ℕ
head version kind session sender = to_be_bytes w16 MAGIC ++ version ∷ kind ∷ (to_be_bytes w32 session ++ sender ∷ [])

unfoldable pub page_bytes : Page → List ℕ
page_bytes p = p.creator ∷ to_be_bytes w16 p.number

unfoldable pub name_bytes : FullName → List ℕ
name_bytes n = n.stream.source ∷ (page_bytes n.stream.page ++ to_be_bytes w32 n.number)

unfoldable pub drawop_bytes : Drawop → List ℕ
drawop_bytes d = name_bytes d.name ++ to_be_bytes w64 d.stamp ++ to_be_bytes w16 (length d.body) ++ d.body

unfoldable pub echo_bytes : Echo → List ℕ
echo_bytes e = e.member ∷ (to_be_bytes w64 e.t1 ++ to_be_bytes w64 e.delay)

-- a request for one name is spelled plainly, one for several in version 2, with its mask
unfoldable pub request_bytes : ℕ → ℕ → FullName → ℕ → List ℕ
request_bytes session sender name mask =
    if mask == 0 then head PLAIN REQUEST session sender ++ name_bytes name
    else head PACKED REQUEST session sender ++ name_bytes name ++ to_be_bytes w32 mask

abbrev pub flag : Bool → ℕ
flag true = 1
flag false = 0

unfoldable pub spelling : ℕ → Datagram → List ℕ
spelling session (Data drawop) = head PLAIN DATA session drawop.name.stream.source ++ drawop_bytes drawop
spelling session (Request sender name mask) = request_bytes session sender name mask
spelling session (Repair sender drawop) = head PLAIN REPAIR session sender ++ drawop_bytes drawop
spelling session (Session sender sent farewell shown rows echoes) =
    head PLAIN SESSION_MESSAGE session sender ++ to_be_bytes w64 sent ++ flag farewell ∷ page_bytes shown
    ++ length rows ∷ flat_map name_bytes rows ++ length echoes ∷ flat_map echo_bytes echoes

-- each is a byte
abbrev pub AreBytes : List ℕ → Type 0
AreBytes bytes = (i : ℕ) → slice_index bytes i < 256

-- The bytes are the fields of the datagram for this session, and nothing after them.
pub record Spells (session : ℕ) (datagram : Datagram) (bytes : List ℕ) : Type 0 where
  pub spellable : IsSpellable datagram
  pub text : bytes ≡ spelling session datagram

-- how many bytes the spelling of a datagram has, in any session
abbrev pub length_of : Datagram → ℕ
length_of (Data drawop) = HEAD_BYTES + DRAWOP_BYTES + length drawop.body
length_of (Request sender name mask) = if mask == 0 then HEAD_BYTES + NAME_BYTES else HEAD_BYTES + NAME_BYTES + MASK_BYTES
length_of (Repair sender drawop) = HEAD_BYTES + DRAWOP_BYTES + length drawop.body
length_of (Session sender sent farewell shown rows echoes) = HEAD_BYTES + SESSION_MESSAGE_BYTES + NAME_BYTES * length rows + ECHO_BYTES * length echoes
