-- What a call does to what the handle of a room or of a seal holds, which code it answers, and what it writes.
use Rattle.std.specs.Prelude.{◌≡◌, ◌⊎◌, ◌<◌, ◌≤◌, ℕ, nat_le, if◌then◌else◌, List, length, drop, Option, Some, None, Result, Ok, Err}
use Rattle.srm_room.specs.Rooms.{Content}
use Rattle.srm_room.specs.Places.{member_of}
use Rattle.srm_guard.specs.Seals.{SealView, Opens}
use Rattle.srm_guard.specs.declared.seal.Opened.{Opened}
use Rattle.srm_guard.specs.declared.seal.Opened.TheVariants as opened
use Rattle.srm_seat.specs.Calls.{laid_over}
use Rattle.srm_join.specs.Joining.{SealsIn, address_at, config_in, name_at}
use Rattle.srm_join.specs.Reading.{ReadsText}
use Rattle.srm_join.specs.Sealing.{SealsBy, SealsInto}
use Rattle.srm_join.specs.declared.refusal.Refusal.{Refusal}
use Rattle.srm_join.specs.declared.sealing.SealFault.{SealFault}
use Rattle.srm_join.specs.declared.sealing.Sealed.{Sealed}
use Rattle.srm_join.specs.declared.sealing.Sealed.TheVariants as sealed
use Rattle.srm_ffi.specs.declared.codes.TheConstants.{AGAIN, COUNTERS, DONE, EMPTY, FAULT, FULL, MEMBER, OLDER, BUFFER, UNTAGGED}
use Rattle.srm_ffi.specs.declared.shapes.RawConfig.{RawConfig}
use Rattle.srm_ffi.specs.declared.shapes.RawRoomFault.{RawRoomFault}
use Rattle.srm_ffi.specs.Codes.{refusal_kind, seal_fault_number}
use Rattle.srm_ffi.specs.Shapes.{with_config}

-- ---- what holds of all

-- this is answered, and the handle holds what it held
abbrev pub Refuses : {A : Type 0} → ℕ → ℕ → Option A → Option A → Type 0
Refuses why code old new = (code ≡ why) × (new ≡ old)

-- what the handle holds goes on by this step; or it is and was empty, and this holds
abbrev pub OnHeld : {A : Type 0} → (A → A → Type 0) → Type 0 → Option A → Option A → Type 0
OnHeld step empty (Some old) (Some new) = step old new
OnHeld step empty None None = empty
OnHeld step empty (Some old) None = ⊥
OnHeld step empty None (Some new) = ⊥

-- it stays, and this is told of it; or the handle is empty, and this holds
abbrev pub Asks : {A : Type 0} → (A → Type 0) → Type 0 → Option A → Option A → Type 0
Asks told empty = OnHeld (λ old new. (new ≡ old) × told old) empty

-- ---- reading a room

-- A fault is told by its number, with its words in front of the room for them; that memory ran out, also for the words, is told by its code, and nothing is written.
abbrev pub TellsFault : Option ℕ → ℕ → List ℕ → List ℕ → RawRoomFault → RawRoomFault → Type 0
TellsFault (Some kind) code words filled before after =
    ((code ≡ FAULT) × (after.kind ≡ kind) × (after.length ≤ length words) × (drop after.length filled ≡ drop after.length words)) ⊎ ((code ≡ 6) × (filled ≡ words) × (after ≡ before))
TellsFault None code words filled before after = (code ≡ 6) × (filled ≡ words) × (after ≡ before)

-- The room that the text says is in a handle that held none. Or the text is refused, and what is wrong with it is told; or there is no memory for the room.
abbrev pub ReadCall : List ℕ → ℕ → List ℕ → List ℕ → RawRoomFault → RawRoomFault → Option Content → Option Content → Type 0
ReadCall text code words filled before after None (Some room) = (code ≡ DONE) × ReadsText text (Ok room) × (filled ≡ words) × (after ≡ before)
ReadCall text code words filled before after None None = (refusal : Refusal) × ReadsText text (Err refusal) × TellsFault (refusal_kind refusal) code words filled before after
ReadCall text code words filled before after (Some old) new = Refuses FULL code (Some old) new × (filled ≡ words) × (after ≡ before)

-- ---- what is told of a room, which stays

-- a number of the room; 0 where there is none
abbrev pub NumberCall : (Content → ℕ) → ℕ → Option Content → Option Content → Type 0
NumberCall number told = Asks (λ room. told ≡ number room) (told ≡ 0)

abbrev pub member_count : Content → ℕ
member_count room = length room.people

abbrev pub linger_of : Content → ℕ
linger_of room = room.settings.linger

abbrev pub most_missing_of : Content → ℕ
most_missing_of room = room.settings.most_missing

-- the place of a member, or that there is none
abbrev pub TellsMember : Option ℕ → ℕ → ℕ → ℕ → Type 0
TellsMember (Some place) code before after = (code ≡ DONE) × (after ≡ place)
TellsMember None code before after = (code ≡ MEMBER) × (after ≡ before)

abbrev pub FindCall : List ℕ → ℕ → ℕ → ℕ → Option Content → Option Content → Type 0
FindCall me code before after = Asks (λ room. TellsMember (member_of room.people me) code before after) ((code ≡ EMPTY) × (after ≡ before))

-- a text over a buffer with its length; where it doesn't fit its length alone; or that there is none
abbrev pub TellsText : Option (List ℕ) → ℕ → List ℕ → List ℕ → ℕ → ℕ → Type 0
TellsText (Some text) code buffer filled before after =
    (code ≡ if nat_le (length text) (length buffer) then DONE else BUFFER) × (filled ≡ laid_over text buffer) × (after ≡ length text)
TellsText None code buffer filled before after = (code ≡ MEMBER) × (filled ≡ buffer) × (after ≡ before)

abbrev pub NameCall : ℕ → ℕ → List ℕ → List ℕ → ℕ → ℕ → Option Content → Option Content → Type 0
NameCall place code buffer filled before after = Asks (λ room. TellsText (name_at room.people place) code buffer filled before after) ((code ≡ EMPTY) × (filled ≡ buffer) × (after ≡ before))

abbrev pub AddressCall : ℕ → ℕ → List ℕ → List ℕ → ℕ → ℕ → Option Content → Option Content → Type 0
AddressCall place code buffer filled before after = Asks (λ room. TellsText (address_at room.people place) code buffer filled before after) ((code ≡ EMPTY) × (filled ≡ buffer) × (after ≡ before))

-- the settings of a member's agent, or that the room has no such member
abbrev pub TellsConfig : Content → ℕ → ℕ → RawConfig → RawConfig → Type 0
TellsConfig room me code before after =
    ((me < length room.people) × (code ≡ DONE) × (after ≡ with_config (config_in room me) before)) ⊎ ((length room.people ≤ me) × (code ≡ MEMBER) × (after ≡ before))

abbrev pub ConfigCall : ℕ → ℕ → RawConfig → RawConfig → Option Content → Option Content → Type 0
ConfigCall me code before after = Asks (λ room. TellsConfig room me code before after) ((code ≡ EMPTY) × (after ≡ before))

-- ---- seals

-- a seal is in a handle that held none; or there is none, and the code says why
abbrev pub MakesSeal : (Result SealView SealFault → Type 0) → ℕ → Option SealView → Option SealView → Type 0
MakesSeal by code None (Some seal) = (code ≡ DONE) × by (Ok seal)
MakesSeal by code None None = (fault : SealFault) × by (Err fault) × (code ≡ seal_fault_number fault)
MakesSeal by code (Some old) new = Refuses FULL code (Some old) new

abbrev pub SealByCall : List ℕ → ℕ → ℕ → ℕ → Option SealView → Option SealView → Type 0
SealByCall key me start code old new = MakesSeal (SealsBy key me start) code old new

-- by the room in a handle, which stays
abbrev pub SealInCall : ℕ → ℕ → ℕ → Option SealView → Option SealView → Option Content → Option Content → Type 0
SealInCall me start code old new = Asks (λ room. MakesSeal (SealsIn room me start) code old new) (Refuses EMPTY code old new)

-- what became of a datagram that was to be sealed
abbrev pub TellsSealed : Sealed → ℕ → ℕ → ℕ → Type 0
TellsSealed (sealed.Done n) code before after = (code ≡ DONE) × (after ≡ n)
TellsSealed (sealed.Short n) code before after = (code ≡ BUFFER) × (after ≡ n)
TellsSealed sealed.UsedUp code before after = (code ≡ COUNTERS) × (after ≡ before)

abbrev pub SealCall : ℕ → List ℕ → ℕ → List ℕ → List ℕ → ℕ → ℕ → Option SealView → Option SealView → Type 0
SealCall to datagram code buffer filled before after =
    OnHeld (λ old new. (answer : Sealed) × SealsInto to datagram buffer filled answer old new × TellsSealed answer code before after) ((code ≡ EMPTY) × (filled ≡ buffer) × (after ≡ before))

-- how many bytes of what came are a datagram; or why they are none that is to be heard
abbrev pub TellsOpened : Opened → ℕ → ℕ → ℕ → Type 0
TellsOpened (opened.Datagram count) code before after = (code ≡ DONE) × (after ≡ count)
TellsOpened opened.Foreign code before after = (code ≡ UNTAGGED) × (after ≡ before)
TellsOpened opened.Older code before after = (code ≡ OLDER) × (after ≡ before)
TellsOpened opened.Again code before after = (code ≡ AGAIN) × (after ≡ before)

abbrev pub OpenCall : List ℕ → ℕ → ℕ → ℕ → Option SealView → Option SealView → Type 0
OpenCall bytes code before after = OnHeld (λ old new. (answer : Opened) × Opens answer bytes old new × TellsOpened answer code before after) ((code ≡ EMPTY) × (after ≡ before))
