-- What came to a socket and waits to be received.
use Rattle.std.specs.Prelude.{◌≡◌, ◌⊎◌, ◌≤◌, ◌==◌, ◌&&◌, ℕ, get_or, slice_get, if◌then◌else◌, Bool, true, false, List, [], ◌∷◌, ◌++◌, length, take, Option, Some, None, IfSome}
use Rattle.std.specs.Net.Socket.{socket_ip, socket_port}
use Rattle.std.specs.declared.net.socket_addr.SocketAddr.{SocketAddr}
use Rattle.srm_wire.specs.Wires.{one_more}
use Rattle.srm_wire.specs.declared.counts.Dropped.{Dropped as DroppedByCause}
use Rattle.srm_wire.specs.Counts.{no_drops}
use Rattle.srm_wire.specs.declared.loss.Loss.{Loss}
use Rattle.srm_udp.specs.declared.dropped.Dropped.{Dropped}
use Rattle.srm_udp.specs.declared.inbox.Told.{Told}
use Rattle.srm_udp.specs.declared.inbox.Told.TheVariants.{Datagram, Dropped as WasDropped, Nothing, Failed}
use Rattle.srm_udp.specs.declared.inbox.Next.{Next}
use Rattle.srm_udp.specs.declared.inbox.Next.TheVariants.{Datagram as ADatagram, Failed as AFailure}
use Rattle.srm_udp.specs.Losses.{with_error}
use Rattle.srm_udp.specs.Posts.{Post, post}
use Rattle.srm_udp.specs.Waiting.{IsFull, Takes}

-- The members' addresses, whether datagrams from elsewhere are dropped, all datagrams and all errors that the socket's calls returned, the datagrams that wait, each oldest first, how many were dropped, and the error that the system told
-- and no receive answered yet. An error is a loss of some kind, or a failure.
pub record InboxView : Type 0 where
  pub roster : List SocketAddr
  pub only_roster : Bool
  pub came : List Post
  pub errors : List (Option Loss)
  pub waiting : List (List ℕ)
  pub dropped : Dropped
  pub pending : Option (Option Loss)

-- nothing was dropped yet
abbrev pub none_dropped : Dropped
none_dropped = record { strangers = 0; misnamed = 0; overflowed = 0 }

-- one more was dropped
abbrev pub one_stranger : Dropped → Dropped
one_stranger d = record d { strangers = one_more d.strangers }

abbrev pub one_misnamed : Dropped → Dropped
one_misnamed d = record d { misnamed = one_more d.misnamed }

abbrev pub one_overflowed : Dropped → Dropped
one_overflowed d = record d { overflowed = one_more d.overflowed }

-- these with no datagram dropped for another cause
abbrev pub by_cause : Dropped → DroppedByCause
by_cause d = record no_drops { strangers = d.strangers; misnamed = d.misnamed; overflowed = d.overflowed }

-- no datagram waits or was dropped yet
abbrev pub new_inbox : List SocketAddr → InboxView
new_inbox roster = record { roster = roster; only_roster = false; came = []; errors = []; waiting = []; dropped = none_dropped; pending = None }

-- the inbox once its error was answered
abbrev pub without_error : InboxView → InboxView
without_error b = record b { pending = None }

-- the inbox with these datagrams waiting
abbrev pub with_waiting : List (List ℕ) → InboxView → InboxView
with_waiting waiting b = record b { waiting = waiting }

-- two addresses have one IP address and one port
abbrev pub SamePlace : SocketAddr → SocketAddr → Type 0
SamePlace one other = (socket_ip one ≡ socket_ip other) × (socket_port one ≡ socket_port other)

-- an origin is the address of a member
abbrev pub IsOfRoster : List SocketAddr → SocketAddr → Type 0
IsOfRoster [] origin = ⊥
IsOfRoster (address ∷ more) origin = SamePlace address origin ⊎ IsOfRoster more origin

-- a datagram that came, as the system tells of it
pub record Arrival : Type 0 where
  pub origin : SocketAddr
  pub bytes : List ℕ

-- a call of the socket returned it besides
abbrev pub heard : Arrival → InboxView → InboxView
heard a b = record b { came = b.came ++ post a.origin a.bytes ∷ [] }

-- a call of the socket returned this error besides
abbrev pub returned_error : Option Loss → InboxView → InboxView
returned_error error b = record b { errors = b.errors ++ error ∷ [] }

-- and no receive answered it yet
abbrev pub pending_error : Option Loss → InboxView → InboxView
pending_error error b = record (returned_error error b) { pending = Some error }

-- If receives answered these errors so far, then the socket's calls returned them, in this order, and behind them the one that is pending, if there is one, and no others.
abbrev pub HidesNone : List (Option Loss) → InboxView → Type 0
HidesNone answered b = b.errors ≡ with_error b.pending answered

-- the inbox keeps to the roster, and this isn't the address of a member
abbrev pub IsStrange : SocketAddr → InboxView → Type 0
IsStrange origin b = (b.only_roster ≡ true) × (IsOfRoster b.roster origin → ⊥)

-- The member that bytes name as their sender: the ninth byte of what begins as each datagram does, with `SR`. Anything else names none.
abbrev pub named_sender : List ℕ → Option ℕ
named_sender bytes = if get_or bytes 0 0 == 83 && get_or bytes 1 0 == 82 then slice_get bytes 8 else None

-- the origin is the address of the sender, if one is named
abbrev pub IsAddressOf : List SocketAddr → Option ℕ → SocketAddr → Type 0
IsAddressOf roster None origin = Unit {0}
IsAddressOf roster (Some sender) origin = (address : SocketAddr) × (slice_get roster sender ≡ Some address) × SamePlace address origin

-- if the inbox keeps to the roster, this came from the address of the sender that it names
abbrev pub IsFromSender : Arrival → InboxView → Type 0
IsFromSender a b = b.only_roster ≡ true → IsAddressOf b.roster (named_sender a.bytes) a.origin

-- bytes came from the address of a member, and of their sender, if they name one
abbrev pub IsFromMember : List SocketAddr → SocketAddr → List ℕ → Type 0
IsFromMember roster origin bytes = IsOfRoster roster origin × IsAddressOf roster (named_sender bytes) origin

-- A datagram came. A stranger's is dropped and counted, and so is one that names another sender than the member of its origin. Any other waits behind all that wait,
-- unless there may be no room, which is counted.
abbrev pub Arrives : Arrival → InboxView → InboxView → Type 0
Arrives a old new = (IsStrange a.origin old × (new ≡ record old { dropped = one_stranger old.dropped }))
    ⊎ ((IsStrange a.origin old → ⊥) × (((IsFromSender a old → ⊥) × (new ≡ record old { dropped = one_misnamed old.dropped }))
    ⊎ (IsFromSender a old × ((new ≡ with_waiting (old.waiting ++ a.bytes ∷ []) old) ⊎ (IsFull old.waiting a.bytes × (new ≡ record old { dropped = one_overflowed old.dropped }))))))

-- the socket's calls returned these, one after another, and each came
abbrev pub ArriveEach : List Arrival → InboxView → InboxView → Type 0
ArriveEach [] old new = new ≡ old
ArriveEach (a ∷ more) old new = (between : InboxView) × Arrives a (heard a old) between × ArriveEach more between new

-- what came is neither a stranger's nor misnamed
abbrev pub IsAdmitted : Arrival → InboxView → Type 0
IsAdmitted a b = (IsStrange a.origin b → ⊥) × IsFromSender a b

-- a datagram came and was dropped, and nothing else waits than before
abbrev pub IsDropped : Arrival → InboxView → InboxView → Type 0
IsDropped a old new = Arrives a old new × (new.waiting ≡ old.waiting)

-- What one call of the system tells, with what is in the room then: a datagram that is to be heard, one that is dropped, that nothing is there, or the error that it returned.
abbrev pub TakesOne : List ℕ → Told → InboxView → InboxView → Type 0
TakesOne room (Datagram count) old new = (count ≤ length room) × (a : Arrival) × (a.bytes ≡ take count room) × IsAdmitted a old × (new ≡ heard a old)
TakesOne room WasDropped old new = (a : Arrival) × IsDropped a (heard a old) new
TakesOne room Nothing old new = new ≡ old
TakesOne room (Failed error) old new = new ≡ returned_error error old

-- A datagram that is to be heard waits behind all that wait, unless there may be no room, which is counted.
abbrev pub Keeps : List ℕ → InboxView → InboxView → Type 0
Keeps bytes old new = (new ≡ with_waiting (old.waiting ++ bytes ∷ []) old) ⊎ (IsFull old.waiting bytes × (new ≡ record old { dropped = one_overflowed old.dropped }))

-- nothing else happened, or a call of the socket returned an error, which is pending now
abbrev pub MayFail : InboxView → InboxView → Type 0
MayFail old new = (new ≡ old) ⊎ ((error : Option Loss) × (new ≡ pending_error error old))

-- What lies in the socket is taken in: its calls returned so many datagrams, at most `most`, and behind them perhaps an error. While an error is pending nothing is.
pub record TakesIn (most : ℕ) (old new : InboxView) : Type 0 where
  pub arrivals : List Arrival
  pub few : length arrivals ≤ most
  pub between : InboxView
  pub came : ArriveEach arrivals old between
  pub then_error : MayFail between new
  pub waits : (error : Option Loss) → old.pending ≡ Some error → new ≡ old

-- What comes next: the error that is pending, or else the oldest datagram, cut to the buffer, or that nothing waits.
abbrev pub GivesNext : List ℕ → Next → InboxView → InboxView → Type 0
GivesNext buffer (AFailure error) old new = (old.pending ≡ Some error) × (new ≡ without_error old)
GivesNext buffer (ADatagram count) old new = (old.pending ≡ None) × Takes old.waiting buffer count new.waiting × (new ≡ with_waiting new.waiting old)

-- Up to 256 datagrams that lie in the socket may be taken in, and then this comes next.
abbrev pub BringsOne : List ℕ → Next → InboxView → InboxView → Type 0
BringsOne buffer next old new = (looked : InboxView) × TakesIn 256 old looked × GivesNext buffer next looked new

-- a datagram that comes next has its place in the buffer
abbrev pub NextFits : List ℕ → Next → Type 0
NextFits buffer (ADatagram count) = IfSome count (λ c. c ≤ length buffer)
NextFits buffer (AFailure error) = Unit {0}
