-- What contracts see of a wire over UDP.
use Rattle.std.specs.Prelude.{◌≡◌, ◌⊎◌, ◌≤◌, ℕ, Bool, true, false, List, [], ◌∷◌, ◌++◌, length, slice_get, take, Option, Some, None, is_none, Result, Ok, Err}
use Rattle.std.specs.declared.io.Error.{Error}
use Rattle.std.specs.declared.net.socket_addr.SocketAddr.{SocketAddr}
use Rattle.srm_wire.specs.declared.sent.Sent.{Sent}
use Rattle.srm_wire.specs.declared.counts.WireCounts.{WireCounts}
use Rattle.srm_wire.specs.Wires.{one_more, answered_with, none_there, it_failed}
use Rattle.srm_wire.specs.declared.loss.Loss.{Loss}
use Rattle.srm_wire.specs.declared.loss.Losses.{Losses}
use Rattle.srm_udp.specs.Inboxes.{InboxView, HidesNone, TakesIn, by_cause, new_inbox, with_waiting, without_error}
use Rattle.srm_wire.specs.Counts.{no_losses, with_loss}
use Rattle.srm_udp.specs.Losses.{send_error, with_error}
use Rattle.srm_udp.specs.Posts.{Post, post, posts_to}

-- what came and waits, with the members' addresses, how many calls failed, how many datagrams were lost of each kind, what sends passed to the system, and the errors that they returned, each oldest first
pub record UdpView : Type 0 where
  pub inbox : InboxView
  pub failures : ℕ
  pub losses : Losses
  pub went : List Post
  pub refused : List (Option Loss)

-- a wire to the members at these addresses: no call failed, no datagram waits, and none was sent or lost
abbrev pub new_wire : List SocketAddr → UdpView
new_wire roster = record { inbox = new_inbox roster; failures = 0; losses = no_losses; went = []; refused = [] }

-- what it has counted
abbrev pub counted_by : UdpView → WireCounts
counted_by w = record { failures = w.failures; lost = w.losses; dropped = by_cause w.inbox.dropped }

-- a wire with what came and waits by now
abbrev pub with_inbox : InboxView → UdpView → UdpView
with_inbox inbox w = record w { inbox = inbox }

-- these bytes were passed to the system besides, for this address
abbrev pub passed : SocketAddr → List ℕ → UdpView → UdpView
passed address bytes w = record w { went = w.went ++ post address bytes ∷ [] }

-- what is sent to a member was passed to the system besides, for the member's address
abbrev pub posted : Sent → UdpView → UdpView
posted sent w = record w { went = w.went ++ posts_to (slice_get w.inbox.roster sent.to) sent.bytes }

-- a wire whose sends returned these errors by now
abbrev pub with_refused : List (Option Loss) → UdpView → UdpView
with_refused refused w = record w { refused = refused }

-- one more failure, up to the greatest number of 64 bits
abbrev pub one_more_failure : UdpView → UdpView
one_more_failure w = record w { failures = one_more w.failures }

-- one more loss of this kind, and nothing else
abbrev pub one_more_loss : Loss → UdpView → UdpView
one_more_loss kind w = record w { losses = with_loss kind w.losses }

-- An Err is one more failure. An Ok changes nothing but what waits, or counts one loss.
abbrev pub CountsEach : {T E : Type 0} → Result T E → UdpView → UdpView → Type 0
CountsEach (Ok _) old new = (new ≡ with_inbox new.inbox old) ⊎ ((kind : Loss) × (new ≡ one_more_loss kind (with_inbox new.inbox old)))
CountsEach (Err _) old new = new ≡ one_more_failure (with_inbox new.inbox old)

-- the same of a receive, which counts no loss where it brings a datagram
abbrev pub CountsReceive : {E : Type 0} → Result (Option ℕ) E → UdpView → UdpView → Type 0
CountsReceive (Ok (Some _)) old new = new ≡ with_inbox new.inbox old
CountsReceive answer old new = CountsEach answer old new

-- an error is a loss of its kind, or else a failure
abbrev pub after_error : Option Loss → UdpView → UdpView
after_error (Some kind) w = one_more_loss kind w
after_error None w = one_more_failure w

-- the wire after an error, if there is one, and whether it is a failure
abbrev pub after_told : Option (Option Loss) → UdpView → UdpView
after_told None w = w
after_told (Some error) w = after_error error w

abbrev pub fails_by : Option (Option Loss) → Bool
fails_by None = false
fails_by (Some error) = is_none error

-- What the system answers to a send of so many bytes: that all went, or fewer, or an error. The wire after it, and whether the send failed.
abbrev pub after_send : ℕ → Result ℕ Error → UdpView → UdpView
after_send length answer w = after_told (send_error length answer) w

abbrev pub send_fails : ℕ → Result ℕ Error → Bool
send_fails length answer = fails_by (send_error length answer)

-- What a receive with room for so many bytes returns, by the error that is pending and the datagrams that wait: an error first, where a loss gives None, and
-- anything else that the receive failed; without one the oldest datagram, cut to the room; and nothing where none waits.
abbrev pub BringsNext : Option (Option Loss) → List (List ℕ) → ℕ → List (Option (List ℕ)) → UdpView → UdpView → Type 0
BringsNext (Some (Some kind)) waiting room answer old new = (answer ≡ none_there) × (new ≡ one_more_loss kind (with_inbox (without_error old.inbox) old))
BringsNext (Some None) waiting room answer old new = (answer ≡ it_failed) × (new ≡ one_more_failure (with_inbox (without_error old.inbox) old))
BringsNext None [] room answer old new = (answer ≡ none_there) × (new ≡ old)
BringsNext None (first ∷ more) room answer old new = (answer ≡ answered_with (take room first)) × (new ≡ with_inbox (with_waiting more old.inbox) old)

-- A receive: up to 512 datagrams that lie in the socket may be taken in, and then it brings what comes next. It answers the error that is pending by then, if there is one. So
-- whatever errors receives answered before, these and the one that it answers are all that the socket's calls returned, in order.
pub record ReceivesNext (room : ℕ) (answer : List (Option (List ℕ))) (old new : UdpView) : Type 0 where
  pub looked : InboxView
  pub takes : TakesIn 512 old.inbox looked
  pub brings : BringsNext looked.pending looked.waiting room answer (with_inbox looked old) new
  pub hides_none : (answered : List (Option Loss)) → HidesNone answered old.inbox → HidesNone (with_error looked.pending answered) new.inbox

-- A send that failed is one more failure. One that didn't changes nothing but what waits, or counts one loss.
abbrev pub CountsSend : Bool → UdpView → UdpView → Type 0
CountsSend false old new = (new ≡ with_inbox new.inbox old) ⊎ ((kind : Loss) × (new ≡ one_more_loss kind (with_inbox new.inbox old)))
CountsSend true old new = new ≡ one_more_failure (with_inbox new.inbox old)

-- A send for an address fails exactly where its call returned an error that is no loss, and counts exactly a loss that it returned. One for no address fails by itself.
abbrev pub AnswersSend : Option SocketAddr → Sent → Bool → UdpView → UdpView → Type 0
AnswersSend None sent failed old new = (failed ≡ true) × (new.refused ≡ old.refused)
AnswersSend (Some address) sent failed old new = (error : Option (Option Loss)) × (new.refused ≡ with_error error old.refused) × (failed ≡ fails_by error)
    × (new ≡ after_told error (with_refused new.refused (with_inbox new.inbox (posted sent old))))

-- A send: up to 256 datagrams that lie in the socket may be taken in, exactly these bytes are passed to the system for the member's address, and the call is counted. One to a
-- member without an address fails, and passes nothing. A send answers no error that a receiving call returned: one that it meets is pending, and none is hidden.
pub record SendsOne (sent : Sent) (failed : Bool) (old new : UdpView) : Type 0 where
  pub takes : TakesIn 256 old.inbox new.inbox
  pub counts : CountsSend failed (with_refused new.refused (posted sent old)) new
  pub answers : AnswersSend (slice_get old.inbox.roster sent.to) sent failed old new
  pub stranger : length old.inbox.roster ≤ sent.to → failed ≡ true
  pub hides_none : (answered : List (Option Loss)) → HidesNone answered old.inbox → HidesNone answered new.inbox
