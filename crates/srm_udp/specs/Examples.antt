-- A wire over UDP at worked calls.
use Rattle.std.specs.Prelude.{◌≡◌, ◌<◌, ℕ, true, false, List, [], ◌∷◌, get_or, Option, Some, None, Ok, refl}
use Rattle.std.specs.declared.net.socket_addr.SocketAddr.{SocketAddr}
use Rattle.std.specs.declared.io.ErrorKind.{ErrorKind}
use Rattle.std.proofs.Common.{ap, arith, inl, inr, subst, sym, ◌∙◌}
use Rattle.srm_wire.specs.Wires.{greatest_count, answered_with, bytes_to, none_there}
use Rattle.srm_udp.specs.Clocks.{NeverFalls}
use Rattle.srm_wire.specs.declared.loss.Loss.TheVariants.{Denied, PortClosed}
use Rattle.srm_udp.specs.Inboxes.{Arrival, ArriveEach, HidesNone, InboxView, MayFail, TakesOne, heard, Arrives, IsAddressOf, SamePlace, named_sender, new_inbox, TakesIn, none_dropped, one_overflowed, one_stranger, pending_error, returned_error}
use Rattle.srm_udp.specs.Losses.{error_by, send_error}
use Rattle.srm_udp.specs.declared.inbox.Told.TheVariants.{Nothing, Failed}
use Rattle.std.specs.declared.io.ErrorKind.TheVariants.{WouldBlock, ConnectionRefused}
use Rattle.srm_wire.specs.declared.loss.Loss.{Loss}
use Rattle.srm_wire.specs.Counts.{no_drops, no_losses, only_failed}
use Rattle.srm_udp.specs.declared.first_failure.WireFailure.TheVariants.{Send, Receive}
use Rattle.srm_udp.specs.Failures.{IsOfWire}
use Rattle.srm_udp.specs.Resting.{PausesRested, came_with, rest_of}
use Rattle.srm_udp.specs.Waiting.{cut, Takes}
use Rattle.srm_udp.specs.Posts.{Post, post}
use Rattle.srm_udp.specs.Udp.{UdpView, BringsNext, CountsSend, SendsOne, counted_by, new_wire, one_more_failure, one_more_loss, posted, with_refused, AnswersSend}

the_first_failure : one_more_failure (new_wire []) ≡ record { inbox = new_inbox []; failures = 1; losses = no_losses; went = []; refused = [] }
the_first_failure = refl

the_greatest_count_stays : one_more_failure (record (new_wire []) { failures = greatest_count }) ≡ record (new_wire []) { failures = greatest_count }
the_greatest_count_stays = refl

-- a datagram that a firewall forbids counts as denied, and as nothing else
the_first_loss : one_more_loss Denied (new_wire []) ≡ record (new_wire []) { losses = record no_losses { denied = 1 } }
the_first_loss = refl

-- what it has counted: a failure, a loss by its kind, and what was dropped by its cause
counts_a_failure : counted_by (one_more_failure (new_wire [])) ≡ only_failed 1
counts_a_failure = refl

counts_a_loss : counted_by (one_more_loss Denied (new_wire [])) ≡ record (only_failed 0) { lost = record no_losses { denied = 1 } }
counts_a_loss = refl

counts_what_is_dropped : (counted_by (record (new_wire []) { inbox = record (new_inbox []) { dropped = one_stranger (one_overflowed none_dropped) } })).dropped ≡ record no_drops { strangers = 1; overflowed = 1 }
counts_what_is_dropped = refl

-- a clock that told 5 may tell 5 again, and not 4
tells_5_again : NeverFalls (record { last = Some 5 }) 5 (record { last = Some 5 })
tells_5_again = record { not_before = omega arith; is = refl }

not_4_behind_5 : NeverFalls (record { last = Some 5 }) 4 (record { last = Some 4 }) → ⊥
not_4_behind_5 h = omega (arith, h.not_before)

-- a new clock tells 0 first
not_1_at_first : NeverFalls (record { last = None }) 1 (record { last = Some 1 }) → ⊥
not_1_at_first h = let k : 1 ≡ 0 = h.not_before in omega (arith, k)

-- five bytes as one datagram of two, one of none, and one of three
three_that_wait : cut (2 ∷ 0 ∷ 3 ∷ []) (1 ∷ 2 ∷ 3 ∷ 4 ∷ 5 ∷ []) ≡ (1 ∷ 2 ∷ []) ∷ [] ∷ (3 ∷ 4 ∷ 5 ∷ []) ∷ []
three_that_wait = refl

-- the first of two is taken, cut to a buffer of one byte, and the other stays
takes_the_first : Takes ((1 ∷ 2 ∷ []) ∷ (3 ∷ []) ∷ []) (1 ∷ []) (Some 1) ((3 ∷ []) ∷ [])
takes_the_first = (1 ∷ 2 ∷ [], refl, omega arith, refl)

-- not the second, though a buffer has room for it
not_the_second : Takes ((1 ∷ 2 ∷ []) ∷ (3 ∷ []) ∷ []) (3 ∷ []) (Some 1) ((1 ∷ 2 ∷ []) ∷ []) → ⊥
not_the_second h = cc (h.1)

-- and not none
not_none : Takes ((3 ∷ []) ∷ []) [] None ((3 ∷ []) ∷ []) → ⊥
not_none h = cc (h.0)

-- one that came was returned by a call of the socket, and waits
one_came_in : (origin : SocketAddr) → ArriveEach (record { origin = origin; bytes = 7 ∷ [] } ∷ []) (new_inbox []) (record (new_inbox []) { came = post origin (7 ∷ []) ∷ []; waiting = (7 ∷ []) ∷ [] })
one_came_in origin = (record (new_inbox []) { came = post origin (7 ∷ []) ∷ []; waiting = (7 ∷ []) ∷ [] }, inr (λ strange. not_true strange.0, inr (λ only. absurd (not_true only), inl refl)), refl)
  where
    not_true : false ≡ true → ⊥
    not_true e = cc

-- none comes that no call returned
not_out_of_nothing : (a : Arrival) (new : InboxView) → new.came ≡ [] → Arrives a (heard a (new_inbox [])) new → ⊥
not_out_of_nothing a new none came = differ new.came none (came_one came)
  where
    came_one : Arrives a (heard a (new_inbox [])) new → new.came ≡ post a.origin a.bytes ∷ []
    came_one (inl (strange, is)) = ap (λ (b : InboxView). b.came) is
    came_one (inr (known, inl (other, is))) = ap (λ (b : InboxView). b.came) is
    came_one (inr (known, inr (own, inl is))) = ap (λ (b : InboxView). b.came) is
    came_one (inr (known, inr (own, inr (full, is)))) = ap (λ (b : InboxView). b.came) is

    differ : (all : List Post) → all ≡ [] → all ≡ post a.origin a.bytes ∷ [] → ⊥
    differ all h k = cc

-- whoever sends to a roster without members is a stranger
a_stranger_is_dropped : (origin : SocketAddr) → Arrives (record { origin = origin; bytes = 1 ∷ [] }) (record (new_inbox []) { only_roster = true }) (record (new_inbox []) { only_roster = true; dropped = one_stranger none_dropped })
a_stranger_is_dropped origin = inl ((refl, λ h. h), refl)

-- the sender of a datagram is its ninth byte
a_datagram_names_its_sender : named_sender (83 ∷ 82 ∷ 1 ∷ 3 ∷ 0 ∷ 0 ∷ 0 ∷ 7 ∷ 2 ∷ 1 ∷ []) ≡ Some 2
a_datagram_names_its_sender = refl

-- and one that ends before it names none
one_cut_off_names_none : named_sender (83 ∷ 82 ∷ 1 ∷ 3 ∷ 0 ∷ 0 ∷ 0 ∷ 7 ∷ []) ≡ None
one_cut_off_names_none = refl

noise_names_none : named_sender (1 ∷ 2 ∷ 3 ∷ 4 ∷ 5 ∷ 6 ∷ 7 ∷ 8 ∷ 9 ∷ []) ≡ None
noise_names_none = refl

-- of two members the second may not send as the first
not_as_another : (one other : SocketAddr) → (SamePlace one other → ⊥) → IsAddressOf (one ∷ other ∷ []) (Some 0) other → ⊥
not_as_another one other apart (address, is, same) = apart (subst (λ (a : SocketAddr). SamePlace a other) (sym (some_is one address is)) same)
  where
    some_is : (x y : SocketAddr) → Some x ≡ Some y → x ≡ y
    some_is x y e = cc

-- a denied datagram is told before the one that waits, and the receive returns None then
a_loss_comes_first : BringsNext (Some (Some Denied)) ((1 ∷ []) ∷ []) 4 none_there (new_wire []) (one_more_loss Denied (new_wire []))
a_loss_comes_first = (refl, refl)

-- a datagram of two bytes is cut to a room of one
it_is_cut_to_the_room : BringsNext None ((1 ∷ 2 ∷ []) ∷ []) 1 (answered_with (1 ∷ [])) (new_wire []) (new_wire [])
it_is_cut_to_the_room = (refl, refl)

looks_at_nothing : (roster : List SocketAddr) → TakesIn 256 (new_inbox roster) (new_inbox roster)
looks_at_nothing roster = record { arrivals = []; few = omega arith; between = new_inbox roster; came = refl; then_error = inl refl; waits = λ error is. refl }

-- a call returned an error, which is pending then
an_error_came : TakesIn 256 (new_inbox []) (pending_error None (new_inbox []))
an_error_came = record { arrivals = []; few = omega arith; between = new_inbox []; came = refl; then_error = inr (None, refl); waits = λ error is. cc is }

-- one that no call returned can't be pending
not_of_itself : (error : Option Loss) → MayFail (new_inbox []) (record (new_inbox []) { pending = Some error }) → ⊥
not_of_itself error (inl is) = cc (ap (λ (b : InboxView). b.pending) is)
not_of_itself error (inr (other, is)) = cc (ap (λ (b : InboxView). b.errors) is)

-- nor may one that a call returned be left out
not_left_out : (error : Option Loss) → MayFail (new_inbox []) (returned_error error (new_inbox [])) → ⊥
not_left_out error (inl is) = cc (ap (λ (b : InboxView). b.errors) is)
not_left_out error (inr (other, is)) = cc (ap (λ (b : InboxView). b.pending) is)

-- what a call returned is told as this error, and not as nothing
a_failure_is_told : (room : List ℕ) → TakesOne room (Failed None) (new_inbox []) (returned_error None (new_inbox []))
a_failure_is_told room = refl

a_failure_is_not_hidden : (room : List ℕ) → TakesOne room Nothing (new_inbox []) (returned_error None (new_inbox [])) → ⊥
a_failure_is_not_hidden room is = cc (ap (λ (b : InboxView). b.errors) is)

-- that no datagram is there is no error, and any other answer is one
nothing_is_there : (loss : Option Loss) → error_by WouldBlock loss ≡ None
nothing_is_there loss = refl

nobody_listens : error_by ConnectionRefused (Some PortClosed) ≡ Some (Some PortClosed)
nobody_listens = refl

-- a new wire hides no error, and neither does one that answered a denied datagram and has a failure pending
hides_none_at_first : (roster : List SocketAddr) → HidesNone [] (new_inbox roster)
hides_none_at_first roster = refl

hides_none_pending : HidesNone (Some Denied ∷ []) (pending_error None (returned_error (Some Denied) (new_inbox [])))
hides_none_pending = refl

-- but one that returned a failure, and neither answered it nor has it pending, does
hides_one : HidesNone [] (returned_error None (new_inbox [])) → ⊥
hides_one is = cc is

-- a send to a member without an address fails
nobody_is_there : SendsOne (bytes_to 0 (1 ∷ [])) true (new_wire []) (one_more_failure (new_wire []))
nobody_is_there = record {
  takes = looks_at_nothing [];
  counts = refl;
  answers = (refl, refl);
  stranger = λ few. refl;
  hides_none = λ answered had. had;
}

abbrev two_members : SocketAddr → SocketAddr → UdpView
two_members one other = new_wire (one ∷ other ∷ [])

-- one byte to the second of two members is passed to the system for its address
one_byte_goes : (one other : SocketAddr) → SendsOne (bytes_to 1 (7 ∷ [])) false (two_members one other) (record (two_members one other) { went = post other (7 ∷ []) ∷ [] })
one_byte_goes one other = record { takes = looks_at_nothing (one ∷ other ∷ []); counts = inl refl; answers = (None, refl, refl, refl); stranger = λ few. absurd (omega (arith, few)); hides_none = λ answered had. had }

-- a send that no call of the system failed doesn't fail
not_failed_by_itself : (address : SocketAddr) (new : UdpView) → new.refused ≡ [] → AnswersSend (Some address) (bytes_to 1 (7 ∷ [])) true (new_wire []) new → ⊥
not_failed_by_itself address new none (None, same, fails, is) = cc fails
not_failed_by_itself address new none (Some error, same, fails, is) = cc (sym none ∙ same)

-- and one that failed by a call of the system does
not_hidden : (address : SocketAddr) (new : UdpView) → new.refused ≡ None ∷ [] → AnswersSend (Some address) (bytes_to 1 (7 ∷ [])) false (new_wire []) new → ⊥
not_hidden address new one (None, same, fails, is) = cc (sym one ∙ same)
not_hidden address new one (Some None, same, fails, is) = cc fails
not_hidden address new one (Some (Some kind), same, fails, is) = cc (sym one ∙ same)

-- a part of what was to go is a failure, and all of it is none
a_part_is_a_failure : send_error 5 (Ok 4) ≡ Some None
a_part_is_a_failure = refl

all_is_none : send_error 5 (Ok 5) ≡ None
all_is_none = refl

-- of what went the first byte, and of nothing 0
abbrev first_byte : List Post → ℕ
first_byte [] = 0
first_byte (post ∷ more) = get_or post.bytes 0 0

what_went : (one other : SocketAddr) (new : UdpView) → CountsSend false (with_refused new.refused (posted (bytes_to 1 (7 ∷ [])) (two_members one other))) new → new.went ≡ post other (7 ∷ []) ∷ []
what_went one other new (inl is) = ap (λ (w : UdpView). w.went) is
what_went one other new (inr (kind, is)) = ap (λ (w : UdpView). w.went) is

-- and not another one
not_another_byte : (one other : SocketAddr) (new : UdpView) → new.went ≡ post other (8 ∷ []) ∷ [] → SendsOne (bytes_to 1 (7 ∷ [])) false (two_members one other) new → ⊥
not_another_byte one other new went h = let same : 8 ≡ 7 = sym (ap first_byte went) ∙ ap first_byte (what_went one other new h.counts) in absurd (omega (arith, same))

-- nor none
not_nothing : (one other : SocketAddr) (new : UdpView) → new.went ≡ [] → SendsOne (bytes_to 1 (7 ∷ [])) false (two_members one other) new → ⊥
not_nothing one other new none h = let same : 0 ≡ 7 = sym (ap first_byte none) ∙ ap first_byte (what_went one other new h.counts) in absurd (omega (arith, same))

-- a pause rests after two datagrams, for 100 microseconds at most and no longer than it lasts; what the wire below pauses is the rest of it
rests_after_two : rest_of 2 10000 ≡ 100
rests_after_two = refl

not_after_one : rest_of 1 10000 ≡ 0
not_after_one = refl

not_longer_than_the_pause : rest_of 7 60 ≡ 60
not_longer_than_the_pause = refl

abbrev notes : ℕ → ℕ → ℕ → Type 0
notes old micros new = new ≡ micros

pauses_for_the_rest : PausesRested notes (record { wire = 0; came = 2 }) 10000 (record { wire = 9900; came = 0 })
pauses_for_the_rest = (refl, refl)

not_for_nothing : PausesRested notes (record { wire = 0; came = 2 }) 10000 (record { wire = 0; came = 0 }) → ⊥
not_for_nothing h = cc (h.0)

-- a pause of nothing doesn't rest, and what came counts for the next
keeps_what_came : PausesRested notes (record { wire = 5; came = 2 }) 0 (record { wire = 0; came = 2 })
keeps_what_came = (refl, refl)

one_came : came_with (answered_with (1 ∷ [])) 4 ≡ 5
one_came = refl

none_came : came_with none_there 4 ≡ 4
none_came = refl

-- a wire that sends to one address fails to send there, or to receive at its own
a_send_to_the_roster : (own one : SocketAddr) (cause : ErrorKind) → IsOfWire (record { own = own; roster = one ∷ [] }) (Send one cause)
a_send_to_the_roster own one cause = let first : 0 < 1 = omega arith in (0, first, refl)

a_receive_at_its_own : (own one : SocketAddr) (cause : ErrorKind) → IsOfWire (record { own = own; roster = one ∷ [] }) (Receive own cause)
a_receive_at_its_own own one cause = refl

no_send_without_a_roster : (own one : SocketAddr) (cause : ErrorKind) → IsOfWire (record { own = own; roster = [] }) (Send one cause) → ⊥
no_send_without_a_roster own one cause h = let none : h.0 < 0 = h.1 in absurd (omega (arith, none))
