-- Calls are counted, whatever came meanwhile.
use Rattle.std.proofs.Common.{◌≡◌, ◌≤◌, ℕ, List, [], ◌∷◌, length, take, refl, ap, sym, ◌∙◌, subst}
use Rattle.std.proofs.lemmas.Option.{slice_get_past}
use Rattle.std.specs.declared.net.socket_addr.SocketAddr.{SocketAddr}
use Rattle.srm_wire.specs.declared.sent.Sent.{Sent}
use Rattle.srm_wire.specs.Wires.{answered, answered_with, none_there, it_failed}
use Rattle.std.specs.Prelude.{slice_get, Bool, true, false, if◌then◌else◌, Option, Some, None, is_none, IfSome, Result, Ok, Err, is_err}
use Rattle.srm_wire.specs.declared.loss.Loss.{Loss}
use Rattle.srm_udp.specs.declared.inbox.Next.{Next}
use Rattle.srm_udp.specs.declared.inbox.Next.TheVariants.{Datagram, Failed}
use Rattle.srm_udp.specs.Waiting.{Takes}
use Rattle.srm_udp.specs.Losses.{with_error}
use Rattle.srm_udp.specs.Inboxes.{InboxView, BringsOne, HidesNone, NextFits, TakesIn, with_waiting, without_error}
use Rattle.srm_udp.specs.Udp.{UdpView, AnswersSend, BringsNext, ReceivesNext, after_error, with_inbox, with_refused, one_more_failure, one_more_loss, CountsEach, CountsSend, SendsOne, posted}
use Rattle.srm_udp.proofs.Arriving.{takes_hide_none, takes_on}

-- nothing changed, one more was lost, or one more call failed, and what waits is as it was
pub none_counted : (old new : UdpView) → new ≡ old → new ≡ with_inbox new.inbox old
none_counted old new is = is ∙ sym (ap (λ (w : UdpView). with_inbox w.inbox old) is)

pub loss_counted : (kind : Loss) (old new : UdpView) → new ≡ one_more_loss kind old → new ≡ one_more_loss kind (with_inbox new.inbox old)
loss_counted kind old new is = is ∙ sym (ap (λ (w : UdpView). one_more_loss kind (with_inbox w.inbox old)) is)

pub failure_counted : (old new : UdpView) → new ≡ one_more_failure old → new ≡ one_more_failure (with_inbox new.inbox old)
failure_counted old new is = is ∙ sym (ap (λ (w : UdpView). one_more_failure (with_inbox w.inbox old)) is)

-- one inbox in place of another that is the same
inbox_is : (old : UdpView) (one other : InboxView) → one ≡ other → with_inbox one old ≡ with_inbox other old
inbox_is old one other is = ap (λ b. with_inbox b old) is

-- without an error the oldest datagram comes, or nothing
brings_waiting : (E : Type 0) (buffer : List ℕ) (count : Option ℕ) (waiting : List (List ℕ)) (taken : InboxView) (old new : UdpView)
    → waiting ≡ old.inbox.waiting → Takes waiting buffer count taken.waiting → taken ≡ with_waiting taken.waiting old.inbox → new ≡ with_inbox taken old
    → BringsNext None waiting (length buffer) (answered {E = E} buffer (Ok count)) old new
brings_waiting E buffer None [] taken old new was takes gave is = (refl, is ∙ inbox_is old taken old.inbox (gave ∙ ap (λ w. with_waiting w old.inbox) (takes.1 ∙ was)))
brings_waiting E buffer None (first ∷ more) taken old new was takes gave is = absurd (cc (takes.0))
brings_waiting E buffer (Some count) [] taken old new was (first, some, few, same) gave is = absurd (cc (some))
brings_waiting E buffer (Some count) (first ∷ more) taken old new was (oldest, some, few, same) gave is = (
  ap answered_with (same ∙ ap (take (length buffer)) (head_is first oldest more taken.waiting some)),
  is ∙ inbox_is old taken (with_waiting more old.inbox) (gave ∙ ap (λ w. with_waiting w old.inbox) (sym (tail_is first oldest more taken.waiting some))),
)
  where
    head_is : (x y : List ℕ) (xs ys : List (List ℕ)) → x ∷ xs ≡ y ∷ ys → y ≡ x
    head_is x y xs ys e = cc

    tail_is : (x y : List ℕ) (xs ys : List (List ℕ)) → x ∷ xs ≡ y ∷ ys → xs ≡ ys
    tail_is x y xs ys e = cc

-- an error that is pending comes first: a loss gives None, and anything else is a failure
brings_loss : (error : Option Loss) (waiting : List (List ℕ)) (room : ℕ) (taken : InboxView) (old new : UdpView)
    → is_none error ≡ false → taken ≡ without_error old.inbox → new ≡ after_error error (with_inbox taken old) → BringsNext (Some error) waiting room none_there old new
brings_loss (Some kind) waiting room taken old new lost gave is = (refl, is ∙ ap (one_more_loss kind) (inbox_is old taken (without_error old.inbox) gave))
brings_loss None waiting room taken old new lost gave is = absurd (cc lost)

brings_failure : (error : Option Loss) (waiting : List (List ℕ)) (room : ℕ) (taken : InboxView) (old new : UdpView)
    → is_none error ≡ true → taken ≡ without_error old.inbox → new ≡ after_error error (with_inbox taken old) → BringsNext (Some error) waiting room it_failed old new
brings_failure None waiting room taken old new failed gave is = (refl, is ∙ ap one_more_failure (inbox_is old taken (without_error old.inbox) gave))
brings_failure (Some kind) waiting room taken old new failed gave is = absurd (cc failed)

-- an error that a receive answers is the one that was pending, and none is pending then
brings_hide_none : (error : Option (Option Loss)) (waiting : List (List ℕ)) (room : ℕ) (answer : List (Option (List ℕ))) (seen : InboxView) (old new : UdpView)
    → seen.pending ≡ error → BringsNext error waiting room answer (with_inbox seen old) new → (answered : List (Option Loss)) → HidesNone answered seen → HidesNone (with_error error answered) new.inbox
brings_hide_none (Some (Some kind)) waiting room answer seen old new was (told, is) answered had = subst (λ b. HidesNone (with_error (Some (Some kind)) answered) b) (sym (ap (λ (w : UdpView). w.inbox) is)) (had ∙ ap (λ o. with_error o answered) was)
brings_hide_none (Some None) waiting room answer seen old new was (told, is) answered had = subst (λ b. HidesNone (with_error (Some None) answered) b) (sym (ap (λ (w : UdpView). w.inbox) is)) (had ∙ ap (λ o. with_error o answered) was)
brings_hide_none None [] room answer seen old new was (told, is) answered had = subst (λ b. HidesNone answered b) (sym (ap (λ (w : UdpView). w.inbox) is)) had
brings_hide_none None (first ∷ more) room answer seen old new was (told, is) answered had = subst (λ b. HidesNone answered b) (sym (ap (λ (w : UdpView). w.inbox) is)) had

receives_next : (room : ℕ) (answer : List (Option (List ℕ))) (seen : InboxView) (old new : UdpView) → TakesIn 512 old.inbox seen → BringsNext seen.pending seen.waiting room answer (with_inbox seen old) new → ReceivesNext room answer old new
receives_next room answer seen old new takes brings = record {
  looked = seen;
  takes = takes;
  brings = brings;
  hides_none = λ answered had. brings_hide_none seen.pending seen.waiting room answer seen old new refl brings answered (takes_hide_none 512 old.inbox seen takes answered had);
}

-- two looks at what came, and what comes next
pub receives_datagram : (E : Type 0) (buffer : List ℕ) (next : Next) (count : Option ℕ) (taken : InboxView) (old looked new : UdpView)
    → TakesIn 256 old.inbox looked.inbox → looked ≡ with_inbox looked.inbox old → BringsOne buffer next looked.inbox taken → next ≡ Datagram count → new ≡ with_inbox taken looked
    → ReceivesNext (length buffer) (answered {E = E} buffer (Ok count)) old new
receives_datagram E buffer next count taken old looked new takes rest brings came is = given (subst (λ n. BringsOne buffer n looked.inbox taken) came brings)
  where
    given : BringsOne buffer (Datagram count) looked.inbox taken → ReceivesNext (length buffer) (answered {E = E} buffer (Ok count)) old new
    given (seen, more, (none, next_is, gave)) = receives_next (length buffer) (answered {E = E} buffer (Ok count)) seen old new (takes_on old.inbox looked.inbox seen takes more)
        (subst (λ error. BringsNext error seen.waiting (length buffer) (answered {E = E} buffer (Ok count)) (with_inbox seen old) new) (sym none)
        (brings_waiting E buffer count seen.waiting taken (with_inbox seen old) new refl next_is gave (is ∙ ap (with_inbox taken) rest)))

pub receives_error : (buffer : List ℕ) (next : Next) (error : Option Loss) (failed : Bool) (taken : InboxView) (old looked new : UdpView)
    → TakesIn 256 old.inbox looked.inbox → looked ≡ with_inbox looked.inbox old → BringsOne buffer next looked.inbox taken → next ≡ Failed error → failed ≡ is_none error → new ≡ after_error error (with_inbox taken looked)
    → ReceivesNext (length buffer) (if failed then it_failed else none_there) old new
receives_error buffer next error failed taken old looked new takes rest brings came fails is = given (subst (λ n. BringsOne buffer n looked.inbox taken) came brings)
  where
    by_kind : (b : Bool) (seen : InboxView) → b ≡ is_none error → taken ≡ without_error seen → BringsNext (Some error) seen.waiting (length buffer) (if b then it_failed else none_there) (with_inbox seen old) new
    by_kind true seen none gave = brings_failure error seen.waiting (length buffer) taken (with_inbox seen old) new (sym none) gave (is ∙ ap (λ w. after_error error (with_inbox taken w)) rest)
    by_kind false seen some gave = brings_loss error seen.waiting (length buffer) taken (with_inbox seen old) new (sym some) gave (is ∙ ap (λ w. after_error error (with_inbox taken w)) rest)

    given : BringsOne buffer (Failed error) looked.inbox taken → ReceivesNext (length buffer) (if failed then it_failed else none_there) old new
    given (seen, more, (was, gave)) = receives_next (length buffer) (if failed then it_failed else none_there) seen old new (takes_on old.inbox looked.inbox seen takes more)
        (subst (λ pending. BringsNext pending seen.waiting (length buffer) (if failed then it_failed else none_there) (with_inbox seen old) new) (sym was) (by_kind failed seen fails gave))

-- what is answered has its place in the buffer
pub within_next : (buffer : List ℕ) (next : Next) (count : Option ℕ) → next ≡ Datagram count → NextFits buffer next → IfSome count (λ c. c ≤ length buffer)
within_next buffer next count is fits = subst (λ n. NextFits buffer n) is fits

-- what a send counts, and that it looked before
counts_send : {T E : Type 0} (r : Result T E) (old new : UdpView) → CountsEach r old new → CountsSend (is_err r) old new
counts_send (Ok x) old new counts = counts
counts_send (Err e) old new counts = counts

pub sends_one : {T E : Type 0} (r : Result T E) (sent : Sent) (address : SocketAddr) (old looked new : UdpView)
    → TakesIn 256 old.inbox looked.inbox → new.inbox ≡ looked.inbox → CountsEach r (with_refused new.refused (posted sent old)) new → slice_get old.inbox.roster sent.to ≡ Some address
    → AnswersSend (slice_get old.inbox.roster sent.to) sent (is_err r) old new
    → SendsOne sent (is_err r) old new
sends_one r sent address old looked new takes same counts found answers = record {
  answers = answers;
  takes = took;
  hides_none = takes_hide_none 256 old.inbox new.inbox took;
  counts = counts_send r (with_refused new.refused (posted sent old)) new counts;
  stranger = λ past. absurd (apart (slice_get old.inbox.roster sent.to) address (slice_get_past old.inbox.roster sent.to past) found);
}
  where
    took : TakesIn 256 old.inbox new.inbox
    took = subst (λ b. TakesIn 256 old.inbox b) (sym same) takes

    apart : (o : Option SocketAddr) (x : SocketAddr) → o ≡ None → o ≡ Some x → ⊥
    apart o x e f = cc

-- one to a member without an address fails
pub sends_none : (sent : Sent) (old looked new : UdpView) → TakesIn 256 old.inbox looked.inbox → new ≡ one_more_failure looked → new ≡ one_more_failure (with_inbox new.inbox (with_refused new.refused (posted sent old)))
    → slice_get old.inbox.roster sent.to ≡ None → new.refused ≡ old.refused → SendsOne sent true old new
sends_none sent old looked new takes fails counts none same = record {
  answers = subst (λ o. AnswersSend o sent true old new) (sym none) (refl, same);
  takes = took;
  hides_none = takes_hide_none 256 old.inbox new.inbox took;
  counts = counts;
  stranger = λ past. refl;
}
  where
    took : TakesIn 256 old.inbox new.inbox
    took = subst (λ b. TakesIn 256 old.inbox b) (sym (ap (λ (w : UdpView). w.inbox) fails)) takes
