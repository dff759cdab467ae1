-- What a send passes to the system, byte by byte and for whom.
use Rattle.std.proofs.Common.{◌≡◌, ◌<◌, ◌≤◌, ◌+◌, ℕ, List, [], ◌∷◌, ◌++◌, length, take, get_or, refl, ap, sym, ◌∙◌, subst, inl, inr, Bor}
use Rattle.std.specs.Prelude.{Option, Some, None, MatchOption, Result, Ok, Err, is_err, slice_get}
use Rattle.std.specs.Option.{option_copied}
use Rattle.std.specs.List.{HoldsAt}
use Rattle.std.proofs.lemmas.Option.{slice_get_read, slice_get_past}
use Rattle.std.specs.declared.net.socket_addr.SocketAddr.{SocketAddr}
use Rattle.std.proofs.lemmas.List.{append-nil, take_all, take_more}
use Rattle.srm_wire.specs.Wires.{bytes_to}
use Rattle.srm_wire.specs.declared.sent.Sent.{Sent}
use Rattle.srm_wire.specs.declared.loss.Loss.{Loss}
use Rattle.srm_udp.specs.Inboxes.{InboxView}
use Rattle.srm_udp.specs.Losses.{with_error}
use Rattle.srm_udp.specs.Posts.{Post, posts_to}
use Rattle.srm_udp.specs.Udp.{UdpView, AnswersSend, after_told, fails_by, with_inbox, with_refused, one_more_failure, one_more_loss, CountsEach, passed, posted}
use Rattle.srm_udp.proofs.Counting.{failure_counted}

-- one byte more of these was noted
pub noted_more : (bytes so_far grown : List ℕ) (index byte : ℕ) → index < length bytes → byte ≡ get_or bytes index 0 → so_far ≡ take index bytes → grown ≡ so_far ++ byte ∷ [] → grown ≡ take (index + 1) bytes
noted_more bytes so_far grown index byte within is so grew = grew ∙ ap (λ xs. xs ++ byte ∷ []) so ∙ ap (λ b. take index bytes ++ b ∷ []) is ∙ sym (take_more bytes index 0 within)

-- and at the end all of them
pub noted_all : (bytes so_far : List ℕ) (index : ℕ) → length bytes ≤ index → so_far ≡ take index bytes → so_far ≡ bytes
noted_all bytes so_far index past so = so ∙ take_all index bytes past

-- these bytes were passed to the system, which answered by this error, or by none
abbrev pub answered_so : SocketAddr → List ℕ → Option (Option Loss) → UdpView → UdpView
answered_so address bytes error w = with_refused (with_error error w.refused) (passed address bytes w)

-- what is counted of bytes that were passed on behind a look at what came
passed_behind : {T E : Type 0} (r : Result T E) (address : SocketAddr) (bytes : List ℕ) (old looked new : UdpView) → looked ≡ with_inbox looked.inbox old → CountsEach r (passed address bytes looked) new → CountsEach r (passed address bytes old) new
passed_behind (Ok x) address bytes old looked new rest (inl is) = inl (is ∙ ap (λ w. with_inbox new.inbox (passed address bytes w)) rest)
passed_behind (Ok x) address bytes old looked new rest (inr (kind, is)) = inr (kind, is ∙ ap (λ w. one_more_loss kind (with_inbox new.inbox (passed address bytes w))) rest)
passed_behind (Err e) address bytes old looked new rest is = is ∙ ap (λ w. one_more_failure (with_inbox new.inbox (passed address bytes w))) rest

-- what a member's place in the roster has
pub found_at : (slot : Option (Bor SocketAddr)) (found : Option SocketAddr) (roster all : List SocketAddr) (place to : ℕ) → found ≡ option_copied slot
    → MatchOption slot (length roster ≤ place) (λ x. (place < length roster) × HoldsAt (λ y. x.now ≡ y) roster place) → roster ≡ all → place ≡ to → found ≡ slice_get all to
found_at slot found roster all place to copied there same is = copied ∙ at slot there ∙ ap (λ xs. slice_get xs place) same ∙ ap (slice_get all) is
  where
    at : (o : Option (Bor SocketAddr)) → MatchOption o (length roster ≤ place) (λ x. (place < length roster) × HoldsAt (λ y. x.now ≡ y) roster place) → option_copied o ≡ slice_get roster place
    at None past = sym (slice_get_past roster place past)
    at (Some x) (within, holds) = sym (slice_get_read roster (length roster) place x.now refl within (holds x.now))

-- the member has this address, so the bytes went there
pub posted_behind : {T E : Type 0} (r : Result T E) (to : ℕ) (bytes : List ℕ) (found : Option SocketAddr) (address : SocketAddr) (old looked after new : UdpView)
    → found ≡ slice_get old.inbox.roster to → found ≡ Some address → looked ≡ with_inbox looked.inbox old → after ≡ passed address bytes looked → CountsEach r after new → CountsEach r (posted (bytes_to to bytes) old) new
posted_behind r to bytes found address old looked after new is some rest went counted =
    let counts : CountsEach r (passed address bytes looked) new = subst (λ (w : UdpView). CountsEach r w new) went counted in
    let same : posted (bytes_to to bytes) old ≡ passed address bytes old = ap (λ (o : Option SocketAddr). record old { went = old.went ++ posts_to o bytes }) (sym is ∙ some) in
    subst (λ (w : UdpView). CountsEach r w new) (sym same) (passed_behind r address bytes old looked new rest counts)

-- the same where the call returned an error besides, or none
pub each_behind : {T E : Type 0} (r : Result T E) (to : ℕ) (bytes : List ℕ) (found : Option SocketAddr) (address : SocketAddr) (error : Option (Option Loss)) (old looked after new : UdpView)
    → found ≡ slice_get old.inbox.roster to → found ≡ Some address → looked ≡ with_inbox looked.inbox old → after ≡ answered_so address bytes error looked → new.refused ≡ after.refused → CountsEach r after new
    → CountsEach r (with_refused new.refused (posted (bytes_to to bytes) old)) new
each_behind r to bytes found address error old looked after new is some rest went same counted =
    let refused : new.refused ≡ with_error error looked.refused = same ∙ ap (λ (w : UdpView). w.refused) went in
    let passes : after ≡ passed address bytes (with_refused new.refused looked) = went ∙ ap (λ (es : List (Option Loss)). passed address bytes (with_refused es looked)) (sym refused) in
    posted_behind r to bytes found address (with_refused new.refused old) (with_refused new.refused looked) after new is some (ap (with_refused new.refused) rest) passes counted

abbrev goes : InboxView → List (Option Loss) → Option SocketAddr → List ℕ → UdpView → UdpView
goes inbox refused place bytes w = record w { inbox = inbox; went = w.went ++ posts_to place bytes; refused = refused }

-- and the call's answer decides whether the send failed, and what it counts
pub answers_some : {T E : Type 0} (r : Result T E) (sent : Sent) (address : SocketAddr) (error : Option (Option Loss)) (old looked after new : UdpView)
    → slice_get old.inbox.roster sent.to ≡ Some address → looked ≡ with_inbox looked.inbox old → after ≡ answered_so address sent.bytes error looked → new.inbox ≡ after.inbox → new.refused ≡ after.refused
    → is_err r ≡ fails_by error → new ≡ after_told error after → AnswersSend (slice_get old.inbox.roster sent.to) sent (is_err r) old new
answers_some r sent address error old looked after new some rest went same_inbox same_refused failed one =
    let inbox : new.inbox ≡ looked.inbox = same_inbox ∙ ap (λ (w : UdpView). w.inbox) went in
    let refused : new.refused ≡ with_error error old.refused = same_refused ∙ ap (λ (w : UdpView). w.refused) went ∙ ap (λ (w : UdpView). with_error error w.refused) rest in
    let begins : after ≡ goes looked.inbox (with_error error old.refused) (Some address) sent.bytes old = went ∙ ap (answered_so address sent.bytes error) rest in
    let whole : after ≡ goes new.inbox new.refused (slice_get old.inbox.roster sent.to) sent.bytes old = begins ∙ ap (λ (b : InboxView). goes b (with_error error old.refused) (Some address) sent.bytes old) (sym inbox)
    ∙ ap (λ (es : List (Option Loss)). goes new.inbox es (Some address) sent.bytes old) (sym refused) ∙ ap (λ (o : Option SocketAddr). goes new.inbox new.refused o sent.bytes old) (sym some) in
    subst (λ o. AnswersSend o sent (is_err r) old new) (sym some) (error, refused, failed, one ∙ ap (after_told error) whole)

-- a failed send that made no call returned no error of one
pub same_refused : (old looked new : UdpView) → looked ≡ with_inbox looked.inbox old → new ≡ one_more_failure looked → new.refused ≡ old.refused
same_refused old looked new rest fails = ap (λ (w : UdpView). w.refused) fails ∙ ap (λ (w : UdpView). w.refused) rest

-- it has none, so nothing went, and the send failed
pub unposted : (to : ℕ) (bytes : List ℕ) (found : Option SocketAddr) (old looked new : UdpView)
    → found ≡ slice_get old.inbox.roster to → found ≡ None → looked ≡ with_inbox looked.inbox old → new ≡ one_more_failure looked
    → new ≡ one_more_failure (with_inbox new.inbox (with_refused new.refused (posted (bytes_to to bytes) old)))
unposted to bytes found old looked new is none rest fails =
    let nothing : posted (bytes_to to bytes) old ≡ record old { went = old.went ++ [] } = ap (λ (o : Option SocketAddr). record old { went = old.went ++ posts_to o bytes }) (sym is ∙ none) in
    let same : posted (bytes_to to bytes) old ≡ old = nothing ∙ ap (λ (ws : List Post). record old { went = ws }) (append-nil old.went) in
    failure_counted looked new fails ∙ ap (λ w. one_more_failure (with_inbox new.inbox w)) (rest ∙ ap (with_inbox looked.inbox) (sym same))
    ∙ ap (λ (es : List (Option Loss)). one_more_failure (with_inbox new.inbox (with_refused es (posted (bytes_to to bytes) old)))) (sym (same_refused old looked new rest fails))
