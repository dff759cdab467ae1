-- One datagram after another is taken in.
use Rattle.std.proofs.Common.{◌≡◌, ◌<◌, ◌≤◌, ◌+◌, ℕ, List, [], ◌∷◌, ◌++◌, length, take, refl, ap, sym, ◌∙◌, subst, inl, inr, arith}
use Rattle.std.proofs.lemmas.List.{length-append, length-take, take_all}
use Rattle.std.specs.Prelude.{◌⊎◌, Option, Some, None, false, is_some}
use Rattle.srm_wire.specs.declared.loss.Loss.{Loss}
use Rattle.std.specs.declared.net.socket_addr.SocketAddr.{SocketAddr}
use Rattle.srm_udp.specs.Losses.{with_error}
use Rattle.srm_udp.specs.Posts.{Post, post}
use Rattle.srm_udp.specs.declared.inbox.Told.{Told}
use Rattle.srm_udp.specs.declared.inbox.Told.TheVariants.{Datagram, Dropped as WasDropped}
use Rattle.srm_udp.specs.declared.inbox.Next.{Next}
use Rattle.srm_udp.specs.declared.inbox.Next.TheVariants.{Datagram as ADatagram, Failed as AFailure}
use Rattle.srm_udp.specs.Waiting.{IsFull}
use Rattle.srm_udp.specs.Inboxes.{InboxView, Arrival, Arrives, ArriveEach, BringsOne, GivesNext, HidesNone, IsAdmitted, IsDropped, Keeps, MayFail, TakesIn, TakesOne, heard, one_overflowed, pending_error, returned_error, with_waiting}

pub record Arrived (count : ℕ) (old new : InboxView) : Type 0 where
  pub arrivals : List Arrival
  pub few : length arrivals ≤ count
  pub came : ArriveEach arrivals old new
  pub no_error : old.pending ≡ None
  pub still_none : new.pending ≡ None

arrive_on : (all : List Arrival) (a : Arrival) (u v w : InboxView) → ArriveEach all u v → Arrives a (heard a v) w → ArriveEach (all ++ a ∷ []) u w
arrive_on [] a u v w is h = subst (λ x. ArriveEach (a ∷ []) x w) is (w, h, refl)
arrive_on (first ∷ all) a u v w (between, was, rest) h = (between, was, arrive_on all a between v w rest h)

keeps_error : (a : Arrival) (v w : InboxView) → Arrives a (heard a v) w → w.pending ≡ v.pending
keeps_error a v w (inl (strange, is)) = ap (λ (x : InboxView). x.pending) is
keeps_error a v w (inr (known, inl (other, is))) = ap (λ (x : InboxView). x.pending) is
keeps_error a v w (inr (known, inr (own, inl is))) = ap (λ (x : InboxView). x.pending) is
keeps_error a v w (inr (known, inr (own, inr (full, is)))) = ap (λ (x : InboxView). x.pending) is

pub arrived_none : (b : InboxView) → is_some b.pending ≡ false → Arrived 0 b b
arrived_none b h = record { arrivals = []; few = omega arith; came = refl; no_error = none_of b.pending h; still_none = none_of b.pending h }
  where
    none_of : (error : Option (Option Loss)) → is_some error ≡ false → error ≡ None
    none_of None h = refl
    none_of (Some error) h = cc

pub arrived_more : (count : ℕ) (u v w : InboxView) → Arrived count u v → ((a : Arrival) × Arrives a (heard a v) w) → Arrived (count + 1) u w
arrived_more count u v w had (a, came) = record { arrivals = had.arrivals ++ a ∷ []; few = omega (arith, length-append had.arrivals (a ∷ []), had.few); came = arrive_on had.arrivals a u v w had.came came; no_error = had.no_error; still_none = keeps_error a v w came ∙ had.still_none }

-- what a call of the socket returned is to be heard, or was dropped, and it returned no error
noted : (a : Arrival) (v : InboxView) (came : List Post) (errors : List (Option Loss)) → came ≡ v.came ++ post a.origin a.bytes ∷ [] → errors ≡ v.errors → record v { came = came; errors = errors } ≡ heard a v
noted a v came errors more none = ap (λ (all : List Post). record v { came = all; errors = errors }) more ∙ ap (λ (all : List (Option Loss)). record (heard a v) { errors = all }) none

pub took_one : (origin : SocketAddr) (room : List ℕ) (count : ℕ) (u v : InboxView) (came : List Post) (errors : List (Option Loss)) (w : InboxView) → v ≡ u → ((count ≤ length room) × (came ≡ v.came ++ post origin (take count room) ∷ [])) → errors ≡ v.errors
    → (IsAdmitted (record { origin = origin; bytes = take count room }) (record v { came = came; errors = errors }) × (w ≡ record v { came = came; errors = errors })) → TakesOne room (Datagram count) u w
took_one origin room count u v came errors w is (few, more) none (admitted, same) =
    let a : Arrival = record { origin = origin; bytes = take count room } in
    (few, a, refl, subst (λ (x : InboxView). IsAdmitted a x) is admitted, same ∙ noted a v came errors more none ∙ ap (heard a) is)

pub took_none : (a : Arrival) (u v : InboxView) (came : List Post) (errors : List (Option Loss)) (w : InboxView) → v ≡ u → came ≡ v.came ++ post a.origin a.bytes ∷ [] → errors ≡ v.errors → IsDropped a (record v { came = came; errors = errors }) w → ((b : Arrival) × IsDropped b (heard b u) w)
took_none a u v came errors w is more none dropped = (a, subst (λ (x : InboxView). IsDropped a x w) (noted a v came errors more none ∙ ap (heard a) is) dropped)

-- an error that was there waits, and nothing is taken
pub takes_nothing : (most : ℕ) (b : InboxView) → TakesIn most b b
takes_nothing most b = record { arrivals = []; few = omega arith; between = b; came = refl; then_error = inl refl; waits = λ error is. refl }

none_is_some : (error : Option Loss) (o : Option (Option Loss)) → o ≡ None → o ≡ Some error → ⊥
none_is_some error o e f = cc

-- all that came
pub takes_all : (count : ℕ) (u v : InboxView) → Arrived count u v → count ≤ 256 → TakesIn 256 u v
takes_all count u v had within = record { arrivals = had.arrivals; few = omega (arith, had.few, within); between = v; came = had.came; then_error = inl refl; waits = λ error some. absurd (none_is_some error u.pending had.no_error some) }

-- and an error behind it
pub takes_error : (count : ℕ) (u v mid w : InboxView) (error : Option Loss) → Arrived count u v → count ≤ 256 → mid ≡ returned_error error v → w ≡ record mid { pending = Some error } → TakesIn 256 u w
takes_error count u v mid w error had within returned is = record {
  arrivals = had.arrivals;
  few = omega (arith, had.few, within);
  between = v;
  came = had.came;
  then_error = inr (error, is ∙ ap (λ (x : InboxView). record x { pending = Some error }) returned);
  waits = λ one some. absurd (none_is_some one u.pending had.no_error some);
}

-- a datagram that is to be heard came, and waits or found no room
pub kept_one : (room : List ℕ) (count : ℕ) (told : Told) (v mid w : InboxView) → told ≡ Datagram count → TakesOne room told v mid → Keeps (take count room) mid w → ((a : Arrival) × Arrives a (heard a v) w)
kept_one room count told v mid w was takes keeps = kept (subst (λ t. TakesOne room t v mid) was takes)
  where
    kept : TakesOne room (Datagram count) v mid → ((a : Arrival) × Arrives a (heard a v) w)
    kept (few, a, bytes, (known, own), is) = (a, inr (known, inr (own, waits (subst (λ bs. Keeps bs (heard a v) w) (sym bytes) (subst (λ (x : InboxView). Keeps (take count room) x w) is keeps)))))
      where
        waits : Keeps a.bytes (heard a v) w → (w ≡ with_waiting (v.waiting ++ a.bytes ∷ []) (heard a v)) ⊎ (IsFull v.waiting a.bytes × (w ≡ record (heard a v) { dropped = one_overflowed v.dropped }))
        waits h = h

pub dropped_one : (room : List ℕ) (told : Told) (v w : InboxView) → told ≡ WasDropped → TakesOne room told v w → ((a : Arrival) × Arrives a (heard a v) w)
dropped_one room told v w was takes = dropped (subst (λ t. TakesOne room t v w) was takes)
  where
    dropped : TakesOne room WasDropped v w → ((a : Arrival) × Arrives a (heard a v) w)
    dropped (a, (arrives, same)) = (a, arrives)

-- while nothing waits, what is to be heard comes next at once
pub record HeardNone (count : ℕ) (u v : InboxView) : Type 0 where
  pub arrived : Arrived count u v
  pub empty : v.waiting ≡ []

pub heard_none : (u : InboxView) → u.pending ≡ None → u.waiting ≡ [] → HeardNone 0 u u
heard_none u no_error empty = record { arrived = record { arrivals = []; few = omega arith; came = refl; no_error = no_error; still_none = no_error }; empty = empty }

pub heard_dropped : (count : ℕ) (room : List ℕ) (told : Told) (u v w : InboxView) → HeardNone count u v → told ≡ WasDropped → TakesOne room told v w → HeardNone (count + 1) u w
heard_dropped count room told u v w had was takes = dropped (subst (λ t. TakesOne room t v w) was takes)
  where
    dropped : TakesOne room WasDropped v w → HeardNone (count + 1) u w
    dropped (a, (arrives, same)) = record { arrived = arrived_more count u v w had.arrived (a, arrives); empty = same ∙ had.empty }

pub brings_datagram : (dropped : ℕ) (buffer : List ℕ) (count : ℕ) (told : Told) (u v w : InboxView) → HeardNone dropped u v → dropped < 256 → told ≡ Datagram count → TakesOne buffer told v w → BringsOne buffer (ADatagram (Some count)) u w
brings_datagram dropped buffer count told u v w had within was takes = brought (subst (λ t. TakesOne buffer t v w) was takes)
  where
    brought : TakesOne buffer (Datagram count) v w → BringsOne buffer (ADatagram (Some count)) u w
    brought (few, a, bytes, (known, own), is) =
        let looked : InboxView = with_waiting (a.bytes ∷ []) (heard a v) in
        let waits : looked ≡ with_waiting (v.waiting ++ a.bytes ∷ []) (heard a v) = ap (λ ws. with_waiting (ws ++ a.bytes ∷ []) (heard a v)) (sym had.empty) in
        let empty : w.waiting ≡ [] = ap (λ (x : InboxView). x.waiting) is ∙ had.empty in (
          looked,
          takes_all (dropped + 1) u looked (arrived_more dropped u v looked had.arrived (a, inr (known, inr (own, inl waits)))) (omega (arith, within)),
          (
            had.arrived.still_none,
            (a.bytes, ap (λ ws. a.bytes ∷ ws) (sym empty), few, sym (ap (take (length buffer)) bytes ∙ take_all (length buffer) (take count buffer) (omega (arith, length-take count buffer)))),
            is ∙ sym (ap (λ (x : InboxView). with_waiting x.waiting (heard a v)) is),
          ),
        )

pub brings_nothing : (dropped : ℕ) (buffer : List ℕ) (u v w : InboxView) → HeardNone dropped u v → dropped ≤ 256 → w ≡ v → BringsOne buffer (ADatagram None) u w
brings_nothing dropped buffer u v w had within is = (v, takes_all dropped u v had.arrived within, (had.arrived.still_none, (had.empty, ap (λ (x : InboxView). x.waiting) is ∙ had.empty), is ∙ sym (ap (λ (x : InboxView). with_waiting x.waiting v) is)))

pub brings_error : (dropped : ℕ) (buffer : List ℕ) (error : Option Loss) (u v w : InboxView) → HeardNone dropped u v → dropped < 256 → w ≡ returned_error error v → BringsOne buffer (AFailure error) u w
brings_error dropped buffer error u v w had within is = (
  pending_error error v,
  takes_error dropped u v (returned_error error v) (pending_error error v) error had.arrived (omega (arith, within)) refl refl,
  (refl, is ∙ ap (λ (o : Option (Option Loss)). record (returned_error error v) { pending = o }) had.arrived.still_none),
)

pub brings_waiting_one : (buffer : List ℕ) (next : Next) (u w : InboxView) → GivesNext buffer next u w → BringsOne buffer next u w
brings_waiting_one buffer next u w gives = (u, takes_nothing 256 u, gives)

-- two looks, one behind the other
arrive_all : (xs ys : List Arrival) (u v w : InboxView) → ArriveEach xs u v → ArriveEach ys v w → ArriveEach (xs ++ ys) u w
arrive_all [] ys u v w is k = subst (λ (x : InboxView). ArriveEach ys x w) is k
arrive_all (a ∷ xs) ys u v w (between, was, rest) k = (between, was, arrive_all xs ys between v w rest k)

keeps_errors : (xs : List Arrival) (u v : InboxView) → ArriveEach xs u v → v.pending ≡ u.pending
keeps_errors [] u v is = ap (λ (x : InboxView). x.pending) is
keeps_errors (a ∷ xs) u v (between, was, rest) = keeps_errors xs between v rest ∙ keeps_error a u between was

pub takes_on : (a b c : InboxView) → TakesIn 256 a b → TakesIn 256 b c → TakesIn 512 a c
takes_on a b c h k = by_error b.pending refl
  where
    pending_is : (x y : InboxView) → x ≡ y → x.pending ≡ y.pending
    pending_is x y is = ap (λ (v : InboxView). v.pending) is

    whole : MayFail h.between b → b.pending ≡ None → h.between ≡ b
    whole (inl is) still = sym is
    whole (inr (error, is)) still = absurd (none_is_some error b.pending still (pending_is b (pending_error error h.between) is))

    joined : a.pending ≡ None → b.pending ≡ None → TakesIn 512 a c
    joined none still = record {
      arrivals = h.arrivals ++ k.arrivals;
      few = omega (arith, length-append h.arrivals k.arrivals, h.few, k.few);
      between = k.between;
      came = arrive_all h.arrivals k.arrivals a b k.between (subst (λ (x : InboxView). ArriveEach h.arrivals a x) (whole h.then_error still) h.came) k.came;
      then_error = k.then_error;
      waits = λ error some. absurd (none_is_some error a.pending none some);
    }

    by_first : (o : Option (Option Loss)) → a.pending ≡ o → b.pending ≡ None → TakesIn 512 a c
    by_first None none still = joined none still
    by_first (Some error) some still = absurd (none_is_some error a.pending (sym (pending_is b a (h.waits error some)) ∙ still) some)

    first_alone : TakesIn 512 a b
    first_alone = record { arrivals = h.arrivals; few = omega (arith, h.few); between = h.between; came = h.came; then_error = h.then_error; waits = h.waits }

    by_error : (o : Option (Option Loss)) → b.pending ≡ o → TakesIn 512 a c
    by_error (Some error) some = subst (λ (x : InboxView). TakesIn 512 a x) (sym (k.waits error some)) first_alone
    by_error None still = by_first a.pending refl still

-- a datagram that comes is no error
errors_stay : (a : Arrival) (v w : InboxView) → Arrives a (heard a v) w → w.errors ≡ v.errors
errors_stay a v w (inl (strange, is)) = ap (λ (x : InboxView). x.errors) is
errors_stay a v w (inr (known, inl (other, is))) = ap (λ (x : InboxView). x.errors) is
errors_stay a v w (inr (known, inr (own, inl is))) = ap (λ (x : InboxView). x.errors) is
errors_stay a v w (inr (known, inr (own, inr (full, is)))) = ap (λ (x : InboxView). x.errors) is

all_errors_stay : (xs : List Arrival) (u v : InboxView) → ArriveEach xs u v → v.errors ≡ u.errors
all_errors_stay [] u v is = ap (λ (x : InboxView). x.errors) is
all_errors_stay (a ∷ xs) u v (between, was, rest) = all_errors_stay xs between v rest ∙ errors_stay a u between was

-- an error that a call returned is pending, and no other one is hidden
pub takes_hide_none : (most : ℕ) (u v : InboxView) → TakesIn most u v → (answered : List (Option Loss)) → HidesNone answered u → HidesNone answered v
takes_hide_none most u v h answered was = by_pending u.pending refl
  where
    same_errors : h.between.errors ≡ u.errors
    same_errors = all_errors_stay h.arrivals u h.between h.came

    same_pending : h.between.pending ≡ u.pending
    same_pending = keeps_errors h.arrivals u h.between h.came

    between_hides : HidesNone answered h.between
    between_hides = same_errors ∙ was ∙ ap (λ o. with_error o answered) (sym same_pending)

    ended : u.pending ≡ None → MayFail h.between v → HidesNone answered v
    ended none (inl is) = subst (λ (x : InboxView). HidesNone answered x) (sym is) between_hides
    ended none (inr (error, is)) = subst (λ (x : InboxView). HidesNone answered x) (sym is)
        (ap (λ (es : List (Option Loss)). es ++ error ∷ []) (same_errors ∙ was ∙ ap (λ o. with_error o answered) none))

    by_pending : (o : Option (Option Loss)) → u.pending ≡ o → HidesNone answered v
    by_pending None none = ended none h.then_error
    by_pending (Some error) some = subst (λ (x : InboxView). HidesNone answered x) (sym (h.waits error some)) was
