-- What came in an entry, as entries are added.
use Rattle.std.proofs.Common.{◌≡◌, ℕ, suc, ◌+◌, Bool, true, false, List, [], ◌∷◌, ◌++◌, length, refl, ap, sym, ◌∙◌, subst, arith}
use Rattle.std.specs.Prelude.{Option, Some, None, option_map, slice_get, map, nat_lt, cond}
use Rattle.std.specs.List.{AllByRecursion, enumerate_from, flat_map}
use Rattle.std.proofs.lemmas.Option.{same_Some}
use Rattle.std.proofs.lemmas.List.{map-append, append-nil}
use Rattle.srm_names.specs.Histories.{steps, steps_after}
use Rattle.srm_names.proofs.Snoc.{steps-snoc, flat_map-snoc}
use Rattle.srm_names.proofs.Lists.{slice_get-front, AllByRecursion-append, all_by, at_end}
use Rattle.srm_codec.specs.declared.datagram.Datagram.{Datagram}
use Rattle.srm_entries.specs.declared.entry.Entry.{Entry}
use Rattle.srm_entries.specs.declared.entry.Input.{Input}
use Rattle.srm_entries.specs.declared.entry.Input.TheVariants.{Drew, Ticked, Showed, AskedLeave, Gave, Took}
use Rattle.srm_entries.specs.Entries.{sent, is_gone, state}
use Rattle.srm_world.specs.declared.start.Start.{Start}
use Rattle.srm_world.specs.declared.event.Event.{Event}
use Rattle.srm_world.specs.declared.event.Event.TheVariants.{Draw, Deliver, Tick, Show, Leave, Give, Take}
use Rattle.srm_world.specs.Traces.{of_member}
use Rattle.srm_world.specs.Events.{required_input, input_heard, input_of, in_slot, member_of}
use Rattle.srm_picture.specs.declared.arrow.Arrival.{Arrival}
use Rattle.srm_picture.specs.declared.point.Point.{Point}
use Rattle.srm_picture.specs.ByEntry.{by_entry, point_of}
use Rattle.srm_picture.specs.Arrows.{IsComing, IsArrival, AreArrivals, something_comes, coming_in}
use Rattle.srm_picture.proofs.ByEntry.{enumerate_from-append}
use Rattle.srm_played.specs.Plays.{came, arrival_in, delivered_number}

length-steps_after : {X : Type 0} (before xs : List X) → length (steps_after before xs) ≡ length xs
length-steps_after before [] = refl
length-steps_after before (x ∷ xs) = ap suc (length-steps_after (before ++ x ∷ []) xs)

newest_step : (es : List Entry) (e : Entry) → slice_get (steps (es ++ e ∷ [])) (length es) ≡ Some (record { before = es; this = e })
newest_step es e =
    ap (λ ss. slice_get ss (length es)) (steps-snoc es e) ∙ ap (λ n. slice_get (steps es ++ record { before = es; this = e } ∷ []) n) (sym (length-steps_after [] es)) ∙ at_end (steps es) (record { before = es; this = e })

-- an arrival stays one as entries are added
still : (es : List Entry) (e : Entry) (h : Arrival) → IsArrival es h → IsArrival (es ++ e ∷ []) h
still es e h is = record {
  step = is.step;
  datagram = is.datagram;
  at = slice_get-front (steps es) (steps (es ++ e ∷ [])) h.at.entry is.step (record { before = es; this = e } ∷ [], sym (steps-snoc es e)) is.at;
  member = is.member;
  sent = is.sent;
  comes = is.comes;
  accepted = is.accepted;
}

all_still : (es : List Entry) (e : Entry) (hs : List Arrival) → AllByRecursion (IsArrival es) hs → AllByRecursion (IsArrival (es ++ e ∷ [])) hs
all_still es e hs all = all_by (IsArrival es) (IsArrival (es ++ e ∷ [])) hs (λ h is. still es e h is) all

comings-snoc : (es : List Entry) (e : Entry) → by_entry coming_in (es ++ e ∷ []) ≡ by_entry coming_in es ++ coming_in (length es, e)
comings-snoc es e =
    ap flat (enumerate_from-append 0 es (e ∷ [])) ∙ flat_map-snoc coming_in (enumerate_from 0 es) (0 + length es, e) ∙ ap (λ n. by_entry coming_in es ++ coming_in (n, e)) (zero_more (length es))
  where
    flat : List (ℕ × Entry) → List Point
    flat rs = flat_map coming_in rs

    zero_more : (n : ℕ) → 0 + n ≡ n
    zero_more n = omega arith

-- the input of an event

asked_input : (starts : List Start) (es : List Entry) (event : Event) (input : Input) → required_input starts es event ≡ Some input → input_of es event ≡ Some input
asked_input starts es event input e = which (nat_lt (member_of event) (length starts)) (input_of es event) e
  where
    which : (b : Bool) (o : Option Input) → cond b o None ≡ Some input → o ≡ Some input
    which true o e = e
    which false o e = absurd (cc)

-- the datagram that a delivery delivers
delivered : (gone : Bool) (o : Option Datagram) (input : Input) → option_map (input_heard gone) o ≡ Some input → (g : Datagram) × (o ≡ Some g) × (input ≡ input_heard gone g)
delivered gone None input e = absurd (cc)
delivered gone (Some g) input e = (g, refl, sym (same_Some (input_heard gone g) input e))

comes_so : (gone : Bool) (g : Datagram) → IsComing g (input_heard gone g)
comes_so true g = tt
comes_so false g = refl

something : (gone : Bool) (g : Datagram) → something_comes (input_heard gone g) ≡ true
something true g = refl
something false g = refl

slot_quiet : (slot : ℕ) (input made : Input) → in_slot slot made ≡ Some input → something_comes made ≡ false → something_comes input ≡ false
slot_quiet slot input made e quiet = which (nat_lt slot 8) e
  where
    which : (b : Bool) → cond b (Some made) None ≡ Some input → something_comes input ≡ false
    which true e = ap something_comes (sym (same_Some made input e)) ∙ quiet
    which false e = absurd (cc)

-- an event that delivers nothing brings nothing
quiet : (es : List Entry) (event : Event) (input : Input) → delivered_number event ≡ None → input_of es event ≡ Some input → something_comes input ≡ false
quiet es (Draw member now page body) input none e = ap something_comes (sym (same_Some (Drew page body) input e))
quiet es (Deliver member now index) input none e = absurd (cc)
quiet es (Tick member now) input none e = ap something_comes (sym (same_Some Ticked input e))
quiet es (Show member now page) input none e = ap something_comes (sym (same_Some (Showed page) input e))
quiet es (Leave member now) input none e = ap something_comes (sym (same_Some AskedLeave input e))
quiet es (Give member slot) input none e = slot_quiet slot input (Gave slot) e refl
quiet es (Take member slot) input none e = slot_quiet slot input (Took slot) e refl

-- what a delivery brings
record Brings (es : List Entry) (number : ℕ) (input : Input) : Type 0 where
  pub datagram : Datagram
  pub sent : slice_get (sent es) number ≡ Some datagram
  pub comes : IsComing datagram input
  pub something : something_comes input ≡ true

brings : (es : List Entry) (event : Event) (number : ℕ) (input : Input) → delivered_number event ≡ Some number → input_of es event ≡ Some input → Brings es number input
brings es (Deliver member now index) number input n e =
    let (g, there, is) = delivered (is_gone (state (of_member member es))) (slice_get (sent es) index) input e in
    record {
      datagram = g;
      sent = ap (slice_get (sent es)) (sym (same_Some index number n)) ∙ there;
      comes = subst (IsComing g) (sym is) (comes_so (is_gone (state (of_member member es))) g);
      something = ap something_comes is ∙ something (is_gone (state (of_member member es))) g;
    }
brings es (Draw member now page body) number input n e = absurd (cc)
brings es (Tick member now) number input n e = absurd (cc)
brings es (Show member now page) number input n e = absurd (cc)
brings es (Leave member now) number input n e = absurd (cc)
brings es (Give member slot) number input n e = absurd (cc)
brings es (Take member slot) number input n e = absurd (cc)

-- one entry more

come_one : (index : ℕ) (e : Entry) → something_comes e.input ≡ true → coming_in (index, e) ≡ point_of (index, e) ∷ []
come_one index e some = ap (λ b. cond b (point_of (index, e) ∷ []) []) some

come_none : (index : ℕ) (e : Entry) → something_comes e.input ≡ false → coming_in (index, e) ≡ []
come_none index e none = ap (λ b. cond b (point_of (index, e) ∷ []) []) none

right_one : (es : List Entry) (e : Entry) (hs : List Arrival) (number : ℕ) → Brings es number e.input → AreArrivals es hs → AreArrivals (es ++ e ∷ []) (hs ++ arrival_in (length es, e) number ∷ [])
right_one es e hs number b all = record {
  each = AllByRecursion-append (IsArrival (es ++ e ∷ [])) hs (arrival_in (length es, e) number ∷ []) (all_still es e hs all.each) (newest, tt);
  places = map-append (λ (x : Arrival). x.at) hs (arrival_in (length es, e) number ∷ []) ∙ ap (λ ps. ps ++ point_of (length es, e) ∷ []) all.places
      ∙ ap (λ ps. by_entry coming_in es ++ ps) (sym (come_one (length es) e b.something)) ∙ sym (comings-snoc es e);
}
  where
    newest : IsArrival (es ++ e ∷ []) (arrival_in (length es, e) number)
    newest = record { step = record { before = es; this = e }; datagram = b.datagram; at = newest_step es e; member = refl; sent = b.sent; comes = b.comes; accepted = refl }

right_none : (es : List Entry) (e : Entry) (hs : List Arrival) → something_comes e.input ≡ false → AreArrivals es hs → AreArrivals (es ++ e ∷ []) (hs ++ [])
right_none es e hs none all = record {
  each = AllByRecursion-append (IsArrival (es ++ e ∷ [])) hs [] (all_still es e hs all.each) tt;
  places = ap (map (λ (x : Arrival). x.at)) (append-nil hs) ∙ all.places ∙ sym (comings-snoc es e ∙ ap (λ ps. by_entry coming_in es ++ ps) (come_none (length es) e none) ∙ append-nil (by_entry coming_in es));
}

-- an event that left an entry
pub right_more : (starts : List Start) (es : List Entry) (event : Event) (e : Entry) (hs : List Arrival) → required_input starts es event ≡ Some e.input → AreArrivals es hs → AreArrivals (es ++ e ∷ []) (hs ++ came (delivered_number event) (length es, e))
right_more starts es event e hs asks all = which (delivered_number event) refl
  where
    asks_it : input_of es event ≡ Some e.input
    asks_it = asked_input starts es event e.input asks

    which : (o : Option ℕ) → delivered_number event ≡ o → AreArrivals (es ++ e ∷ []) (hs ++ came o (length es, e))
    which (Some number) is = right_one es e hs number (brings es event number e.input is asks_it) all
    which None is = right_none es e hs (quiet es event e.input is asks_it) all
