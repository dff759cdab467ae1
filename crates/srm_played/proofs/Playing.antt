-- Playing a script event by event.
use Rattle.std.proofs.Common.{◌≡◌, List, [], ◌∷◌, ◌++◌, length, refl, ap, sym, ◌∙◌, subst}
use Rattle.std.specs.Prelude.{Option, Some, None, drop, MatchOption}
use Rattle.std.specs.List.{enumerate_from, flat_map}
use Rattle.std.proofs.lemmas.List.{append-nil}
use Rattle.srm_entries.specs.declared.entry.Entry.{Entry}
use Rattle.srm_entries.specs.declared.entry.Input.{Input}
use Rattle.srm_world.specs.declared.event.Event.{Event}
use Rattle.srm_world.specs.Traces.{Trace}
use Rattle.srm_world.specs.Events.{IsEntryOf, required_input}
use Rattle.srm_picture.specs.declared.arrow.Arrival.{Arrival}
use Rattle.srm_picture.specs.Arrows.{AreArrivals}
use Rattle.srm_played.specs.Plays.{PlayedContent, Plays, PlaysOne, added, came, delivered_number}
use Rattle.srm_played.proofs.Coming.{right_more}

none_added : (es : List Entry) → added es es ≡ []
none_added es = ap (enumerate_from (length es)) (drop_all es)
  where
    drop_all : (xs : List Entry) → drop (length xs) xs ≡ []
    drop_all [] = refl
    drop_all (x ∷ xs) = drop_all xs

one_added : (es : List Entry) (e : Entry) → added es (es ++ e ∷ []) ≡ (length es, e) ∷ []
one_added es e = ap (enumerate_from (length es)) (drop_front es)
  where
    drop_front : (xs : List Entry) → drop (length xs) (xs ++ e ∷ []) ≡ e ∷ []
    drop_front [] = refl
    drop_front (x ∷ xs) = drop_front xs

-- after an event each arrival is still right
pub right_after : (old new : Trace) (event : Event) (hs heard : List Arrival) → PlaysOne (record { trace = old; arrivals = hs }) event (record { trace = new; arrivals = heard }) → AreArrivals old.entries hs → AreArrivals new.entries heard
right_after old new event hs heard one all = which (required_input old.starts old.entries event) refl one.follows
  where
    which : (o : Option Input) → required_input old.starts old.entries event ≡ o
        → MatchOption o (new.entries ≡ old.entries) (λ input. (e : Entry) × IsEntryOf old.starts old.entries event input e × (new.entries ≡ old.entries ++ e ∷ []))
        → AreArrivals new.entries heard
    which None a same =
        let quiet : heard ≡ hs = one.arrivals ∙ ap (λ rs. hs ++ flat_map (came (delivered_number event)) rs) (ap (added old.entries) same ∙ none_added old.entries) ∙ append-nil hs in
        subst (λ xs. AreArrivals new.entries xs) (sym quiet) (subst (λ es. AreArrivals es hs) (sym same) all)
    which (Some input) a (e, is, grown) =
        let more : heard ≡ hs ++ came (delivered_number event) (length old.entries, e) =
        one.arrivals ∙ ap (λ rs. hs ++ flat_map (came (delivered_number event)) rs) (ap (added old.entries) grown ∙ one_added old.entries e) ∙ ap (λ xs. hs ++ xs) (append-nil (came (delivered_number event) (length old.entries, e))) in
        subst (λ xs. AreArrivals new.entries xs) (sym more)
        (subst (λ es. AreArrivals es (hs ++ came (delivered_number event) (length old.entries, e))) (sym grown) (right_more old.starts old.entries event e hs (a ∙ ap Some (sym is.input_is)) all))

-- if playing the events that are left results in something from here, playing all events results in it from the beginning
pub record Reaches (begun : PlayedContent) (events : List Event) (now : PlayedContent) (left : List Event) : Type 0 where
  pub goes_on : (end : PlayedContent) → Plays now left end → Plays begun events end

pub reaches_none : (begun : PlayedContent) (events : List Event) → Reaches begun events begun events
reaches_none begun events = record { goes_on = λ end plays. plays }

pub reaches_more : (begun between new : PlayedContent) (events left : List Event) (event : Event) → Reaches begun events between (event ∷ left) → PlaysOne between event new → Reaches begun events new left
reaches_more begun between new events left event so_far one = record { goes_on = λ end plays. so_far.goes_on end (new, one, plays) }

pub reaches_all : (begun now : PlayedContent) (events : List Event) → Reaches begun events now [] → Plays begun events now
reaches_all begun now events so_far = so_far.goes_on now refl
