-- What playing the events of a script results in: the trace of a world, and which datagram came in which entry.
use Rattle.std.specs.Prelude.{◌≡◌, ℕ, List, [], ◌∷◌, ◌++◌, length, drop, Option, Some, None, option_map, option_to_list}
use Rattle.std.specs.List.{flat_map, enumerate_from}
use Rattle.srm_entries.specs.declared.entry.Entry.{Entry}
use Rattle.srm_world.specs.declared.start.Start.{Start}
use Rattle.srm_world.specs.declared.event.Event.{Event}
use Rattle.srm_world.specs.declared.event.Event.TheVariants.{Deliver}
use Rattle.srm_world.specs.Traces.{Trace}
use Rattle.srm_world.specs.Events.{FollowsOne}
use Rattle.srm_picture.specs.declared.arrow.Arrival.{Arrival}
use Rattle.srm_picture.specs.ByEntry.{point_of}
use Rattle.srm_picture.specs.Arrows.{is_done}

-- what happened, and which datagrams came in which entries
pub record PlayedContent : Type 0 where
  pub trace : Trace
  pub arrivals : List Arrival

-- members that began so, and did nothing yet
abbrev pub unplayed : List Start → PlayedContent
unplayed starts = record { trace = record { starts = starts; entries = [] }; arrivals = [] }

-- the number of the datagram that an event delivers
abbrev pub delivered_number : Event → Option ℕ
delivered_number (Deliver member now index) = Some index
delivered_number _ = None

-- the arrival of the datagram with this number, in an entry
abbrev pub arrival_in : ℕ × Entry → ℕ → Arrival
arrival_in r number = record { number = number; at = point_of r; accepted = is_done r.1.verdict }

-- what came in an entry, by the number in its event
abbrev pub came : Option ℕ → ℕ × Entry → List Arrival
came number r = option_to_list (option_map (arrival_in r) number)

-- the entries that were added to the old ones, each with its place
abbrev pub added : List Entry → List Entry → List (ℕ × Entry)
added old new = enumerate_from (length old) (drop (length old) new)

-- Playing one event: the trace grows as that of a world does, and what came in the entry that was added, if one was, is noted.
pub record PlaysOne (old : PlayedContent) (event : Event) (new : PlayedContent) : Type 0 where
  pub starts : new.trace.starts ≡ old.trace.starts
  pub follows : FollowsOne old.trace.starts old.trace.entries event new.trace.entries
  pub arrivals : new.arrivals ≡ old.arrivals ++ flat_map (came (delivered_number event)) (added old.trace.entries new.trace.entries)

-- playing events in order
abbrev pub Plays : PlayedContent → List Event → PlayedContent → Type 0
Plays old [] new = new ≡ old
Plays old (event ∷ events) new = (between : PlayedContent) × PlaysOne old event between × Plays between events new
