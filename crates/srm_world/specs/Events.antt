-- What a list of events does to a trace.
use Rattle.std.specs.Prelude.{◌≡◌, ℕ, ◌≤◌, nat_lt, Bool, true, false, List, [], ◌∷◌, ◌++◌, length, Option, Some, None, option_map, unwrap_or, slice_get, if◌then◌else◌, MatchOption, IfSome}
use Rattle.srm_names.specs.declared.limits.TheConstants.{PAGES, LATEST_MOMENT}
use Rattle.srm_codec.specs.declared.datagram.Datagram.{Datagram}
use Rattle.srm_entries.specs.declared.entry.Entry.{Entry}
use Rattle.srm_entries.specs.declared.entry.Input.{Input}
use Rattle.srm_entries.specs.declared.entry.Input.TheVariants.{Drew, Heard, Noise, Ticked, Showed, AskedLeave, Gave, Took}
use Rattle.srm_entries.specs.Entries.{sent, state, is_gone, last_moment}
use Rattle.srm_agent.specs.Noting.{moment_that_counts}
use Rattle.srm_world.specs.declared.event.Event.{Event}
use Rattle.srm_world.specs.declared.event.Event.TheVariants.{Draw, Deliver, Tick, Show, Leave, Give, Take}
use Rattle.srm_world.specs.declared.start.Start.{Start}
use Rattle.srm_world.specs.Traces.{of_member}

abbrev pub member_of : Event → ℕ
member_of (Draw member now page body) = member
member_of (Deliver member now index) = member
member_of (Tick member now) = member
member_of (Show member now page) = member
member_of (Leave member now) = member
member_of (Give member slot) = member
member_of (Take member slot) = member

abbrev pub moment_in : Event → Option ℕ
moment_in (Draw member now page body) = Some now
moment_in (Deliver member now index) = Some now
moment_in (Tick member now) = Some now
moment_in (Show member now page) = Some now
moment_in (Leave member now) = Some now
moment_in (Give member slot) = None
moment_in (Take member slot) = None

-- the event's moment, if it has one, is at most 2^48
abbrev pub IsTimely : Event → Type 0
IsTimely event = IfSome (moment_in event) (λ now. now ≤ LATEST_MOMENT)

-- a datagram that comes to a gone member is noise
abbrev pub input_heard : Bool → Datagram → Input
input_heard true g = Noise
input_heard false g = Heard g

abbrev pub in_slot : ℕ → Input → Option Input
in_slot slot input = if nat_lt slot PAGES then Some input else None

-- the input that the event gives its member; None if there is no such datagram or slot
abbrev pub input_of : List Entry → Event → Option Input
input_of es (Draw member now page body) = Some (Drew page body)
input_of es (Deliver member now index) = option_map (input_heard (is_gone (state (of_member member es)))) (slice_get (sent es) index)
input_of es (Tick member now) = Some Ticked
input_of es (Show member now page) = Some (Showed page)
input_of es (Leave member now) = Some AskedLeave
input_of es (Give member slot) = in_slot slot (Gave slot)
input_of es (Take member slot) = in_slot slot (Took slot)

-- the input that the event gives a member of the session; None if the event is skipped
abbrev pub required_input : List Start → List Entry → Event → Option Input
required_input starts es event = if nat_lt (member_of event) (length starts) then input_of es event else None

-- when a member was made
abbrev pub made_at : List Start → ℕ → ℕ
made_at starts m = unwrap_or (option_map (λ (a : Start). a.made) (slice_get starts m)) 0

-- the last moment of a member
abbrev pub last_of_member : List Start → List Entry → ℕ → ℕ
last_of_member starts es m = last_moment (made_at starts m) (of_member m es)

-- the entry is of this event, with this input
pub record IsEntryOf (starts : List Start) (es : List Entry) (event : Event) (input : Input) (e : Entry) : Type 0 where
  pub member : e.member ≡ member_of event
  pub input_is : e.input ≡ input
  pub moment : e.moment ≡ moment_that_counts (moment_in event) (last_of_member starts es (member_of event))

-- the new entries are the old ones and one of the event, or just the old ones if it is skipped
abbrev pub FollowsOne : List Start → List Entry → Event → List Entry → Type 0
FollowsOne starts old event new =
    MatchOption (required_input starts old event) (new ≡ old) (λ input. (e : Entry) × IsEntryOf starts old event input e × (new ≡ old ++ e ∷ []))

-- the new entries are the old ones, followed by one for each event that isn't skipped, in order
abbrev pub Follows : List Start → List Entry → List Event → List Entry → Type 0
Follows starts old [] new = new ≡ old
Follows starts old (event ∷ events) new = (between : List Entry) × FollowsOne starts old event between × Follows starts between events new
