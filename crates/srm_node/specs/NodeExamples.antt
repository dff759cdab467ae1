-- What lanes carry, what is counted and how runs, workers and hosts end, at worked examples.
use Rattle.std.specs.Prelude.{◌≡◌, ℕ, suc, ◌+◌, ◌==◌, ◌≤◌, Bool, true, false, List, [], ◌∷◌, Ok, Err, Some, None, replicate, refl}
use Rattle.std.proofs.Common.{arith, inl, inr, ap, sym}
use Rattle.srm_names.specs.Names.{first_page, stream_on}
use Rattle.srm_names.specs.declared.page_msg.PageMsg.{PageMsg}
use Rattle.srm_names.specs.declared.page_msg.PageMsg.TheVariants.{Open, Draw, Close}
use Rattle.srm_names.specs.PageFeeds.{is_page_feed}
use Rattle.srm_pages.specs.declared.stroke.Stroke.{Stroke}
use Rattle.srm_pages.specs.Ends.{FeedView, TapView, LaneId}
use Rattle.srm_entries.specs.declared.cause.Cause.TheVariants.{Own, Stranger}
use Rattle.srm_entries.specs.declared.fault.AgentFault.TheVariants.{BodyLong}
use Rattle.srm_entries.specs.declared.entry.Entry.{Entry}
use Rattle.srm_entries.specs.declared.entry.Input.TheVariants.{Drew, Noise, Ticked}
use Rattle.srm_entries.specs.declared.entry.Verdict.TheVariants.{Ignored, Refused}
use Rattle.srm_entries.specs.declared.state.AgentState.TheVariants.{Active, Leaving, Gone}
use Rattle.srm_entries.specs.Entries.{released}
use Rattle.srm_entries.specs.Giving.{given}
use Rattle.srm_entries.specs.Sample.{first_drawop, second_drawop, entry, quiet, draws, gives}
use Rattle.srm_node.specs.declared.fault.NodeFault.TheVariants.{Turns}
use Rattle.srm_node.specs.declared.fault.NodeFault.TheVariants as faults
use Rattle.srm_node.specs.declared.working.WorkEnd.TheVariants.{Closed, Memory}
use Rattle.srm_node.specs.Counting.{counts_of}
use Rattle.srm_node.specs.Carrying.{Carries, PutsReleased}
use Rattle.srm_node.specs.Parts.{HearingEnds}
use Rattle.srm_node.specs.Nodes.{has_ended}
use Rattle.srm_node.specs.Turns.{Paused, RunEnds, TurnEnds}
use Rattle.srm_node.specs.TurnSample.{Node, calls}
use Rattle.srm_node.specs.Working.{Took, SeesEach, TakesAndHands, EndsSo, StepEndsSo}
use Rattle.srm_node.specs.Hosting.{Kinds, StopsBy, WorkedEach}
use Rattle.srm_wire.specs.Wires.{none_there, it_failed}

-- HEARING

-- None was there after 3: without a failed receive that is the end.
none_after_3 : HearingEnds false 3 (none_there ∷ [])
none_after_3 = inr (omega arith, refl)

-- so it is after 64, and none is asked for more
full_turn : HearingEnds false 64 []
full_turn = inl (refl, refl)

-- the receive that failed was one of the 64, and the last
failed_after_63 : HearingEnds true 63 (it_failed ∷ [])
failed_after_63 = (omega arith, refl)

not_failed_after_64 : HearingEnds true 64 (it_failed ∷ []) → ⊥
not_failed_after_64 h = omega (arith, h.0)

-- a node that goes on to hear behind it
not_gone_on : HearingEnds true 3 (it_failed ∷ none_there ∷ []) → ⊥
not_gone_on h = let last : it_failed ∷ none_there ∷ [] ≡ it_failed ∷ [] = h.1 in cc

-- LANES

-- The page was opened for the worker, and the first drawop of member 0 given; the journal has a second one that isn't given yet.
abbrev released_two : List Entry
released_two = draws 0 5 first_drawop ∷ gives 0 5 (Some (Open first_page)) ∷ gives 0 5 (Some (Draw first_drawop)) ∷ draws 0 6 second_drawop ∷ []

gave_both : given released_two 0 ≡ Open first_page ∷ Draw first_drawop ∷ []
gave_both = refl

abbrev feed : Bool → List PageMsg → LaneId → FeedView
feed lost put lane = record { put = put; seen = 0; disconnected = lost; slot = 0; lane = lane; board = lane.board }

-- a lane that stands has all that was given
carries_all : (lane : LaneId) → Carries (given released_two 0) (feed false (Open first_page ∷ Draw first_drawop ∷ []) lane)
carries_all lane = refl

-- of a disconnected one the last message given came back
carries_but_the_last : (lane : LaneId) → Carries (given released_two 0) (feed true (Open first_page ∷ []) lane)
carries_but_the_last lane = (Draw first_drawop, refl)

-- With the page alone put, what is released stands all before the worker; the feed begins with its page.
puts_the_page : PutsReleased released_two 0 (Open first_page ∷ [])
puts_the_page = record { feed = refl; prefix = λ source page at. (released released_two (stream_on source page), refl) }

-- a drawop before its page is no page feed
page_comes_first : is_page_feed (Draw first_drawop ∷ []) ≡ false
page_comes_first = refl

-- COUNTING

-- noise, an own datagram that came back, a stranger's, and a stroke that is too long
abbrev came_to_nothing : List Entry
came_to_nothing = entry 0 5 Noise (quiet Active) ∷ record (entry 0 5 Noise (quiet Active)) { verdict = Ignored Own } ∷ record (entry 0 5 Ticked (quiet Active)) { verdict = Ignored Stranger }
    ∷ record (entry 0 6 (Drew first_page (replicate 1025 7)) (quiet Active)) { verdict = Refused BodyLong } ∷ []

counted : counts_of came_to_nothing ≡ record { noise = 2; ignored = 1 ∷ 0 ∷ 0 ∷ 0 ∷ 0 ∷ 0 ∷ 1 ∷ []; dropped = 1 }
counted = refl

-- RUNS

-- no turn, no change
no_turns : (n : Node) → has_ended n ≡ false → RunEnds calls (Err Turns) 0 n n
no_turns n goes_on = record { runs = record { turns = refl }; goes_on = goes_on }

-- a run that came to its end needn't have spent its turns
ends_at_once : (n : Node) → has_ended n ≡ true → RunEnds calls (Ok tt) 5 n n
ends_at_once n ended = record { count = 0; few = omega arith; runs = record { turns = refl }; ended = ended }

-- no turn ends by fault 3
no_turn_is_spent : (old new : Node) → TurnEnds calls (Err Turns) old new ≡ ⊥
no_turn_is_spent old new = refl

-- a pause in which two calls of the wire failed
paused : (n : Node) → Paused calls n (record n { failures = n.failures + 2; wire = suc n.wire; clock = suc n.clock })
paused n = record { told = 1; reads = (refl, refl); micros = 0; short = omega arith; pauses = refl; failures = omega arith; same = refl }

-- none lasts longer than 10 ms
lasts_10_ms : (a b : Node) (p : Paused calls a b) → p.micros ≤ 10000
lasts_10_ms a b p = p.short

-- none takes a stroke in hand
takes_no_stroke : (n : Node) (s : Stroke) → Paused calls n (record n { hand = Some s }) → n.hand ≡ Some s
takes_no_stroke n s h = sym (ap (λ (x : Node). x.hand) h.same)

-- THE END

-- Of two feeds one put its close, and the other one is disconnected; by its last entry the member is gone.
abbrev both_done : LaneId → List FeedView
both_done lane = feed false (Open first_page ∷ Draw first_drawop ∷ Close ∷ []) lane ∷ feed true (Open first_page ∷ []) lane ∷ []

abbrev ended : Node → LaneId → Node
ended n lane = record n { journal = record n.journal { entries = entry 0 4 Ticked (quiet Leaving) ∷ entry 0 5 Ticked (quiet Gone) ∷ [] }; feeds = both_done lane }

gone_and_done : (n : Node) (lane : LaneId) → has_ended (ended n lane) ≡ true
gone_and_done n lane = refl

-- not while a feed that isn't disconnected has no close
not_while_open : (n : Node) (lane : LaneId) → has_ended (record (ended n lane) { feeds = feed false (Open first_page ∷ Draw first_drawop ∷ []) lane ∷ both_done lane }) ≡ false
not_while_open n lane = refl

-- nor while the member is leaving
not_while_leaving : (n : Node) (lane : LaneId) → has_ended (record (ended n lane) { journal = record n.journal { entries = entry 0 4 Ticked (quiet Leaving) ∷ [] } }) ≡ false
not_while_leaving n lane = refl

-- WORKERS

abbrev tap : List PageMsg → LaneId → TapView
tap taken lane = record { taken = taken; closed = false; seat = []; slot = 3; lane = lane; board = lane.board }

took_two : (lane : LaneId) → Took (tap (Open first_page ∷ []) lane) (tap (Open first_page ∷ Draw first_drawop ∷ Close ∷ []) lane) (Draw first_drawop ∷ Close ∷ [])
took_two lane = record { is = refl }

-- A sink that counts, and stops its worker at the second message: of two it saw both, in slot 3.
abbrev Stops : ℕ → ℕ → PageMsg → Bool → ℕ → Type 0
Stops old slot m goes_on new = (slot ≡ 3) × (new ≡ suc old) × (goes_on ≡ (old == 0))

stopped_at_two : SeesEach Stops 3 true (Open first_page ∷ Draw first_drawop ∷ []) 0 2
stopped_at_two = (1, true, (refl, refl, refl), (2, false, (refl, refl, refl), (refl, refl, refl)))

-- it goes on behind one
not_stopped_at_one : SeesEach Stops 3 false (Open first_page ∷ []) 0 1
not_stopped_at_one = (1, true, (refl, refl, refl), (refl, refl))

-- a step of the worker that took the second one, which the sink saw and stopped it at
took_the_second : (lane : LaneId) → TakesAndHands Stops true (tap (Open first_page ∷ []) lane) (tap (Open first_page ∷ Draw first_drawop ∷ []) lane) (Open first_page ∷ []) (Open first_page ∷ Draw first_drawop ∷ []) 1 2
took_the_second lane = record { more = Draw first_drawop ∷ []; took = record { is = refl }; grew = refl; seen = (2, false, (refl, refl, refl), (refl, refl, refl)) }

-- a step that took nothing, where the lane was at its end
took_nothing : (lane : LaneId) → TakesAndHands Stops false (tap (Open first_page ∷ []) lane) (record (tap (Open first_page ∷ []) lane) { closed = true }) (Open first_page ∷ []) (Open first_page ∷ []) 1 1
took_nothing lane = record { more = []; took = record { is = refl }; grew = refl; seen = (refl, refl) }

-- HOSTS

-- where a worker couldn't be started the node wasn't turned, and the fault is out of memory
not_turned : (n : Node) → StopsBy calls false faults.Memory 5 n n
not_turned n = inr (refl, refl, refl)

-- a worker that is left out, or one too many, is no host's end
one_left_out : {L S : Type 0} (kinds : Kinds L S) (start : TapView × S) → WorkedEach kinds (start ∷ []) [] ≡ ⊥
one_left_out kinds start = refl

-- HOW A WORKER ENDS

-- Closed where a take found the lane at its end, and Memory where the list was refused room
closed_at_the_end : EndsSo true ⊥ Closed
closed_at_the_end = refl

-- out of memory isn't told as Closed: the list would be cut short, and nobody would know
memory_is_not_closed : EndsSo false (Unit {0}) Closed → ⊥
memory_is_not_closed h = cc

-- nor Memory where no room was refused
no_memory_without_a_refusal : EndsSo true ⊥ Memory → ⊥
no_memory_without_a_refusal h = h

-- a step that goes on ended nothing
goes_on : StepEndsSo false ⊥ None
goes_on = tt
