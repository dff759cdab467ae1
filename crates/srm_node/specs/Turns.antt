-- One turn of a node, part by part.
use Rattle.std.specs.Prelude.{◌≡◌, ◌⊎◌, ℕ, zero, suc, ◌<◌, ◌≤◌, ◌||◌, Bool, true, false, List, map, Option, Result, Ok, Err}
use Rattle.srm_names.specs.declared.limits.TheConstants.{PAGES}
use Rattle.srm_pages.specs.Ends.{is_drained, looked_at}
use Rattle.srm_outbox.specs.declared.out.Out.{Out}
use Rattle.srm_node.specs.declared.fault.NodeFault.{NodeFault}
use Rattle.srm_node.specs.declared.fault.NodeFault.TheVariants.{Wire, Memory, Turns}
use Rattle.srm_wire.specs.declared.sent.Sent.{Sent}
use Rattle.srm_wire.specs.Wires.{CountsIf, RoseOrFull, Sends, SendsEach, dispatched}
use Rattle.srm_node.specs.Calls.{Calls}
use Rattle.srm_node.specs.Parts.{Listened, ListenedCut, strokes_after, DrewStrokes, DrewStrokesCut, is_to_leave, still_asked, Leaves, Ticks, GivesUpTo, GaveSome}
use Rattle.srm_node.specs.Showing.{ShowsAsked, ShowsAskedCut}
use Rattle.srm_node.specs.Nodes.{NodeView, has_ended, moment_of}
use Rattle.srm_node.specs.Pauses.{LONGEST_PAUSE}

-- The clock was read once.
pub record ReadsNow {X C : Type 0} (Reads : C → ℕ → C → Type 0) (now : ℕ) (old new : NodeView X C) : Type 0 where
  pub told : ℕ
  pub reads : Reads old.clock told new.clock
  pub counts : now ≡ moment_of told
  pub same : new ≡ record old { clock = new.clock }

-- What came was heard or dropped, so many datagrams, all of it unless a call failed, and with the call that failed the hearing ends.
pub record HearsNow {X C : Type 0} (Receives : X → ℕ → List (Option (List ℕ)) → X → Type 0) (now count : ℕ) (unheard : Bool) (old new : NodeView X C) : Type 0 where
  pub listened : Listened Receives now count unheard old.limit new.limit old.journal new.journal old.told new.told old.wire new.wire
  pub failures : CountsIf unheard old.failures new.failures
  pub same : new ≡ record old { limit = new.limit; journal = new.journal; failures = new.failures; told = new.told; wire = new.wire }

-- The producers were looked at, and all said that they are done, or not.
pub record LooksNow {X C : Type 0} (old new : NodeView X C) : Type 0 where
  pub pens_done : Bool
  pub same : new ≡ record old { well = record old.well { done_at = looked_at pens_done old.well.nones } }

-- Strokes were drawn, at most so many, as far as the rate lets them go.
pub record DrawsNow {X C : Type 0} (now most : ℕ) (none_left : Bool) (old new : NodeView X C) : Type 0 where
  pub drew : DrewStrokes now most none_left old.journal new.journal old.well new.well old.hand new.hand
  pub same : new ≡ record old { journal = new.journal; well = new.well; hand = new.hand }

-- The member leaves where it is to by now, no stroke is left, and the stroke queue was found to have none after its producers said that they are done; else it
-- stays, and is still to leave if it was.
pub record LeavesNow {X C : Type 0} (now : ℕ) (none_left : Bool) (old new : NodeView X C) : Type 0 where
  pub leaves : Leaves now (is_to_leave none_left (is_drained old.well) old.asked now) old.journal new.journal
  pub same : new ≡ record old { journal = new.journal; asked = still_asked (is_to_leave none_left (is_drained old.well) old.asked now) old.asked }

-- What another thread asks for was looked at once: at most one page was shown or begun. Of a node without a control nothing was.
pub record ShowsNow {X C : Type 0} (now : ℕ) (old new : NodeView X C) : Type 0 where
  pub shows : ShowsAsked now old.journal new.journal old.control new.control
  pub same : new ≡ record old { journal = new.journal; control = new.control }

-- The member ticked once. What the tick sends was sent to each other member in order, whatever failed, and all of it went unless a call failed.
pub record TicksNow {X C : Type 0} (SendsOne : X → Sent → Bool → X → Type 0) (now : ℕ) (unsent : Bool) (old new : NodeView X C) : Type 0 where
  pub outs : List Out
  pub ticks : Ticks now outs old.journal new.journal
  pub sends : Sends unsent (dispatched old.journal.start.config.me old.journal.start.config.members (map (λ (o : Out). o.bytes) outs)) old.failures new.failures old.told new.told
  pub tried : SendsEach SendsOne unsent (dispatched old.journal.start.config.me old.journal.start.config.members (map (λ (o : Out). o.bytes) outs)) old.wire new.wire
  pub same : new ≡ record old { journal = new.journal; failures = new.failures; told = new.told; wire = new.wire }

-- The slots were given messages. Those below this one are served.
pub record GivesNow {X C : Type 0} (below : ℕ) (old new : NodeView X C) : Type 0 where
  pub gives : GivesUpTo below old.journal new.journal old.feeds new.feeds
  pub same : new ≡ record old { journal = new.journal; feeds = new.feeds }

-- A turn up to its leaving: the clock is read once, what came is heard, the producers are looked at, strokes are drawn, at most as many as may be behind what was
-- heard, and the member leaves if that is due.
pub record TurnToLeaving {X C : Type 0} (calls : Calls X C) (now : ℕ) (unheard : Bool) (old new : NodeView X C) : Type 0 where
  pub none_left : Bool
  pub came : ℕ
  pub most : ℕ
  pub read : NodeView X C
  pub heard : NodeView X C
  pub looked : NodeView X C
  pub drawn : NodeView X C
  pub reads : ReadsNow calls.reads now old read
  pub hears : HearsNow calls.receives now came unheard read heard
  pub room : most ≡ strokes_after came
  pub looks : LooksNow heard looked
  pub draws : DrawsNow now most none_left looked drawn
  pub leaves : LeavesNow now none_left drawn new

-- and then a page that another thread asks for is shown
pub record TurnToShowing {X C : Type 0} (calls : Calls X C) (now : ℕ) (unheard : Bool) (old new : NodeView X C) : Type 0 where
  pub left : NodeView X C
  pub to_leaving : TurnToLeaving calls now unheard old left
  pub shows : ShowsNow now left new

-- and then it ticks once
pub record TurnToTick {X C : Type 0} (calls : Calls X C) (unheard unsent : Bool) (old new : NodeView X C) : Type 0 where
  pub now : ℕ
  pub shown : NodeView X C
  pub to_showing : TurnToShowing calls now unheard old shown
  pub ticks : TicksNow calls.sends now unsent shown new

-- a turn, which serves all slots behind the tick
pub record Turned {X C : Type 0} (calls : Calls X C) (unheard unsent : Bool) (old new : NodeView X C) : Type 0 where
  pub ticked : NodeView X C
  pub to_tick : TurnToTick calls unheard unsent old ticked
  pub gives : GivesNow PAGES ticked new

-- The turn was done to its end, though a receive or a send failed, which the wire's count shows: each datagram was tried all the same.
pub record TurnedDeaf {X C : Type 0} (calls : Calls X C) (old new : NodeView X C) : Type 0 where
  pub unheard : Bool
  pub unsent : Bool
  pub some : (unheard || unsent) ≡ true
  pub turned : Turned calls unheard unsent old new
  pub failed : RoseOrFull old.failures new.failures

-- Memory ran out while the node heard: what came last is lost.
pub record HearsCut {X C : Type 0} (Receives : X → ℕ → List (Option (List ℕ)) → X → Type 0) (now : ℕ) (old new : NodeView X C) : Type 0 where
  pub listened : ListenedCut Receives now old.limit new.limit old.journal new.journal old.told new.told old.wire new.wire
  pub failures : old.failures ≤ new.failures
  pub same : new ≡ record old { limit = new.limit; journal = new.journal; failures = new.failures; told = new.told; wire = new.wire }

-- Memory ran out while it drew: the stroke is in hand.
pub record DrawsCut {X C : Type 0} (now most : ℕ) (old new : NodeView X C) : Type 0 where
  pub drew : DrewStrokesCut now most old.journal new.journal old.well new.well old.hand new.hand
  pub same : new ≡ record old { journal = new.journal; well = new.well; hand = new.hand }

-- Memory ran out while it showed a page: the command is in hand.
pub record ShowsCut {X C : Type 0} (old new : NodeView X C) : Type 0 where
  pub shows : ShowsAskedCut old.journal new.journal old.control new.control
  pub same : new ≡ record old { journal = new.journal; control = new.control }

-- Memory ran out while it gave, in one of the slots: those before it are served, and each lane carries what was given.
pub record GivesCut {X C : Type 0} (old new : NodeView X C) : Type 0 where
  pub gives : GaveSome old.journal new.journal old.feeds new.feeds
  pub same : new ≡ record old { journal = new.journal; feeds = new.feeds }

-- the turn was cut while it heard
pub record CutHearing {X C : Type 0} (calls : Calls X C) (old new : NodeView X C) : Type 0 where
  pub now : ℕ
  pub read : NodeView X C
  pub reads : ReadsNow calls.reads now old read
  pub hears : HearsCut calls.receives now read new

-- while it drew
pub record CutDrawing {X C : Type 0} (calls : Calls X C) (old new : NodeView X C) : Type 0 where
  pub now : ℕ
  pub unheard : Bool
  pub came : ℕ
  pub most : ℕ
  pub read : NodeView X C
  pub heard : NodeView X C
  pub looked : NodeView X C
  pub reads : ReadsNow calls.reads now old read
  pub hears : HearsNow calls.receives now came unheard read heard
  pub room : most ≡ strokes_after came
  pub looks : LooksNow heard looked
  pub draws : DrawsCut now most looked new

-- as it was to leave, which wasn't done
pub record CutLeaving {X C : Type 0} (calls : Calls X C) (old new : NodeView X C) : Type 0 where
  pub now : ℕ
  pub none_left : Bool
  pub unheard : Bool
  pub came : ℕ
  pub most : ℕ
  pub read : NodeView X C
  pub heard : NodeView X C
  pub looked : NodeView X C
  pub reads : ReadsNow calls.reads now old read
  pub hears : HearsNow calls.receives now came unheard read heard
  pub room : most ≡ strokes_after came
  pub looks : LooksNow heard looked
  pub draws : DrawsNow now most none_left looked new

-- while it showed a page
pub record CutShowing {X C : Type 0} (calls : Calls X C) (old new : NodeView X C) : Type 0 where
  pub now : ℕ
  pub unheard : Bool
  pub left : NodeView X C
  pub to_leaving : TurnToLeaving calls now unheard old left
  pub shows : ShowsCut left new

-- as it was to tick, which wasn't done
pub record CutTicking {X C : Type 0} (calls : Calls X C) (old new : NodeView X C) : Type 0 where
  pub now : ℕ
  pub unheard : Bool
  pub to_showing : TurnToShowing calls now unheard old new

-- while it gave
pub record CutGiving {X C : Type 0} (calls : Calls X C) (old new : NodeView X C) : Type 0 where
  pub unheard : Bool
  pub unsent : Bool
  pub ticked : NodeView X C
  pub to_tick : TurnToTick calls unheard unsent old ticked
  pub gives : GivesCut ticked new

-- Memory ran out in one part of the turn. The parts before were done, each as in a whole turn.
abbrev pub IsCut : {X C : Type 0} → Calls X C → NodeView X C → NodeView X C → Type 0
IsCut calls old new = CutHearing calls old new ⊎ CutDrawing calls old new ⊎ CutLeaving calls old new ⊎ CutShowing calls old new ⊎ CutTicking calls old new ⊎ CutGiving calls old new

abbrev pub TurnEnds : {X C : Type 0} → Calls X C → Result (Unit {0}) NodeFault → NodeView X C → NodeView X C → Type 0
TurnEnds calls (Ok _) old new = Turned calls false false old new
TurnEnds calls (Err Wire) old new = TurnedDeaf calls old new
TurnEnds calls (Err Memory) old new = IsCut calls old new
TurnEnds calls (Err Turns) old new = ⊥

-- the clock was read once, and the wire was to wait once, 10 ms at most, which may have raised its count of failures
pub record Paused {X C : Type 0} (calls : Calls X C) (old new : NodeView X C) : Type 0 where
  pub told : ℕ
  pub reads : calls.reads old.clock told new.clock
  pub micros : ℕ
  pub short : micros ≤ LONGEST_PAUSE
  pub pauses : calls.pauses old.wire micros new.wire
  pub failures : old.failures ≤ new.failures
  pub same : new ≡ record old { failures = new.failures; wire = new.wire; clock = new.clock }

-- so many whole turns, each after a pause, of a node that hadn't ended
abbrev pub RunsOf : {X C : Type 0} → Calls X C → ℕ → NodeView X C → NodeView X C → Type 0
RunsOf calls zero old new = new ≡ old
RunsOf {X} {C} calls (suc n) old new = (before : NodeView X C) × (paused : NodeView X C) × RunsOf calls n old before × (has_ended before ≡ false) × Paused calls before paused × Turned calls false false paused new

pub record WholeTurns {X C : Type 0} (calls : Calls X C) (count : ℕ) (old new : NodeView X C) : Type 0 where
  pub turns : RunsOf calls count old new

-- whole turns, and then one that ends with this fault
pub record RunsInto {X C : Type 0} (calls : Calls X C) (fault : NodeFault) (limit : ℕ) (old new : NodeView X C) : Type 0 where
  pub count : ℕ
  pub few : count < limit
  pub before : NodeView X C
  pub paused : NodeView X C
  pub runs : WholeTurns calls count old before
  pub goes_on : has_ended before ≡ false
  pub pauses : Paused calls before paused
  pub ends : TurnEnds calls (Err fault) paused new

-- whole turns, until the node has ended
pub record RunsToEnd {X C : Type 0} (calls : Calls X C) (limit : ℕ) (old new : NodeView X C) : Type 0 where
  pub count : ℕ
  pub few : count ≤ limit
  pub runs : WholeTurns calls count old new
  pub ended : has_ended new ≡ true

-- whole turns, until all are spent
pub record SpendsTurns {X C : Type 0} (calls : Calls X C) (limit : ℕ) (old new : NodeView X C) : Type 0 where
  pub runs : WholeTurns calls limit old new
  pub goes_on : has_ended new ≡ false

-- At no fault some turns were whole, and then the node has ended; at fault 3 all were, and it hasn't; at another fault the last one ended
-- with it.
abbrev pub RunEnds : {X C : Type 0} → Calls X C → Result (Unit {0}) NodeFault → ℕ → NodeView X C → NodeView X C → Type 0
RunEnds calls (Ok _) turns old new = RunsToEnd calls turns old new
RunEnds calls (Err Turns) turns old new = SpendsTurns calls turns old new
RunEnds calls (Err fault) turns old new = RunsInto calls fault turns old new
