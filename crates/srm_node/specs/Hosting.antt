-- A node and its page workers in threads.
use Rattle.std.specs.Prelude.{◌≡◌, ◌⊎◌, ℕ, Bool, true, false, List, [], ◌∷◌, ◌++◌, map, drop, length, slice_get, Option, Some, None, Err}
use Rattle.std.specs.Bool.{OnTrue}
use Rattle.std.specs.List.{zip}
use Rattle.srm_names.specs.declared.page_msg.PageMsg.{PageMsg}
use Rattle.srm_pages.specs.Ends.{FeedView, TapView, WellView}
use Rattle.srm_node.specs.declared.hosting.Worker.{Worker}
use Rattle.srm_control.specs.Ends.{CommandsView}
use Rattle.srm_node.specs.declared.hosting.Hosted.{Hosted}
use Rattle.srm_node.specs.declared.hosting.NodeEnds.{NodeEnds}
use Rattle.srm_node.specs.declared.working.Worked.{Worked}
use Rattle.srm_node.specs.Working.{WorkedFrom}
use Rattle.srm_node.specs.Calls.{Calls}
use Rattle.srm_node.specs.Parts.{SameFeeds}
use Rattle.srm_node.specs.Nodes.{NodeView, NodeKeepsLists}
use Rattle.srm_node.specs.declared.fault.NodeFault.{NodeFault}
use Rattle.srm_node.specs.declared.fault.NodeFault.TheVariants.{Memory}
use Rattle.srm_node.specs.Turns.{RunsToEnd, RunEnds}

-- the tap and the sink that a worker was started with
abbrev pub start_of : {L S : Type 0} → Worker L S → TapView × S
start_of w = (w.handle.promise.0.value, w.handle.promise.1.value)

-- the k-th worker is started with the k-th tap and the k-th sink
abbrev pub starts_of : {S : Type 0} → List TapView → List S → List (TapView × S)
starts_of taps sinks = zip taps sinks

-- one tap and one sink less are left, and the last worker was started with them
pub record Starts {L S : Type 0} (taps left : List TapView) (sinks less : List S) (workers more : List (Worker L S)) : Type 0 where
  pub tap : TapView
  pub sink : S
  pub taps_are : taps ≡ tap ∷ left
  pub sinks_are : sinks ≡ sink ∷ less
  pub started_are : map start_of more ≡ map start_of workers ++ (tap, sink) ∷ []

-- What a worker returns, as `WorkedFrom` says, given what its list has, what is known of a list that was refused room, and what its sink sees.
pub record Kinds (L S : Type 0) : Type 1 where
  pub entries : L → List PageMsg
  pub is_refused : L → Type 0
  pub sees : S → ℕ → PageMsg → Bool → S → Type 0

abbrev pub kinds_of : {L S : Type 0} → (L → List PageMsg) → (L → Type 0) → (S → ℕ → PageMsg → Bool → S → Type 0) → Kinds L S
kinds_of entries is_refused sees = record { entries = entries; is_refused = is_refused; sees = sees }

abbrev pub WorkedAs : {L S : Type 0} → Kinds L S → TapView × S → Worked L → Type 0
WorkedAs kinds start w = WorkedFrom kinds.entries kinds.is_refused kinds.sees start.0 start.1 w

-- each worker returned the tap of its lane, as its list what that tap took and its sink saw, and why it ended
abbrev pub WorkedEach : {L S : Type 0} → Kinds L S → List (TapView × S) → List (Worked L) → Type 0
WorkedEach kinds [] [] = Unit {0}
WorkedEach kinds (s ∷ ss) (w ∷ ws) = WorkedAs kinds s w × WorkedEach kinds ss ws
WorkedEach kinds _ _ = ⊥

-- of all these some were joined, and the others not yet
pub record Joins {L S : Type 0} (kinds : Kinds L S) (all : List (TapView × S)) (left : List (Worker L S)) (worked : List (Worked L)) : Type 0 where
  pub joined : List (TapView × S)
  pub split : all ≡ joined ++ map start_of left
  pub each : WorkedEach kinds joined worked

-- Workers were started with the first of these taps and sinks, and with the others not: with all, and there are no others; or the first of the others got no
-- worker, and the taps behind it are left as they were.
pub record StartsUpTo {S : Type 0} (all : Bool) (starts started : List (TapView × S)) (left : List TapView) : Type 0 where
  pub others : List (TapView × S)
  pub split : started ++ others ≡ starts
  pub behind : map (λ (s : TapView × S). s.0) (drop 1 others) ≡ left
  pub whole : OnTrue all (others ≡ [])

-- with all workers started the node ran into this fault; or it was not turned, since a worker couldn't be started
abbrev pub StopsBy : {X C : Type 0} → Calls X C → Bool → NodeFault → ℕ → NodeView X C → NodeView X C → Type 0
StopsBy calls all fault turns old new = ((all ≡ true) × RunEnds calls (Err fault) turns old new) ⊎ ((all ≡ false) × (fault ≡ Memory) × (new ≡ old))

-- After a fault: the feeds were dropped. The node's journal is returned, and the tap and list of each worker that was started.
pub record HostStops {P L S X C : Type 0} (calls : Calls X C) (kinds : Kinds L S) (all : Bool) (node : NodeView X C) (started : List (TapView × S)) (turns : ℕ) (fault : NodeFault) (h : Hosted P L) : Type 0 where
  pub last : NodeView X C
  pub runs : StopsBy calls all fault turns node last
  pub keeps : NodeKeepsLists last
  pub journal : h.history.journal ≡ last.journal
  pub feeds : h.feeds.items ≡ []
  pub workers : WorkedEach kinds started h.worked.items

-- The same, and the workers were started in the order of the taps: all of them; or all before one that couldn't be, and the taps behind it are returned.
pub record HostFails {P L S X C : Type 0} (calls : Calls X C) (kinds : Kinds L S) (all : Bool) (node : NodeView X C) (starts : List (TapView × S)) (turns : ℕ) (fault : NodeFault) (h : Hosted P L) : Type 0 where
  pub started : List (TapView × S)
  pub up_to : StartsUpTo all starts started h.left.items
  pub stops : HostStops calls kinds all node started turns fault h

-- the feed and the tap of a slot are the ends of one lane
abbrev pub AreEndsOfLanes : List FeedView → List TapView → Type 0
AreEndsOfLanes feeds taps = (k : ℕ) (f : FeedView) (t : TapView) → slice_get feeds k ≡ Some f → slice_get taps k ≡ Some t → f.lane ≡ t.lane

-- Without fault: the node ran to its end, its journal and its feeds are returned, of the same lanes, and each worker's tap and list.
pub record Hosts {P L S X C : Type 0} (calls : Calls X C) (kinds : Kinds L S) (node : NodeView X C) (starts : List (TapView × S)) (turns : ℕ) (h : Hosted P L) : Type 0 where
  pub last : NodeView X C
  pub runs : RunsToEnd calls turns node last
  pub keeps : NodeKeepsLists last
  pub journal : h.history.journal ≡ last.journal
  pub feeds : h.feeds.items ≡ last.feeds
  pub slots : length last.feeds ≡ length node.feeds
  pub lanes : SameFeeds node.feeds last.feeds
  pub workers : WorkedEach kinds starts h.worked.items

-- Without fault, and these are the stroke queue and the end of a control that the node had at its end; and the same after a fault.
abbrev pub HostsWith : {P L S X C : Type 0} → Calls X C → Kinds L S → NodeView X C → List (TapView × S) → ℕ → NodeEnds → Hosted P L → Type 0
HostsWith calls kinds node starts turns ends h = (host : Hosts calls kinds node starts turns h) × (ends.well ≡ host.last.well) × (ends.commands ≡ host.last.control)

abbrev pub HostStopsWith : {P L S X C : Type 0} → Calls X C → Kinds L S → Bool → NodeView X C → List (TapView × S) → ℕ → NodeFault → NodeEnds → Hosted P L → Type 0
HostStopsWith calls kinds all node started turns fault ends h = (stops : HostStops calls kinds all node started turns fault h) × (ends.well ≡ stops.last.well) × (ends.commands ≡ stops.last.control)

abbrev pub HostFailsWith : {P L S X C : Type 0} → Calls X C → Kinds L S → Bool → NodeView X C → List (TapView × S) → ℕ → NodeFault → NodeEnds → Hosted P L → Type 0
HostFailsWith calls kinds all node starts turns fault ends h = (host : HostFails calls kinds all node starts turns fault h) × (ends.well ≡ host.stops.last.well) × (ends.commands ≡ host.stops.last.control)

-- what a stroke queue received, how often it found none and what it was told of its producers may change, and no more
abbrev pub SameWell : WellView → WellView → Type 0
SameWell w v = v ≡ record w { received = v.received; nones = v.nones; done_at = v.done_at }

-- a node's end of a control stays on the same two lines, and a node without one has none
abbrev pub SameLines : Option CommandsView → Option CommandsView → Type 0
SameLines None to = to ≡ None
SameLines (Some c) to = (d : CommandsView) × (to ≡ Some d) × (d.out ≡ c.out) × (d.back ≡ c.back)
