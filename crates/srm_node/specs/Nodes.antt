-- What contracts see of a node.
use Rattle.std.specs.Prelude.{◌≡◌, ℕ, List, [], Bool, false, ◌&&◌, ◌||◌, map, min, Option, Some, None, length, slice_get}
use Rattle.std.specs.List.{list_any, list_all}
use Rattle.srm_names.specs.declared.limits.TheConstants.{PAGES, LATEST_MOMENT}
use Rattle.srm_names.specs.PageFeeds.{is_close}
use Rattle.srm_pages.specs.declared.stroke.Stroke.{Stroke}
use Rattle.srm_pages.specs.Ends.{FeedView, WellView}
use Rattle.srm_control.specs.Ends.{CommandsView}
use Rattle.srm_entries.specs.Configs.{Config}
use Rattle.srm_entries.specs.Entries.{state, is_gone}
use Rattle.srm_world.specs.Traces.{Journal}
use Rattle.srm_world.specs.RecordStarts.{RecordStart}
use Rattle.srm_world.specs.WaitWords.{RecorderView}
use Rattle.srm_node.specs.declared.limits.TheConstants.{BUFFER_BYTES}
use Rattle.srm_wire.specs.Wires.{Told}
use Rattle.srm_node.specs.Carrying.{KeepsLists}
use Rattle.srm_node.specs.declared.missing_limit.MissingLimit.{MissingLimit}
use Rattle.srm_node.specs.Limits.{limited_to}

-- the moment that a reading counts as: one past the greatest counts as that
abbrev pub moment_of : ℕ → ℕ
moment_of told = min told LATEST_MOMENT

-- how much may be missing and what was dropped for it, the journal, the feeds by slot, the stroke queue, the stroke in hand, when it is to leave if it was asked to,
-- its end of a control if it has one, how many calls of the wire failed, what the wire told if it tells, and the wire and the clock as they stand
pub record NodeView (X C : Type 0) : Type 0 where
  pub limit : MissingLimit
  pub journal : Journal
  pub feeds : List FeedView
  pub well : WellView
  pub hand : Option Stroke
  pub asked : Option ℕ
  pub control : Option CommandsView
  pub failures : ℕ
  pub told : Option Told
  pub wire : X
  pub clock : C

-- what contracts see of a node: this, its generator as it stands, and how the record begins that its history is written to, if it is written to one
pub record NodeState (W X C : Type 0) : Type 0 where
  pub view : NodeView X C
  pub words : W
  pub begins : Option RecordStart

-- what they see of the recorder in it
abbrev pub recorded_in : {W X C : Type 0} → NodeState W X C → RecorderView W
recorded_in n = record { journal = n.view.journal; words = n.words; begins = n.begins }

-- what always holds of a node
abbrev pub NodeKeepsLists : {X C : Type 0} → NodeView X C → Type 0
NodeKeepsLists n = KeepsLists n.journal n.feeds n.well.received n.hand

-- whether a feed put its close, which in a page feed is the last message
abbrev pub has_closed : FeedView → Bool
has_closed f = list_any is_close f.put

-- nothing more comes of a feed that is disconnected, or that put its close
abbrev pub has_nothing_more : FeedView → Bool
has_nothing_more f = f.disconnected || has_closed f

-- whether the member is gone by its journal, and nothing more comes of any feed
abbrev pub has_ended : {X C : Type 0} → NodeView X C → Bool
has_ended n = is_gone (state n.journal.entries) && list_all has_nothing_more n.feeds

-- what a node keeps: its lists hang together, its settings are those of its journal, its buffer has its length, and it knows which feeds put
-- their close
pub record IsNode {X C : Type 0} (n : NodeView X C) (config : Config) (room : ℕ) (closed : List Bool) : Type 0 where
  pub lists : NodeKeepsLists n
  pub settings : n.journal.start.config ≡ config
  pub room_is : room ≡ BUFFER_BYTES
  pub closed_are : closed ≡ map has_closed n.feeds

-- a feed for each slot, which put nothing and isn't disconnected
pub record AreNewFeeds (feeds : List FeedView) : Type 0 where
  pub slots : length feeds ≡ PAGES
  pub each : (slot : ℕ) (f : FeedView) → slice_get feeds slot ≡ Some f → (f.put ≡ []) × (f.disconnected ≡ false)

-- a journal with these settings that has no entry yet
pub record IsNewJournal (config : Config) (j : Journal) : Type 0 where
  pub made : ℕ
  pub is : j ≡ record { start = record { config = config; made = made }; entries = [] }

-- a node with these settings that did nothing yet, over this wire, without a limit to what may be missing
pub record IsNewNode {X C : Type 0} (config : Config) (feeds : List FeedView) (well : WellView) (failures : ℕ) (told : Option Told) (wire : X) (n : NodeView X C) : Type 0 where
  pub made : ℕ
  pub is : n ≡ record { limit = limited_to None; journal = record { start = record { config = config; made = made }; entries = [] }; feeds = feeds; well = well; hand = None; asked = None; control = None; failures = failures; told = told; wire = wire; clock = n.clock }

-- the node was made at the moment of one reading of this clock
pub record IsMadeNow {X C : Type 0} (Reads : C → ℕ → C → Type 0) (clock : C) (n : NodeView X C) : Type 0 where
  pub told : ℕ
  pub reads : Reads clock told n.clock
  pub counts : n.journal.start.made ≡ moment_of told
