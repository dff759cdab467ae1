-- A member's station, as its options say.
use Rattle.std.specs.Prelude.{◌≡◌, ℕ, List, [], length, slice_get, Option, Some, None}
use Rattle.srm_names.specs.declared.limits.TheConstants.{PAGES, PENS}
use Rattle.srm_pages.specs.Ends.{TapView, PenView, AreNewPens}
use Rattle.srm_entries.specs.Configs.{Config}
use Rattle.srm_wire.specs.Wires.{Told}
use Rattle.srm_world.specs.declared.start.Start.{Start}
use Rattle.srm_world.specs.RecordStarts.{RecordStart}
use Rattle.srm_node.specs.Limits.{limited_to}
use Rattle.srm_node.specs.Nodes.{NodeView, IsNewNode}
use Rattle.srm_node.specs.Hosting.{AreEndsOfLanes}

-- taps that took nothing, by their slots
abbrev pub AreNewTaps : List TapView → Type 0
AreNewTaps taps = (slot : ℕ) (t : TapView) → slice_get taps slot ≡ Some t → (t.taken ≡ []) × (t.slot ≡ slot)

-- The ends of a node that did nothing yet: the tap of each of its lanes, which took nothing, and the producers of its stroke queue, which sent nothing.
pub record HasNewEnds {X C : Type 0} (node : NodeView X C) (taps : List TapView) (pens : List PenView) : Type 0 where
  pub slots : length taps ≡ PAGES
  pub lanes : AreEndsOfLanes node.feeds taps
  pub new_taps : AreNewTaps taps
  pub count : length pens ≡ PENS
  pub new_pens : AreNewPens node.well.well pens

-- A node with these settings that did nothing yet and is to leave from a moment on, and its ends. So much may be missing, if there is a limit. No call of its wire failed, and the
-- wire told so much.
pub record IsNewStation {X C : Type 0} (config : Config) (stay : ℕ) (most : Option ℕ) (told : Option Told) (wire : X) (node : NodeView X C) (taps : List TapView) (pens : List PenView) : Type 0 where
  pub new : IsNewNode config node.feeds node.well 0 told wire (record node { asked = None; limit = limited_to None })
  pub asked : node.asked ≡ Some stay
  pub limit : node.limit ≡ limited_to most
  pub ends : HasNewEnds node taps pens

-- The history is written to this file, if there is one, behind what it held. Its record begins with this start, the settings and the moment of making, and with this seed.
abbrev pub BeginsIn : {F : Type 0} → (F → Option (List ℕ)) → Option F → ℕ → Start → Option RecordStart → Type 0
BeginsIn contents None seed start begins = begins ≡ None
BeginsIn contents (Some file) seed start begins = (r : RecordStart) × (begins ≡ Some r) × (r.start ≡ start) × (r.seed ≡ seed) × (r.first ≡ contents file)
