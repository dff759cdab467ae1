-- The messages that the page workers of a member were given and haven't taken yet.
use Rattle.std.specs.Prelude.{◌≡◌, ℕ, ◌<◌, ◌==◌, List, [], ◌++◌, length, slice_get, Option, Some, option_to_list, if◌then◌else◌}
use Rattle.srm_names.specs.declared.limits.TheConstants.{PAGES}
use Rattle.srm_names.specs.declared.page_msg.PageMsg.{PageMsg}
use Rattle.srm_world.specs.declared.lanes.Lanes.TheInside.{Inside}
use Rattle.srm_world.specs.Lane.{LaneContent}

abbrev pub lanes_of : Inside → List LaneContent
lanes_of l = l.lanes.items

abbrev pub HasAllSlots : Inside → Type 0
HasAllSlots l = length l.lanes.items ≡ PAGES

-- nothing waits in any slot
pub record AreEmpty (lanes : List LaneContent) : Type 0 where
  pub each : (j : ℕ) (l : LaneContent) → slice_get lanes j ≡ Some l → l.waiting ≡ []

-- there is room for one more message in the slot
pub record HasRoom (slot : ℕ) (lanes : List LaneContent) : Type 0 where
  pub at : (l : LaneContent) → slice_get lanes slot ≡ Some l → length l.waiting < l.capacity

-- the messages of this slot
abbrev pub in_lane : ℕ → List PageMsg → ℕ → List PageMsg
in_lane slot messages j = if j == slot then messages else []

-- these messages come last in what waits in this slot; the other slots have what they had
pub record Gains (slot : ℕ) (more : List PageMsg) (old new : List LaneContent) : Type 0 where
  pub each : (j : ℕ) (l : LaneContent) → slice_get new j ≡ Some l
      → (w : LaneContent) × (slice_get old j ≡ Some w) × (l.waiting ≡ w.waiting ++ in_lane slot more j)

-- the message is the first that waited in the slot, if one did; all others still wait
pub record Loses (slot : ℕ) (message : Option PageMsg) (old new : List LaneContent) : Type 0 where
  pub each : (j : ℕ) (l : LaneContent) → slice_get new j ≡ Some l
      → (w : LaneContent) × (slice_get old j ≡ Some w) × (w.waiting ≡ in_lane slot (option_to_list message) j ++ l.waiting)
  pub first : (w : LaneContent) × (slice_get old slot ≡ Some w) × (message ≡ slice_get w.waiting 0)
