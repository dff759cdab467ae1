-- The rule of a lane: what was put is what was taken and then what the lane holds.
use Rattle.std.specs.Prelude.{◌≡◌, ℕ, Bool, true, List, [], ◌∷◌, ◌++◌}
use mathlib.Core.Option.{some}
use lib.ListN.{get_elem?}
use Rattle.srm_names.specs.declared.page_msg.PageMsg.{PageMsg}
use Rattle.srm_names.specs.PageFeeds.{is_page_feed}
use Rattle.srm_pages.specs.declared.lane.LaneView.{LaneView}

abbrev pub lane_view : Bool → Bool → List PageMsg → List PageMsg → LaneView
lane_view puts takes put taken = record { puts = puts; takes = takes; put = put; taken = taken }

-- the one pass that puts has the list of what was put, and the one that takes the list of what was taken
abbrev pub FitsLane : ℕ → ℕ → List PageMsg → List PageMsg → ℕ → LaneView → Type 0
FitsLane feeder tap put taken id v = (v.puts ≡ true → (id ≡ feeder) × (v.put ≡ put)) × (v.takes ≡ true → (id ≡ tap) × (v.taken ≡ taken))

-- what was put is what was taken and then what the lane holds, and is a page feed
abbrev pub IsLaneState : List PageMsg → List LaneView → Type 0
IsLaneState items views = (feeder : ℕ) × (tap : ℕ) × (put : List PageMsg) × (taken : List PageMsg) × (put ≡ taken ++ items) × (is_page_feed put ≡ true)
    × ((id : ℕ) (v : LaneView) → get_elem? views id ≡ some v → FitsLane feeder tap put taken id v)

abbrev pub Puts : LaneView → PageMsg → LaneView → Type 0
Puts v x w = w ≡ lane_view v.puts v.takes (v.put ++ x ∷ []) v.taken

abbrev pub Takes : LaneView → PageMsg → LaneView → Type 0
Takes v x w = (w ≡ lane_view v.puts v.takes v.put (v.taken ++ x ∷ [])) × (is_page_feed (v.taken ++ x ∷ []) ≡ true)
