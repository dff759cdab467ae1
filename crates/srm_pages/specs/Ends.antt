-- What contracts see of the ends of lanes and of the stroke queue.
use Rattle.std.specs.Prelude.{◌≡◌, ℕ, ◌-◌, nat_lt, Bool, true, false, List, [], ◌∷◌, ◌++◌, length, slice_get, Option, Some, None, Result, Ok, Err}
use Rattle.std.specs.List.{All}
use Rattle.atomic_table.specs.Seated.{TableId}
use Rattle.atomic_table.specs.declared.badge.Badge.{Badge}
use Rattle.crossbeam_channel.specs.declared.flavors.array.Key.{Key}
use Rattle.crossbeam_channel.specs.Claims.{Pass}
use Rattle.srm_names.specs.declared.limits.TheConstants.{LANE_MESSAGES, PAGES, WELL_STROKES}
use Rattle.srm_names.specs.declared.page_msg.PageMsg.{PageMsg}
use Rattle.srm_names.specs.PageFeeds.{is_close}
use Rattle.srm_pages.specs.declared.lane.LaneView.{LaneView}
use Rattle.srm_pages.specs.declared.stroke.Stroke.{Stroke}
use Rattle.srm_pages.specs.declared.tap.Ended.{Ended}
use Rattle.srm_pages.specs.declared.tap.Ended.TheVariants.{Closed}
use Rattle.srm_pages.specs.Seats.{LookoutView, CountsTaken, new_lookout}

-- Which lane it is, by the two tables of its channel, and how many messages it holds at most
pub record LaneId : Type 0 where
  pub board : TableId
  pub messages : Badge (Key PageMsg)
  pub capacity : ℕ

abbrev pub lane_of : Pass PageMsg LaneView → ℕ → LaneId
lane_of p capacity = record { board = p.table_id; messages = p.me.0.of; capacity = capacity }

-- what the feed has put, how many of these it has seen taken, whether a message came back, the slot, the lane and the board
pub record FeedView : Type 0 where
  pub put : List PageMsg
  pub seen : ℕ
  pub disconnected : Bool
  pub slot : ℕ
  pub lane : LaneId
  pub board : TableId

-- what a lane holds, less what was put and not yet seen taken
abbrev pub credit_of : FeedView → ℕ
credit_of f = LANE_MESSAGES - (length f.put - f.seen)

-- what the tap has taken, whether its lane is known to have ended, what its seat at the board has in each register, the slot, the lane and the
-- board
pub record TapView : Type 0 where
  pub taken : List PageMsg
  pub closed : Bool
  pub seat : List ℕ
  pub slot : ℕ
  pub lane : LaneId
  pub board : TableId

-- what both ends of a lane knew last
pub record SettledView : Type 0 where
  pub put : List PageMsg
  pub taken : List PageMsg

abbrev pub IsNewFeed : TableId → ℕ → FeedView → Type 0
IsNewFeed board slot f = (f.put ≡ []) × (f.seen ≡ 0) × (f.disconnected ≡ false) × (f.slot ≡ slot) × (f.board ≡ board) × (f.lane.capacity ≡ LANE_MESSAGES)

abbrev pub IsNewTap : TableId → ℕ → TapView → Type 0
IsNewTap board slot t = (t.taken ≡ []) × (t.closed ≡ false) × (t.slot ≡ slot) × (t.board ≡ board) × CountsTaken t.seat slot []

-- two new ends of the lane of a slot
abbrev pub AreNewEnds : TableId → ℕ → FeedView → TapView → Type 0
AreNewEnds board slot f t = IsNewFeed board slot f × IsNewTap board slot t × (f.lane ≡ t.lane)

-- the k-th feed and the k-th tap are new ends of the lane of slot k
pub record AreNewLanes (board : TableId) (feeds : List FeedView) (taps : List TapView) : Type 0 where
  pub each : (k : ℕ) (f : FeedView) (t : TapView) → slice_get feeds k ≡ Some f → slice_get taps k ≡ Some t → AreNewEnds board k f t

-- as many feeds and taps as there are slots, and as many viewers as asked for, all at one board
abbrev pub AreLanes : ℕ → List FeedView → List TapView → List LookoutView → Type 0
AreLanes asked feeds taps viewers =
    (board : TableId) × (length feeds ≡ PAGES) × (length taps ≡ PAGES) × AreNewLanes board feeds taps
    × (length viewers ≡ asked) × All (λ v. v ≡ new_lookout board) viewers

-- At Ok the message stands behind those taken, and after a close the lane is known to have ended. At Err that is known too, and nothing else
-- changed.
abbrev pub TookOrEnded : Result PageMsg Ended → TapView → TapView → Type 0
TookOrEnded (Ok x) old new = new ≡ record old { taken = old.taken ++ x ∷ []; closed = is_close x; seat = new.seat }
TookOrEnded (Err e) old new = (e ≡ Closed) × (new ≡ record old { closed = true })

-- what the reader received, how often it found none, how often it had when it last looked and all producers were done, which queue it is, and
-- how many strokes that holds at most
pub record WellView : Type 0 where
  pub received : List Stroke
  pub nones : ℕ
  pub done_at : Option ℕ
  pub well : TableId
  pub capacity : ℕ

-- the queue with nothing received
abbrev pub new_well : TableId → WellView
new_well well = record { received = []; nones = 0; done_at = None; well = well; capacity = WELL_STROKES }

-- what a look at the producers notes: how often none had been found, if all are done
abbrev pub looked_at : Bool → ℕ → Option ℕ
looked_at true nones = Some nones
looked_at false nones = None

-- none was found since that look
abbrev pub found_none_since : Option ℕ → ℕ → Bool
found_none_since None nones = false
found_none_since (Some before) nones = nat_lt before nones

-- all producers said that they are done, and none was found after that look: no stroke follows
abbrev pub is_drained : WellView → Bool
is_drained w = found_none_since w.done_at w.nones

-- the producer's number among all, what it sent, and into which queue
pub record PenView : Type 0 where
  pub number : ℕ
  pub sent : List Stroke
  pub well : TableId

-- the k-th producer has the number k, sends into this queue, and sent nothing
abbrev pub AreNewPens : TableId → List PenView → Type 0
AreNewPens well pens = (k : ℕ) (p : PenView) → slice_get pens k ≡ Some p → p ≡ record { number = k; sent = []; well = well }
