-- What contracts see of the seats at the board.
use Rattle.std.specs.Prelude.{◌≡◌, ℕ, ◌<◌, ◌≤◌, List, length, slice_index, slice_set}
use Rattle.atomic_table.specs.Seated.{TableId}
use Rattle.srm_names.specs.declared.limits.TheConstants.{MEMBERS}
use Rattle.srm_names.specs.declared.page_msg.PageMsg.{PageMsg}
use Rattle.srm_names.specs.declared.page_msg.PageMsg.TheVariants.{Draw}
use Rattle.srm_names.specs.PageFeeds.{drawops_of}
use Rattle.srm_pages.specs.Board.{count_register, number_register, zeros, CountsPosted}

-- what a seat that only looks last saw in each register, and which board it is
pub record LookoutView : Type 0 where
  pub seen : List ℕ
  pub board : TableId

-- what the seat of a slot's tap has in each register
pub record MarkerView : Type 0 where
  pub seat : List ℕ
  pub slot : ℕ
  pub board : TableId

-- the slot whose tap is next
pub record DealerView : Type 0 where
  pub next : ℕ
  pub board : TableId

abbrev pub new_lookout : TableId → LookoutView
new_lookout board = record { seen = zeros; board = board }

abbrev pub new_marker : ℕ → TableId → MarkerView
new_marker slot board = record { seat = zeros; slot = slot; board = board }

-- the registers of the slot count the list: all its messages, and the drawops of each member
pub record CountsTaken (seat : List ℕ) (slot : ℕ) (taken : List PageMsg) : Type 0 where
  pub all : slice_index seat (count_register slot) ≡ length taken
  pub of_member : (member : ℕ) → member < MEMBERS → slice_index seat (number_register slot member) ≡ length (drawops_of member taken)

-- the number of a drawop isn't below the one posted, and the slot counts what is posted with it
abbrev pub MayPost : MarkerView → PageMsg → Type 0
MayPost m (Draw drawop) = drawop.name.stream.source < MEMBERS
    → (slice_index m.seat (number_register m.slot drawop.name.stream.source) ≤ drawop.name.number)
    × CountsPosted (slice_set m.seat (number_register m.slot drawop.name.stream.source) drawop.name.number) m.slot
MayPost m _ = Unit {0}

-- the number of a drawop stands in its member's register; another message changes nothing
abbrev pub Posts : MarkerView → PageMsg → MarkerView → Type 0
Posts m (Draw drawop) n = (n ≡ record m { seat = slice_set m.seat (number_register m.slot drawop.name.stream.source) drawop.name.number })
    × (slice_index n.seat (number_register m.slot drawop.name.stream.source) ≡ drawop.name.number)
Posts m _ n = n ≡ m
