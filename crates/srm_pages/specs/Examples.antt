-- The definitions at worked examples.
use Rattle.std.specs.Prelude.{◌≡◌, ℕ, Bool, true, false, List, [], ◌∷◌, ◌++◌, length, replicate, slice_index, Ok, Err, refl}
use Rattle.std.proofs.Common.{lit≤, ap}
use Rattle.std.proofs.Math.Nat.{not-suc-le_self}
use Rattle.atomic_table.specs.Seated.{TableId}
use Rattle.srm_names.specs.declared.drawop.Drawop.{Drawop}
use Rattle.srm_names.specs.declared.page_msg.PageMsg.{PageMsg}
use Rattle.srm_names.specs.declared.page_msg.PageMsg.TheVariants.{Open, Draw, Close}
use Rattle.srm_names.specs.Names.{first_page, named}
use Rattle.srm_names.specs.PageFeeds.{drawops_of}
use Rattle.srm_pages.specs.declared.stroke.Stroke.{Stroke}
use Rattle.srm_pages.specs.declared.tap.Ended.TheVariants.{Closed, Broken}
use Rattle.srm_pages.specs.declared.board.TheConstants.{BOARD_REGISTERS}
use Rattle.srm_pages.specs.Board.{count_register, number_register, drawops_posted, CountsPosted}
use Rattle.srm_pages.specs.Ends.{FeedView, TapView, LaneId, TookOrEnded, credit_of, looked_at, found_none_since}
use Rattle.srm_pages.specs.Ink.{strokes_of, SentIs}

-- The board has a register for each slot's count and one for each slot and member.
all_words : BOARD_REGISTERS ≡ 264
all_words = refl

first_count : count_register 0 ≡ 0
first_count = refl

first_member : number_register 0 0 ≡ 1
first_member = refl

next_slot : count_register 1 ≡ 33
next_slot = refl

last_count : count_register 7 ≡ 231
last_count = refl

last_member : number_register 7 31 ≡ 263
last_member = refl

-- After the page was opened and a member drew twice, three were taken and two of them are shown.
abbrev drawop : ℕ → ℕ → Drawop
drawop source number = record { name = named (record { source = source; page = first_page }) number; stamp = 0; body = [] }

abbrev two_drawn : ℕ → List PageMsg
two_drawn source = Open first_page ∷ Draw (drawop source 1) ∷ Draw (drawop source 2) ∷ []

abbrev seat : List ℕ
seat = 3 ∷ 0 ∷ 2 ∷ replicate 261 0

seat_is_whole : length seat ≡ BOARD_REGISTERS
seat_is_whole = refl

three_taken : slice_index seat (count_register 0) ≡ length (two_drawn 1)
three_taken = refl

two_shown : slice_index seat (number_register 0 1) ≡ length (drawops_of 1 (two_drawn 1))
two_shown = refl

none_of_another : slice_index seat (number_register 0 31) ≡ length (drawops_of 31 (two_drawn 1))
none_of_another = refl

none_in_another_slot : slice_index seat (count_register 7) ≡ 0
none_in_another_slot = refl

-- The three count the two that are shown.
all_shown : drawops_posted seat 0 ≡ 2
unfolding drawops_posted
all_shown = refl

in_order : CountsPosted seat 0
unfolding drawops_posted
in_order = lit≤ tt

in_order_elsewhere : CountsPosted seat 7
unfolding drawops_posted
in_order_elsewhere = lit≤ tt

-- Before its number is stored, a drawop that was taken is counted.
counted_first : CountsPosted (3 ∷ 0 ∷ 1 ∷ replicate 261 0) 0
unfolding drawops_posted
counted_first = lit≤ tt

-- A number that was stored before the count shows a drawop too many: the page was opened and a member drew once, and two are shown.
shown_first : ¬ CountsPosted (2 ∷ 0 ∷ 2 ∷ replicate 261 0) 0
unfolding drawops_posted
shown_first order = not-suc-le_self 1 order

-- The same holds of the very first drawop, and if another member's number is stored first.
first_shown_first : ¬ CountsPosted (1 ∷ 1 ∷ replicate 262 0) 0
unfolding drawops_posted
first_shown_first order = not-suc-le_self 0 order

other_shown_first : ¬ CountsPosted (2 ∷ 1 ∷ 1 ∷ replicate 261 0) 0
unfolding drawops_posted
other_shown_first order = not-suc-le_self 1 order

two_members : drawops_posted (1 ∷ 1 ∷ 0 ∷ 1 ∷ replicate 260 0) 0 ≡ 2
unfolding drawops_posted
two_members = refl

-- The same of the last member in the last slot.
abbrev last_seat : List ℕ
last_seat = replicate 231 0 ++ 3 ∷ replicate 31 0 ++ 2 ∷ []

last_seat_is_whole : length last_seat ≡ BOARD_REGISTERS
last_seat_is_whole = refl

three_taken_last : slice_index last_seat (count_register 7) ≡ length (two_drawn 31)
three_taken_last = refl

two_shown_last : slice_index last_seat (number_register 7 31) ≡ length (drawops_of 31 (two_drawn 31))
two_shown_last = refl

none_of_the_first : slice_index last_seat (number_register 7 0) ≡ length (drawops_of 0 (two_drawn 31))
none_of_the_first = refl

none_in_the_slot_before : slice_index last_seat (number_register 6 31) ≡ 0
none_in_the_slot_before = refl

all_shown_last : drawops_posted last_seat 7 ≡ 2
unfolding drawops_posted
all_shown_last = refl

none_shown_in_the_slot_before : drawops_posted last_seat 6 ≡ 0
unfolding drawops_posted
none_shown_in_the_slot_before = refl

-- Credit is the room of a lane less what is under way, as far as the feed has seen.
module _ (lane : LaneId) (board : TableId) where
  abbrev feed : ℕ → ℕ → FeedView
  feed put seen = record { put = replicate put Close; seen = seen; disconnected = false; slot = 0; lane = lane; board = board }

  at_first : credit_of (feed 0 0) ≡ 64
  at_first = refl

  none_taken : credit_of (feed 64 0) ≡ 0
  none_taken = refl

  one_taken : credit_of (feed 64 1) ≡ 1
  one_taken = refl

  all_taken : credit_of (feed 100 100) ≡ 64
  all_taken = refl

  -- more than was put is never seen taken; there the room is whole
  more_seen : credit_of (feed 3 5) ≡ 64
  more_seen = refl

-- A take adds its message and may raise registers of its seat. At the end, which is always Closed, nothing changes but that it is known.
module _ (lane : LaneId) (board : TableId) where
  abbrev tap : List PageMsg → Bool → List ℕ → TapView
  tap taken closed words = record { taken = taken; closed = closed; seat = words; slot = 0; lane = lane; board = board }

  takes_close : TookOrEnded (Ok Close) (tap (two_drawn 1) false seat) (tap (two_drawn 1 ++ Close ∷ []) true (4 ∷ 0 ∷ 2 ∷ replicate 261 0))
  takes_close = refl

  ends : TookOrEnded (Err Closed) (tap (two_drawn 1) false seat) (tap (two_drawn 1) true seat)
  ends = (refl, refl)

  -- an end that isn't known behind it is none
  not_forgotten : TookOrEnded (Err Closed) (tap (two_drawn 1) false seat) (tap (two_drawn 1) false seat) → ⊥
  not_forgotten end = let known : false ≡ true = ap (λ (t : TapView). t.closed) end.1 in cc

  ended_takes_nothing : (old new : TapView) → TookOrEnded (Err Closed) old new → new.taken ≡ old.taken
  ended_takes_nothing old new end = ap (λ (t : TapView). t.taken) end.1

  never_broken : (old new : TapView) → TookOrEnded (Err Broken) old new → Broken ≡ Closed
  never_broken old new end = end.0

-- All producers were done when two nones had been found: a third one says that the queue is empty for good.
done_before_the_third : found_none_since (looked_at true 2) 3 ≡ true
done_before_the_third = refl

not_done_by_a_none_before_the_look : found_none_since (looked_at true 3) 3 ≡ false
not_done_by_a_none_before_the_look = refl

not_done_where_a_pen_goes_on : found_none_since (looked_at false 2) 3 ≡ false
not_done_where_a_pen_goes_on = refl

-- The part of a producer keeps its order.
abbrev stroke : ℕ → ℕ → Stroke
stroke pen mark = record { pen = pen; page = first_page; body = mark ∷ [] }

of_pen_two : strokes_of 2 (stroke 2 7 ∷ stroke 0 8 ∷ stroke 2 9 ∷ []) ≡ stroke 2 7 ∷ stroke 2 9 ∷ []
of_pen_two = refl

of_pen_one : strokes_of 1 (stroke 2 7 ∷ stroke 0 8 ∷ []) ≡ []
of_pen_one = refl

-- What producer 2 sent is its part of what was received, and then of what the queue holds.
two_sent : SentIs 2 (stroke 2 7 ∷ stroke 2 9 ∷ []) (stroke 2 7 ∷ stroke 0 8 ∷ []) (stroke 1 5 ∷ stroke 2 9 ∷ [])
two_sent = refl

all_received : SentIs 0 (stroke 0 8 ∷ []) (stroke 2 7 ∷ stroke 0 8 ∷ []) []
all_received = refl
