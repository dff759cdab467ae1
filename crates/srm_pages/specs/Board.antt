-- The rule of the board: what its registers have, and what each seat may have seen of them.
use Rattle.std.specs.Prelude.{◌≡◌, ◌≢◌, ℕ, zero, suc, ◌*◌, ◌+◌, ◌-◌, ◌/◌, ◌%◌, ◌^◌, ◌<◌, ◌≤◌, Bool, true, false, List, length, replicate, slice_index, slice_set}
use mathlib.Core.Option.{some}
use lib.ListN.{get_elem?}
use Rattle.atomic_table.specs.Table.{State, Me, Step}
use Rattle.srm_names.specs.declared.limits.TheConstants.{MEMBERS}
use Rattle.srm_pages.specs.declared.board.TheConstants.{BOARD_REGISTERS, REGISTERS_A_SLOT}
use Rattle.srm_pages.specs.declared.board.BoardView.{BoardView}

abbrev pub board_view : Bool → ℕ → Bool → ℕ → List ℕ → BoardView
board_view taps slot deals next seen = record { taps = taps; slot = slot; deals = deals; next = next; seen = seen }

-- the register of a slot that counts the messages taken, and the register that has the number of a member's last drawop
abbrev pub count_register : ℕ → ℕ
count_register slot = slot * REGISTERS_A_SLOT

abbrev pub number_register : ℕ → ℕ → ℕ
number_register slot member = slot * REGISTERS_A_SLOT + (member + 1)

-- the sum of f 0 to f (n - 1)
abbrev pub total : (ℕ → ℕ) → ℕ → ℕ
total f zero = 0
total f (suc n) = total f n + f n

-- how many drawops the registers of a slot show, of all members together
unfoldable pub drawops_posted : List ℕ → ℕ → ℕ
drawops_posted registers slot = total (λ member. slice_index registers (number_register slot member)) MEMBERS

-- the registers of a slot show no more drawops than its count has messages behind the first, which opened the page; so the count is raised first
abbrev pub CountsPosted : List ℕ → ℕ → Type 0
CountsPosted registers slot = drawops_posted registers slot ≤ slice_index registers (count_register slot) - 1

-- all registers 0, as at first
unfoldable pub zeros : List ℕ
zeros = replicate BOARD_REGISTERS 0

-- the first seat: it splits off the taps' seats in order of slot, and otherwise only looks
abbrev pub dealer : BoardView
dealer = board_view false 0 true 0 zeros

abbrev pub looking : BoardView
looking = board_view false 0 false 0 zeros

-- after the number n was seen in the register i, or stored there
abbrev pub with_seen : BoardView → ℕ → ℕ → BoardView
with_seen v i n = board_view v.taps v.slot v.deals v.next (slice_set v.seen i n)

-- What a seat has seen of a register is at most the register. The registers of a slot are what the seat of its tap has. One seat deals, the first
pub record FitsBoard (seat : ℕ → ℕ) (dealt : ℕ) (registers : List ℕ) (id : ℕ) (v : BoardView) : Type 0 where
  pub sized : length v.seen ≡ BOARD_REGISTERS
  pub bound : (i : ℕ) → slice_index v.seen i ≤ slice_index registers i
  pub tap : v.taps ≡ true → (seat v.slot ≡ id) × (v.slot < dealt)
  pub exact : v.taps ≡ true → (i : ℕ) → i / REGISTERS_A_SLOT ≡ v.slot → slice_index v.seen i ≡ slice_index registers i
  pub dealer : v.deals ≡ true → (id ≡ 0) × (v.next ≡ dealt)

-- The numbers of drawops fit a u32, a slot shows no more than it counts behind the first, and the registers of slots that have no tap yet are 0
pub record IsBoardState (registers : List ℕ) (views : List BoardView) : Type 0 where
  pub seat : ℕ → ℕ
  pub dealt : ℕ
  pub sized : length registers ≡ BOARD_REGISTERS
  pub narrow : (i : ℕ) → i % REGISTERS_A_SLOT ≢ 0 → slice_index registers i < 2 ^ 32
  pub order : (slot : ℕ) → CountsPosted registers slot
  pub blank : (i : ℕ) → dealt ≤ i / REGISTERS_A_SLOT → slice_index registers i ≡ 0
  pub fits : (id : ℕ) (v : BoardView) → get_elem? views id ≡ some v → FitsBoard seat dealt registers id v

abbrev pub BoardState : State ℕ BoardView → Type 0
BoardState s = IsBoardState s.words s.views

abbrev pub Raised : Step ℕ → Me ℕ BoardView → ℕ → Me ℕ BoardView → Type 0
Raised s m n r = (r ≡ (with_seen m.0 s.word n, m.1)) × (slice_index r.0.seen s.word ≡ n)

abbrev pub Looked : Step ℕ → Me ℕ BoardView → ℕ → Me ℕ BoardView → Type 0
Looked s m n r = (r ≡ (with_seen m.0 s.word n, m.1)) × (slice_index r.0.seen s.word ≡ n) × (slice_index m.0.seen s.word ≤ n) × (s.word % REGISTERS_A_SLOT ≢ 0 → n < 2 ^ 32)
