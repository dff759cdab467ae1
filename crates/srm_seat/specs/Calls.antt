-- What calls do to a seat: what the agent's own call does, and what is then to be taken.
use Rattle.std.specs.Prelude.{◌≡◌, ◌⊎◌, ◌++◌, ◌<◌, ℕ, List, [], ◌∷◌, Option, Some, None, Result, Ok, Err, length, drop, if◌then◌else◌, nat_le}
use Rattle.rand_pcg.specs.Pcg.{pcg64}
use Rattle.srm_names.specs.declared.page.Page.{Page}
use Rattle.srm_names.specs.declared.page_msg.PageMsg.{PageMsg}
use Rattle.srm_names.specs.FullName.{FullName}
use Rattle.srm_outbox.specs.declared.out.Out.{Out}
use Rattle.srm_entries.specs.declared.fault.AgentFault.{AgentFault}
use Rattle.srm_entries.specs.declared.fault.AgentFault.TheVariants.{Memory}
use Rattle.srm_entries.specs.declared.entry.Input.TheVariants as inputs
use Rattle.srm_agent.specs.declared.heard.Heard.{Heard}
use Rattle.srm_agent.specs.declared.ticked.Ticked.{Ticked}
use Rattle.srm_agent.specs.Noting.{Does, HasEntry, Hears, IsDrawnName, IsTicked}
use Rattle.srm_seat.specs.declared.seat.TickCounts.{TickCounts}
use Rattle.srm_seat.specs.declared.seat.Handover.{Handover}
use Rattle.srm_seat.specs.declared.seat.Handover.TheVariants.{Nothing, Short, Copied}
use Rattle.srm_seat.specs.Seats.{SeatContent, LeftStays}

-- the agent drew; or there was no memory for the body, and nothing changed
abbrev pub Draws : ℕ → Page → List ℕ → SeatContent → SeatContent → Result FullName AgentFault → Type 0
Draws now page body old new answer =
    (Does pcg64 (Some now) (inputs.Drew page body) IsDrawnName old.agent new.agent answer × LeftStays old new) ⊎ ((answer ≡ Err Memory) × (new ≡ old))

abbrev pub Shows : ℕ → Page → SeatContent → SeatContent → Result (Unit {0}) AgentFault → Type 0
Shows now page old new answer = Does pcg64 (Some now) (inputs.Showed page) (λ _ _. Unit {0}) old.agent new.agent answer × LeftStays old new

abbrev pub Leaves : ℕ → SeatContent → SeatContent → Result (Unit {0}) AgentFault → Type 0
Leaves now old new answer = HasEntry pcg64 (Some now) inputs.AskedLeave (λ _ _. Unit {0}) old.agent new.agent answer × LeftStays old new

abbrev pub HearsBytes : ℕ → List ℕ → SeatContent → SeatContent → Result Heard AgentFault → Type 0
HearsBytes now bytes old new answer = Hears pcg64 now bytes old.agent new.agent answer × LeftStays old new

abbrev pub Gives : ℕ → SeatContent → SeatContent → Result (Option PageMsg) AgentFault → Type 0
Gives slot old new answer = Does pcg64 None (inputs.Gave slot) (λ e message. message ≡ e.effects.message) old.agent new.agent answer × LeftStays old new

abbrev pub counts_of : Ticked → TickCounts
counts_of ticked = record { requests = length ticked.asks; repairs = length ticked.fixes; datagrams = length ticked.outs; state = ticked.state }

-- what a tick asked for, repaired and sent is to be taken, and nothing else
pub record LeavesTicked (ticked : Ticked) (new : SeatContent) : Type 0 where
  pub requests : new.requests ≡ ticked.asks
  pub repairs : new.repairs ≡ ticked.fixes
  pub datagrams : new.datagrams ≡ ticked.outs

-- what the agent's tick answers is left, and its counts are told; where it is refused, all that the tick before left stays
abbrev pub LeavesAnswered : Result Ticked AgentFault → SeatContent → SeatContent → Result TickCounts AgentFault → Type 0
LeavesAnswered (Ok ticked) old new (Ok counts) = LeavesTicked ticked new × (counts ≡ counts_of ticked)
LeavesAnswered (Err fault) old new (Err other) = (fault ≡ other) × LeftStays old new
LeavesAnswered (Ok ticked) old new (Err other) = ⊥
LeavesAnswered (Err fault) old new (Ok counts) = ⊥

abbrev pub Ticks : ℕ → SeatContent → SeatContent → Result TickCounts AgentFault → Type 0
Ticks now old new answer =
    (ticked : Result Ticked AgentFault) × Does pcg64 (Some now) inputs.Ticked (IsTicked old.agent.config.session) old.agent new.agent ticked × LeavesAnswered ticked old new answer

-- the first of a list is taken, if there is one
abbrev pub TakesFirst : {A : Type 0} → List A → Option A → List A → Type 0
TakesFirst [] answer rest = (answer ≡ None) × (rest ≡ [])
TakesFirst (x ∷ xs) answer rest = (answer ≡ Some x) × (rest ≡ xs)

-- the next name that was asked for is taken, and nothing else
abbrev pub TakesRequest : SeatContent → SeatContent → Option FullName → Type 0
TakesRequest old new answer = TakesFirst old.requests answer new.requests × (new ≡ record old { requests = new.requests })

-- the next name that was repaired is taken, and nothing else
abbrev pub TakesRepair : SeatContent → SeatContent → Option FullName → Type 0
TakesRepair old new answer = TakesFirst old.repairs answer new.repairs × (new ≡ record old { repairs = new.repairs })

-- bytes over the front of a room; where they don't fit, nothing is written
abbrev pub laid_over : List ℕ → List ℕ → List ℕ
laid_over bytes room = if nat_le (length bytes) (length room) then bytes ++ drop (length bytes) room else room

-- The first datagram is taken where it fits the room. Where it doesn't, it stays the first, and it is told how long it is.
abbrev pub HandsOver : List Out → List Out → List ℕ → List ℕ → Handover → Type 0
HandsOver [] rest before after answer = (answer ≡ Nothing) × (rest ≡ []) × (after ≡ before)
HandsOver (out ∷ outs) rest before after answer =
    (after ≡ laid_over out.bytes before) × (answer ≡ if nat_le (length out.bytes) (length before) then Copied (length out.bytes) else Short (length out.bytes))
    × (rest ≡ if nat_le (length out.bytes) (length before) then outs else out ∷ outs)

-- so it is with what a seat has to send, and nothing else changes
abbrev pub TakesDatagram : SeatContent → SeatContent → List ℕ → List ℕ → Handover → Type 0
TakesDatagram old new before after answer = HandsOver old.datagrams new.datagrams before after answer × (new ≡ record old { datagrams = new.datagrams })
