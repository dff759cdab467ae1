-- What a call does to what a handle holds, which code it answers, and what it writes.
use Rattle.std.specs.Prelude.{◌≡◌, ℕ, nat_le, if◌then◌else◌, Bool, false, List, ◌++◌, length, drop, Option, Some, None, Result, Ok, Err, ⊤}
use Rattle.srm_names.specs.declared.limits.TheConstants.{MEMBERS}
use Rattle.srm_names.specs.declared.page.Page.{Page}
use Rattle.srm_names.specs.declared.stream.Stream.{Stream}
use Rattle.srm_names.specs.declared.page_msg.PageMsg.{PageMsg}
use Rattle.srm_names.specs.FullName.{FullName}
use Rattle.srm_entries.specs.declared.fault.AgentFault.{AgentFault}
use Rattle.srm_entries.specs.declared.fault.AgentFault.TheVariants.{Memory}
use Rattle.srm_entries.specs.declared.state.AgentState.{AgentState}
use Rattle.srm_entries.specs.declared.entry.Entry.{Entry}
use Rattle.srm_entries.specs.Configs.{Config}
use Rattle.srm_agent.specs.Fits.{AgentFits}
use Rattle.srm_agent.specs.Waking.{NextDue}
use Rattle.srm_agent.specs.Admitting.{DrawAdmitted, DrawAdmittedFrom}
use Rattle.srm_agent.specs.Asking.{SaysOutstanding}
use Rattle.srm_agent.specs.declared.outstanding.Outstanding.{Outstanding}
use Rattle.srm_seat.specs.Seats.{IsNewSeat, SeatContent, SeededAgent}
use Rattle.srm_seat.specs.Asking.{IsDistance, IsNextMissing, IsPageToCome, IsState}
use Rattle.srm_seat.specs.Calls.{Draws, Gives, HearsBytes, laid_over, Leaves, Shows, TakesDatagram, TakesRepair, TakesRequest, Ticks}
use Rattle.srm_seat.specs.declared.seat.Handover.{Handover}
use Rattle.srm_seat.specs.declared.seat.Handover.TheVariants.{Nothing, Short, Copied}
use Rattle.srm_ffi.specs.declared.codes.TheConstants.{DONE, EMPTY, FULL, MEMBER, NOTHING, PAGE, BUFFER}
use Rattle.srm_ffi.specs.declared.shapes.RawHeard.{RawHeard}
use Rattle.srm_ffi.specs.declared.shapes.RawMessage.{RawMessage}
use Rattle.srm_ffi.specs.declared.shapes.RawName.{RawName}
use Rattle.srm_ffi.specs.declared.shapes.RawOutstanding.{RawOutstanding}
use Rattle.srm_ffi.specs.declared.shapes.RawPage.{RawPage}
use Rattle.srm_ffi.specs.declared.shapes.RawTicked.{RawTicked}
use Rattle.srm_ffi.specs.Codes.{code_of, fault_number, or_never, state_number}
use Rattle.srm_ffi.specs.Shapes.{body_of, raw_heard, raw_message, raw_name, raw_outstanding, raw_page, raw_ticked}

-- ---- what holds of all

-- this is answered, and the handle holds what it held
abbrev pub IsRefused : ℕ → ℕ → Option SeatContent → Option SeatContent → Type 0
IsRefused why code old new = (code ≡ why) × (new ≡ old)

-- the seat in the handle goes on by this step; or there is and was none, and this holds
abbrev pub OnSeat : (SeatContent → SeatContent → Type 0) → Type 0 → Option SeatContent → Option SeatContent → Type 0
OnSeat step empty (Some old) (Some new) = step old new
OnSeat step empty None None = empty
OnSeat step empty (Some old) None = ⊥
OnSeat step empty None (Some new) = ⊥

-- the seat answered, and the code is that of its answer
abbrev pub Tells : {A : Type 0} → (SeatContent → SeatContent → Result A AgentFault → Type 0) → ℕ → SeatContent → SeatContent → Type 0
Tells {A = A} does code old new = (answer : Result A AgentFault) × does old new answer × (code ≡ code_of answer)

-- what is answered is written; where the call is refused, what stood there stays
abbrev pub written : {A O : Type 0} → (A → O) → Result A AgentFault → O → O
written raw (Ok value) before = raw value
written raw (Err fault) before = before

-- the seat answered, and the code is that of its answer, which is written
abbrev pub Writes : {A O : Type 0} → (SeatContent → SeatContent → Result A AgentFault → Type 0) → (A → O) → ℕ → O → O → SeatContent → SeatContent → Type 0
Writes {A = A} does raw code before after old new = (answer : Result A AgentFault) × does old new answer × (code ≡ code_of answer) × (after ≡ written raw answer before)

-- ---- the calls

-- an agent with these settings is made in a handle that held none; or memory ran out, and there is still none
abbrev pub Opens : Config → ℕ → ℕ → ℕ → Option SeatContent → Option SeatContent → Type 0
Opens c now seed code None (Some seat) = (code ≡ DONE) × IsNewSeat c now seed seat
Opens c now seed code None None = code ≡ fault_number Memory
Opens c now seed code (Some old) new = IsRefused FULL code (Some old) new

abbrev pub DrawCall : ℕ → Page → List ℕ → ℕ → RawName → RawName → Option SeatContent → Option SeatContent → Type 0
DrawCall now page body code before after = OnSeat (Writes (Draws now page body) raw_name code before after) ((code ≡ EMPTY) × (after ≡ before))

abbrev pub ShowCall : ℕ → Page → ℕ → Option SeatContent → Option SeatContent → Type 0
ShowCall now page code = OnSeat (Tells (Shows now page) code) (code ≡ EMPTY)

abbrev pub LeaveCall : ℕ → ℕ → Option SeatContent → Option SeatContent → Type 0
LeaveCall now code = OnSeat (Tells (Leaves now) code) (code ≡ EMPTY)

abbrev pub HearCall : ℕ → List ℕ → ℕ → RawHeard → RawHeard → Option SeatContent → Option SeatContent → Type 0
HearCall now bytes code before after = OnSeat (Writes (HearsBytes now bytes) raw_heard code before after) ((code ≡ EMPTY) × (after ≡ before))

abbrev pub TickCall : ℕ → ℕ → RawTicked → RawTicked → Option SeatContent → Option SeatContent → Type 0
TickCall now code before after = OnSeat (Writes (Ticks now) raw_ticked code before after) ((code ≡ EMPTY) × (after ≡ before))

-- the next name, or that there is none
abbrev pub TellsName : Option FullName → ℕ → RawName → RawName → Type 0
TellsName (Some name) code before after = (code ≡ DONE) × (after ≡ raw_name name)
TellsName None code before after = (code ≡ NOTHING) × (after ≡ before)

abbrev pub RequestCall : ℕ → RawName → RawName → Option SeatContent → Option SeatContent → Type 0
RequestCall code before after =
    OnSeat (λ old new. (name : Option FullName) × TakesRequest old new name × TellsName name code before after) ((code ≡ EMPTY) × (after ≡ before))

abbrev pub RepairCall : ℕ → RawName → RawName → Option SeatContent → Option SeatContent → Type 0
RepairCall code before after =
    OnSeat (λ old new. (name : Option FullName) × TakesRepair old new name × TellsName name code before after) ((code ≡ EMPTY) × (after ≡ before))

-- whether a datagram was copied, with its length, or with the length of the room that it takes
abbrev pub TellsHandover : Handover → ℕ → ℕ → ℕ → Type 0
TellsHandover Nothing code before after = (code ≡ NOTHING) × (after ≡ before)
TellsHandover (Short length) code before after = (code ≡ BUFFER) × (after ≡ length)
TellsHandover (Copied length) code before after = (code ≡ DONE) × (after ≡ length)

abbrev pub DatagramCall : ℕ → List ℕ → List ℕ → ℕ → ℕ → Option SeatContent → Option SeatContent → Type 0
DatagramCall code room filled before after =
    OnSeat (λ old new. (answer : Handover) × TakesDatagram old new room filled answer × TellsHandover answer code before after) ((code ≡ EMPTY) × (filled ≡ room) × (after ≡ before))

-- the message and its body, or that there is none, or why not
abbrev pub TellsMessage : Result (Option PageMsg) AgentFault → ℕ → List ℕ → List ℕ → RawMessage → RawMessage → Type 0
TellsMessage (Ok (Some message)) code room filled before after = (code ≡ DONE) × (filled ≡ laid_over (body_of message) room) × (after ≡ raw_message message)
TellsMessage (Ok None) code room filled before after = (code ≡ NOTHING) × (filled ≡ room) × (after ≡ before)
TellsMessage (Err fault) code room filled before after = (code ≡ fault_number fault) × (filled ≡ room) × (after ≡ before)

-- whatever run the agent fitted, the body of what is given is whole in front of the room
abbrev pub BodyIsWhole : SeededAgent → Result (Option PageMsg) AgentFault → List ℕ → List ℕ → Type 0
BodyIsWhole a (Ok (Some message)) room filled = (c : Config) (made : ℕ) (past : List Entry) → AgentFits c made past a → filled ≡ body_of message ++ drop (length (body_of message)) room
BodyIsWhole a (Ok None) room filled = ⊤
BodyIsWhole a (Err fault) room filled = ⊤

abbrev pub GiveCall : ℕ → ℕ → List ℕ → List ℕ → RawMessage → RawMessage → Option SeatContent → Option SeatContent → Type 0
GiveCall slot code room filled before after =
    OnSeat (λ old new. (answer : Result (Option PageMsg) AgentFault) × Gives slot old new answer × TellsMessage answer code room filled before after × BodyIsWhole old.agent answer room filled)
    ((code ≡ EMPTY) × (filled ≡ room) × (after ≡ before))

-- ---- what is told of the agent, which changes nothing

abbrev pub DueCall : ℕ → Option SeatContent → Option SeatContent → Type 0
DueCall told = OnSeat (λ old new. (new ≡ old) × (moment : Option ℕ) × NextDue old.agent moment × (told ≡ or_never moment)) (told ≡ or_never None)

-- 0 where the handle is empty
abbrev pub StateCall : ℕ → Option SeatContent → Option SeatContent → Type 0
StateCall told = OnSeat (λ old new. (new ≡ old) × (state : AgentState) × IsState old.agent state × (told ≡ state_number state)) (told ≡ 0)

abbrev pub TellsPage : Option Page → ℕ → RawPage → RawPage → Type 0
TellsPage (Some page) code before after = (code ≡ DONE) × (after ≡ raw_page page)
TellsPage None code before after = (code ≡ PAGE) × (after ≡ before)

abbrev pub NewPageCall : ℕ → RawPage → RawPage → Option SeatContent → Option SeatContent → Type 0
NewPageCall code before after =
    OnSeat (λ old new. (new ≡ old) × (page : Option Page) × IsPageToCome old.agent page × TellsPage page code before after) ((code ≡ EMPTY) × (after ≡ before))

abbrev pub DistanceCall : ℕ → ℕ → ℕ → ℕ → Option SeatContent → Option SeatContent → Type 0
DistanceCall member code before after = OnSeat (λ old new. (new ≡ old) × (code ≡ DONE) × IsDistance member old.agent after) ((code ≡ EMPTY) × (after ≡ before))

abbrev pub AdmitsCall : ℕ → ℕ → Bool → Option SeatContent → Option SeatContent → Type 0
AdmitsCall length now told = OnSeat (λ old new. (new ≡ old) × DrawAdmitted length now old.agent told) (told ≡ false)

abbrev pub AdmitsFromCall : ℕ → ℕ → Option SeatContent → Option SeatContent → Type 0
AdmitsFromCall length told =
    OnSeat (λ old new. (new ≡ old) × (first : Option ℕ) × DrawAdmittedFrom length old.agent first × (told ≡ or_never first)) (told ≡ or_never None)

-- the stream that C names; or that the page's creator is past 31, or else the source
abbrev pub stream_named : ℕ → ℕ → ℕ → Result Stream ℕ
stream_named creator number source =
    if nat_le MEMBERS creator then Err PAGE
    else if nat_le MEMBERS source then Err MEMBER
    else Ok (record { source = source; page = record { creator = creator; number = number } })

-- what the agent says of a stream is written
abbrev pub StreamCall : (Stream → SeededAgent → ℕ → Type 0) → Result Stream ℕ → ℕ → ℕ → ℕ → Option SeatContent → Option SeatContent → Type 0
StreamCall Says (Ok s) code before after = OnSeat (λ old new. (new ≡ old) × (code ≡ DONE) × Says s old.agent after) ((code ≡ EMPTY) × (after ≡ before))
StreamCall Says (Err why) code before after = λ old new. IsRefused why code old new × (after ≡ before)

-- the number of a name, or that there is none
abbrev pub TellsNumber : Option FullName → ℕ → ℕ → ℕ → Type 0
TellsNumber (Some name) code before after = (code ≡ DONE) × (after ≡ name.number)
TellsNumber None code before after = (code ≡ NOTHING) × (after ≡ before)

abbrev pub NextMissingCall : ℕ → Result Stream ℕ → ℕ → ℕ → ℕ → Option SeatContent → Option SeatContent → Type 0
NextMissingCall above (Ok s) code before after =
    OnSeat (λ old new. (new ≡ old) × (name : Option FullName) × IsNextMissing s above old.agent name × TellsNumber name code before after) ((code ≡ EMPTY) × (after ≡ before))
NextMissingCall above (Err why) code before after = λ old new. IsRefused why code old new × (after ≡ before)

abbrev pub OutstandingCall : ℕ → RawOutstanding → RawOutstanding → Option SeatContent → Option SeatContent → Type 0
OutstandingCall code before after =
    OnSeat (λ old new. (new ≡ old) × (code ≡ DONE) × (o : Outstanding) × SaysOutstanding old.agent o × (after ≡ raw_outstanding o)) ((code ≡ EMPTY) × (after ≡ before))
