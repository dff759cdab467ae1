-- A live member's sinks may go to the threads of their workers. `search` doesn't find that in a function that knows as much as the one that sends them.
use denote.RattleType.{RattleType}
use denote.Param.Send.{IsSend, IsSync, sendable}
use Rattle.std.proofs.Crossing.{crosses}
use Rattle.srm_world.specs.contracts.forgotten.Forgotten as Forgotten
use Rattle.srm_world.proofs.forgotten.Forgotten.TheLaws.TheKnot as knot
use Rattle.srm_options.specs.contracts.names.Names as Names
use Rattle.srm_live.specs.contracts.desk.Desk as Desk
use Rattle.srm_live.specs.contracts.tally.Tally as Tally
use Rattle.srm_live.specs.contracts.live_sink.Printing as Printing
use Rattle.srm_live.specs.contracts.printed.Printed as Printed

printed_send : IsSend Printed.the_row
printed_send = search (sendable, crosses) depth 40

forgotten_send : (T : RattleType) → IsSend T → IsSend (Forgotten.the_row T)
forgotten_send T t = search (sendable, crosses, knot.send-Forgotten) depth 20

names_send : IsSend Names.the_row
names_send = search (sendable, crosses) depth 40

names_sync : IsSync Names.the_row
names_sync = search (sendable, crosses) depth 40

tally_send : IsSend Tally.the_row
tally_send = search (sendable, crosses) depth 40 fits 20000

tally_sync : IsSync Tally.the_row
tally_sync = search (sendable, crosses) depth 40 fits 20000

desk_send : (O E : RattleType) → IsSend O → IsSend E → IsSend (Desk.the_row O E)
desk_send O E o e = search (sendable, crosses, names_send, names_sync, tally_send, tally_sync) depth 40 fits 20000

desk_sync : (O E : RattleType) → IsSend O → IsSend E → IsSync (Desk.the_row O E)
desk_sync O E o e = search (sendable, crosses, names_send, names_sync, tally_send, tally_sync) depth 40 fits 20000

pub printing_send : (R O E : RattleType) → IsSend R → IsSend O → IsSend E → IsSend (Printing.the_row R O E)
printing_send R O E r o e = search (sendable, crosses, forgotten_send, printed_send, names_send, desk_send, desk_sync) depth 40 fits 20000
