use Rattle.std.proofs.Common.{subst}
use Rattle.srm_rooms.specs.RoomLines.{texts, words_of}
use Rattle.srm_rooms.proofs.in_room.read_node_in.Goals as goal

pub returns : goal.returns
returns g c =
    let says = subst (λ live. g.L.LineReader.reads c.args.reader.now (words_of c.args.room.now c.args.me live (texts c.args.own.now)) c.in_ok-read.read) c.is_live-live.ensures c.in_ok-read.ensures in
    (c.in_ok-read.read, c.in_ok-judge_node.ensures, says, c.in_ok-in_room.ensures)
