use Rattle.srm_room.proofs.RoomsRead.{rooms_read}
use Rattle.srm_room.proofs.laws.reads_rooms.Goals as goal

pub returns : goal.returns
returns c = rooms_read
