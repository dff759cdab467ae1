use Rattle.toml.specs.View.{table_view}
use Rattle.srm_room.specs.Readings.{room_in}
use Rattle.srm_room.specs.Rooms.{IsRoom, content_of}
use Rattle.srm_room.proofs.Binding.{value_of}
use Rattle.srm_room.proofs.RoomsRead.{rooms_read}
use Rattle.srm_room.proofs.reading.room_in.Goals as goal

pub invariant_of-result : goal.invariant_of-result
invariant_of-result c = value_of (room_in (table_view c.args.table.now)) (content_of c.in-Ok.parts) IsRoom c.in-Ok.ensures (rooms_read (table_view c.args.table.now))
