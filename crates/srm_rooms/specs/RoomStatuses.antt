-- The status that the program ends with where a room can't be used.
use Rattle.std.specs.Prelude.{ℕ}
use Rattle.srm_script.specs.declared.status.TheConstants.{FAILED, RAN_OUT}
use Rattle.srm_rooms.specs.declared.room_file_fault.RoomFileFault.{RoomFileFault}
use Rattle.srm_rooms.specs.declared.room_file_fault.RoomFileFault.TheVariants.{Memory}

abbrev pub status_of : RoomFileFault → ℕ
status_of Memory = RAN_OUT
status_of fault = FAILED
