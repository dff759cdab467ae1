use Rattle.std.proofs.Common.{◌≡◌, ◌≤◌, drop}
use Rattle.srm_room.specs.Rooms.{no_port, port_behind}
use Rattle.srm_room.proofs.addressing.port_behind.Given as goal

-- what is left, from the number so far, has the port of all
abbrev pub invariant-loop-b : goal.invariant-loop-b
invariant-loop-b l = (l.port ≤ no_port) × (port_behind l.port (drop l.b-index l.text) ≡ port_behind no_port l.text)
