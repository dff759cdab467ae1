-- What is kept of one member.
use Rattle.std.specs.Prelude.{ℕ, List, if◌then◌else◌, Option, None, option_map}
use Rattle.srm_names.specs.declared.echo.Echo.{Echo}
use Rattle.srm_distance.specs.declared.peer.Peer.{Peer}
use Rattle.srm_distance.specs.Calls.{DistanceCall}
use Rattle.srm_distance.specs.Distance.{newest}
use Rattle.srm_distance.specs.Echoes.{latest, is_forgotten, echo_of}

abbrev pub peer_of : List DistanceCall → ℕ → Peer
peer_of calls b = record { returned = newest calls b; newest_message = latest calls b; forgotten = is_forgotten calls b }

abbrev pub echo_owed_by : ℕ → ℕ → Peer → Option Echo
echo_owed_by now b peer = if peer.forgotten then None else option_map (echo_of now b) peer.newest_message
