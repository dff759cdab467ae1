-- The distance to another member and the echoes that are owed are the definitions of the distances, over the session messages that
-- the entries heard. A farewell is heard like each of them, and then its sender is forgotten.
use Rattle.std.specs.Prelude.{ℕ, ◌==◌, List, [], ◌∷◌, find, if◌then◌else◌, Option, Some, Bool, option_map}
use Rattle.std.specs.List.{flat_map}
use Rattle.srm_names.specs.declared.echo.Echo.{Echo}
use Rattle.srm_codec.specs.declared.datagram.Datagram.{Datagram}
use Rattle.srm_codec.specs.declared.datagram.Datagram.TheVariants.{Session}
use Rattle.srm_distance.specs.Calls.{DistanceCall, Heard, Forgot}
use Rattle.srm_distance.specs.Distance as distances
use Rattle.srm_entries.specs.declared.entry.Entry.{Entry}
use Rattle.srm_entries.specs.Configs.{Config}
use Rattle.srm_entries.specs.Entries.{accepted}

-- the echo for a member: the moment that it answers, and how long it waited
abbrev pub echo_for : ℕ → List Echo → Option (ℕ × ℕ)
echo_for me echoes = option_map (λ (e : Echo). (e.t1, e.delay)) (find (λ (e : Echo). e.member == me) echoes)

abbrev pub forgotten_if : Bool → ℕ → List DistanceCall
forgotten_if farewell sender = if farewell then Forgot sender ∷ [] else []

abbrev pub calls_of : ℕ → ℕ → Option Datagram → List DistanceCall
calls_of me now (Some (Session sender sent farewell shown rows echoes)) = Heard sender sent (echo_for me echoes) now ∷ forgotten_if farewell sender
calls_of me now _ = []

abbrev pub calls_in : ℕ → Entry → List DistanceCall
calls_in me e = calls_of me e.moment (accepted e)

abbrev pub distance_calls : ℕ → List Entry → List DistanceCall
distance_calls me es = flat_map (calls_in me) es

-- the distance of a member with these settings to b
abbrev pub distance : Config → List Entry → ℕ → ℕ
distance c es b = distances.distance c.least_distance (distance_calls c.me es) c.me b
