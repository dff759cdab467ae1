-- Requests for several names: which asks go in one request.
use Rattle.std.specs.Prelude.{ℕ, ◌+◌, ◌-◌, ◌^◌, nat_lt, nat_le, Bool, false, ◌&&◌, List, [], ◌∷◌, map, filter, sum, if◌then◌else◌, Option, Some, None}
use Rattle.srm_names.specs.FullName.{FullName}
use Rattle.srm_names.specs.Names.{same_stream}
use Rattle.srm_codec.specs.declared.format.TheConstants.{MASK_BITS}
use Rattle.srm_codec.specs.declared.datagram.Datagram.{Datagram}
use Rattle.srm_codec.specs.declared.datagram.Datagram.TheVariants.{Request}

-- the name is asked for by a request that begins at this one
abbrev pub is_covered : FullName → FullName → Bool
is_covered first n = same_stream first.stream n.stream && nat_lt first.number n.number && nat_le n.number (first.number + MASK_BITS)

abbrev pub is_covered_by : Option FullName → FullName → Bool
is_covered_by None n = false
is_covered_by (Some first) n = is_covered first n

abbrev pub mask_of : FullName → List FullName → ℕ
mask_of first asks = sum (map (λ n. 2 ^ (n.number - first.number - 1)) (filter (is_covered first) asks))

-- the requests for these asks, where the last request begins at this one
abbrev pub packed_after : ℕ → Option FullName → List FullName → List Datagram
packed_after me last [] = []
packed_after me last (n ∷ ns) =
    if is_covered_by last n then packed_after me last ns
    else Request me n (mask_of n ns) ∷ packed_after me (Some n) ns

abbrev pub packed : ℕ → List FullName → List Datagram
packed me asks = packed_after me None asks
