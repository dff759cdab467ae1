-- When a session message tells that a member was in the session before.
use Rattle.std.specs.Prelude.{ℕ, Bool, ◌==◌, nat_lt, List, [], filter}
use Rattle.srm_names.specs.FullName.{FullName}
use Rattle.srm_codec.specs.declared.datagram.Datagram.{Datagram}
use Rattle.srm_codec.specs.declared.datagram.Datagram.TheVariants.{Session}
use Rattle.srm_entries.specs.declared.entry.Entry.{Entry}
use Rattle.srm_entries.specs.Entries.{known}

-- those of these rows that are of a member's own streams
abbrev pub own_rows : ℕ → List FullName → List FullName
own_rows me rows = filter (λ (row : FullName). row.stream.source == me) rows

-- what a session message says of a member's own streams
abbrev pub claims_of : ℕ → Datagram → List FullName
claims_of me (Session sender sent farewell shown rows echoes) = own_rows me rows
claims_of me _ = []

-- The row is above what the member knows of its stream, which is what it drew: somebody heard more of it, so it was in the session before.
abbrev pub is_beyond : List Entry → FullName → Bool
is_beyond past row = nat_lt (known past row.stream) row.number
