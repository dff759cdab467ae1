-- Names between two numbers.
use Rattle.std.specs.Prelude.{ℕ, nat_lt, Bool, ◌&&◌}
use Rattle.srm_names.specs.declared.stream.Stream.{Stream}
use Rattle.srm_names.specs.FullName.{FullName}
use Rattle.srm_names.specs.Names.{same_stream}

-- the name is of the stream, and its number between these two
abbrev pub is_between : Stream → ℕ → ℕ → FullName → Bool
is_between s above below n = same_stream n.stream s && nat_lt above n.number && nat_lt n.number below
