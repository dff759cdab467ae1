-- What contracts see as a name.
use Rattle.std.specs.Prelude.{ℕ}
use Rattle.srm_names.specs.declared.stream.Stream.{Stream}

-- the name of a drawop
pub record FullName : Type 0 where
  pub stream : Stream
  pub number : ℕ
