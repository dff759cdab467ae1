-- What contracts see of lists that aren't stored.
use Rattle.std.specs.Prelude.{ℕ, List, [], ◌∷◌, ◌++◌, Option}
use Rattle.srm_wire.specs.declared.loss.Loss.{Loss}
use Rattle.srm_udp.specs.Posts.{Post, post}
use Rattle.srm_udp.specs.declared.outlet.posts.Last.{Last}
use Rattle.srm_udp.specs.declared.outlet.posts.Last.TheVariants.{Nothing, Posted}
use Rattle.srm_udp.specs.declared.outlet.posts.LastByte.{LastByte}
use Rattle.srm_udp.specs.declared.outlet.posts.LastByte.TheVariants.{Nothing as NoByte, Appended}
use Rattle.srm_udp.specs.declared.outlet.errors.LastError.{LastError}
use Rattle.srm_udp.specs.declared.outlet.errors.LastError.TheVariants.{Nothing as NoError, Returned}

-- the bytes before the last one, and then this byte
abbrev pub up_to_last_byte : LastByte → List ℕ
up_to_last_byte NoByte = []
up_to_last_byte (Appended before byte) = before.value ++ byte.value ∷ []

-- the list before the last datagram, and then this one with its address
abbrev pub up_to_last : Last → List Post
up_to_last Nothing = []
up_to_last (Posted before address bytes) = before.value ++ post address.value bytes.value ∷ []

-- the list before the last error, and then this one
abbrev pub up_to_last_error : LastError → List (Option Loss)
up_to_last_error NoError = []
up_to_last_error (Returned before error) = before.value ++ error.value ∷ []
