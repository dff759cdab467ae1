use Rattle.std.proofs.Common.{◌≡◌, take}
use Rattle.std.specs.List.{flat_map}
use Rattle.srm_picture.specs.Escaping.{escape}
use Rattle.srm_picture.proofs.escaping.escaped.Given as goal

abbrev pub invariant-loop-byte : goal.invariant-loop-byte
invariant-loop-byte l = l.bytes.items ≡ flat_map escape (take l.byte-index l.text)
