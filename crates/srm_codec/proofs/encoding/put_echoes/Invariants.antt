use Rattle.std.proofs.Common.{◌≡◌, ◌++◌, ◌∷◌, length, take}
use Rattle.std.specs.List.{flat_map}
use Rattle.srm_codec.specs.Spelling.{echo_bytes}
use Rattle.srm_codec.proofs.encoding.put_echoes.Given as goal

abbrev pub invariant-loop-echo : goal.invariant-loop-echo
invariant-loop-echo l = l.out.items ≡ l.fn.out.items ++ length l.echoes ∷ flat_map echo_bytes (take l.echo-index l.echoes)
