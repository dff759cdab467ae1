use Rattle.std.proofs.Common.{◌≡◌, ◌++◌}
use Rattle.srm_codec.specs.Spelling.{asked_by}
use Rattle.srm_codec.proofs.Asked.{left_to_ask}
use Rattle.srm_codec.proofs.mentions.asked_names.Given as goal

abbrev pub invariant-loop-bit : goal.invariant-loop-bit
invariant-loop-bit l = record { so_far : l.names.items ++ left_to_ask l.name l.bit l.rest ≡ asked_by l.name l.mask }
