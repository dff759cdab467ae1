use Rattle.std.proofs.Common.{◌≡◌, ◌++◌, drop}
use Rattle.srm_options.specs.MemberNames.{said}
use Rattle.srm_options.proofs.names.copies.Given as goal

abbrev pub invariant-loop-text : goal.invariant-loop-text
invariant-loop-text l = said l.copies.items ++ said (drop l.text-index l.texts) ≡ said l.texts
