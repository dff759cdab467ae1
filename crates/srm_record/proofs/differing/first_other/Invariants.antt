use Rattle.std.proofs.Common.{◌≡◌, take}
use Rattle.srm_record.proofs.differing.first_other.Given as goal

abbrev pub invariant-loop-place : goal.invariant-loop-place
invariant-loop-place l = take l.place l.lines ≡ take l.place l.wanted
