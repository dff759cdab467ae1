-- The numbers of mismatches.
use Rattle.std.specs.Prelude.{ℕ}
use Rattle.srm_audit.specs.declared.mismatch.Mismatch.{Mismatch}
use Rattle.srm_audit.specs.declared.mismatch.Mismatch.TheVariants.{Unsent, Foreign, Memory, Roster}

abbrev pub number_of : Mismatch → ℕ
number_of (Unsent member entry) = 1
number_of (Foreign member slot) = 2
number_of Memory = 3
number_of Roster = 4
