-- Causes: the verdict on a datagram by the cause to ignore it, if there is one, and their numbers.
use Rattle.std.specs.Prelude.{ℕ, Option, Some, None}
use Rattle.srm_entries.specs.declared.cause.Cause.{Cause}
use Rattle.srm_entries.specs.declared.cause.Cause.TheVariants.{Own, Gone, Conflict, PageLimit, BeyondFinal, Decode, Stranger}
use Rattle.srm_entries.specs.declared.entry.Verdict.{Verdict}
use Rattle.srm_entries.specs.declared.entry.Verdict.TheVariants.{Done, Ignored}

abbrev pub ignored_for : Option Cause → Verdict
ignored_for None = Done
ignored_for (Some cause) = Ignored cause

-- the causes by number, from 1
abbrev pub cause_number : Cause → ℕ
cause_number Own = 1
cause_number Gone = 2
cause_number Conflict = 3
cause_number PageLimit = 4
cause_number BeyondFinal = 5
cause_number (Decode fault) = 6
cause_number Stranger = 7
