-- What reconciling journals in order of member results in.
use Rattle.std.specs.Prelude.{◌≡◌, ℕ, List, slice_get, Some}
use Rattle.srm_world.specs.Traces.{Trace, Journal}
use Rattle.srm_world.specs.Claims.{IsLawful}
use Rattle.srm_audit.specs.declared.got.Got.{Got}
use Rattle.srm_audit.specs.declared.mismatch.Mismatch.{Mismatch}
use Rattle.srm_audit.specs.declared.mismatch.Mismatch.TheVariants.{Unsent, Foreign, Memory, Roster}
use Rattle.srm_audit.specs.Audits.{AreFound, Assembles, IsForeign, IsUnsent}

-- the trace is made of the journals and the lists, and is an honest run
pub record IsReconciled (q : List Journal) (gots : List Got) (t : Trace) : Type 0 where
  pub found : AreFound q gots
  pub assembles : Assembles q gots t
  pub lawful : IsLawful t

abbrev pub IsRefusedInOrder : List Journal → List Got → Mismatch → Type 0
IsRefusedInOrder q gots Roster = ⊥
IsRefusedInOrder q gots (Foreign member slot) = IsForeign q gots member slot
IsRefusedInOrder q gots (Unsent member entry) = AreFound q gots × IsUnsent q member entry
IsRefusedInOrder q gots Memory = AreFound q gots

-- the mismatch names the list at the place
abbrev pub IsForeignAt : List Got → ℕ → Mismatch → Type 0
IsForeignAt gots place mismatch = (got : Got) × (slice_get gots place ≡ Some got) × (mismatch ≡ Foreign got.member got.slot)
