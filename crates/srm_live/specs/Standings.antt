-- What a live member knows of another one.
use Rattle.std.specs.Prelude.{ℕ, if◌then◌else◌}
use Rattle.srm_live.specs.declared.presence.Presence.{Presence}
use Rattle.srm_live.specs.declared.presence.Standing.{Standing}
use Rattle.srm_live.specs.declared.presence.Standing.TheVariants.{Unheard, Here, Silent, Left}
use Rattle.srm_live.specs.MemberSets.{has}

-- nobody was heard yet
abbrev pub nobody : Presence
nobody = record { heard = 0; silent = 0; left = 0 }

-- Who left stays so. Else who is silent is, and of the others who was heard is here.
abbrev pub standing_of : Presence → ℕ → Standing
standing_of p m = if has p.left m then Left else if has p.silent m then Silent else if has p.heard m then Here else Unheard
