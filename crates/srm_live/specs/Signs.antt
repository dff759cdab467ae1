-- What tells that members are set differently, or that nobody reaches a member.
use Rattle.std.specs.Prelude.{ℕ, ◌==◌, nat_le, nat_lt, Bool, ◌&&◌, Option, Some, None}
use Rattle.srm_codec.specs.declared.fault.DecodeFault.{DecodeFault}
use Rattle.srm_codec.specs.declared.fault.DecodeFault.TheVariants as decoding
use Rattle.srm_entries.specs.declared.cause.Cause.TheVariants.{Decode}
use Rattle.srm_entries.specs.declared.entry.Verdict.{Verdict}
use Rattle.srm_entries.specs.declared.entry.Verdict.TheVariants.{Ignored}
use Rattle.srm_live.specs.declared.signs.Sign.{Sign}
use Rattle.srm_live.specs.declared.signs.Sign.TheVariants.{OtherSession, TooLong}
use Rattle.srm_live.specs.declared.signs.TheConstants.{SILENCE}

-- what bytes with this first fault tell of the settings of who sent them
abbrev pub sign_of_fault : DecodeFault → Option Sign
sign_of_fault decoding.Session = Some OtherSession
sign_of_fault decoding.Length = Some TooLong
sign_of_fault _ = None

abbrev pub sign_of : Verdict → Option Sign
sign_of (Ignored (Decode fault)) = sign_of_fault fault
sign_of _ = None

-- To one of several members no datagram of another came within ten seconds from its start.
abbrev pub is_unheard : ℕ → ℕ → ℕ → Bool
is_unheard members came moment = (nat_lt 1 members && came == 0) && nat_le SILENCE moment
