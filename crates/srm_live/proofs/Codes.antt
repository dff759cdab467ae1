-- Pages as numbers, and back.
use Rattle.std.proofs.Common.{ℕ, ◌-◌, ◌/◌, ◌≤◌, arith}
use Rattle.srm_live.specs.PageCodes.{IsNoCode}

-- a code is above 0, and its page has a member
pub no_code : (code : ℕ) → 32 ≤ (code - 1) / 65536 → IsNoCode code
no_code code far p member number is = absurd (omega (arith, far, member, number, is))
