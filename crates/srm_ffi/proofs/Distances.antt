-- A distance that is told is that of the agent in the handle, which stays.
use Rattle.std.proofs.Common.{◌≡◌, ℕ, refl, sym, subst}
use Rattle.std.specs.Prelude.{Option, Some}
use Rattle.srm_seat.specs.Seats.{SeatContent}
use Rattle.srm_seat.specs.Asking.{IsDistance}
use Rattle.srm_ffi.specs.Calls.{DistanceCall}

pub told : (member m : ℕ) (s seat : SeatContent) (before after : ℕ) (old new : Option SeatContent) → old ≡ Some seat → new ≡ Some seat → s ≡ seat → m ≡ member
    → IsDistance m s.agent after → DistanceCall member 0 before after old new
told member m s seat before after old new is_old is_new is_seat is_member distance =
    subst (λ o. DistanceCall member 0 before after o new) (sym is_old) (subst (λ n. DistanceCall member 0 before after (Some seat) n) (sym is_new)
    (refl, refl, subst (λ k. IsDistance k seat.agent after) is_member (subst (λ (t : SeatContent). IsDistance m t.agent after) is_seat distance)))
