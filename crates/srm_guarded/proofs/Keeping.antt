-- A new wire keeps to its roster, or not.
use Rattle.std.proofs.Common.{◌≡◌, ap, sym, ◌∙◌}
use Rattle.std.specs.Prelude.{Bool, true, false}
use Rattle.srm_udp.specs.Udp.{UdpView}
use Rattle.srm_guarded.specs.Guarding.{keeping_to}

-- it was told to
pub kept : (only : Bool) (old new : UdpView) → only ≡ true → new ≡ record old { inbox = record old.inbox { only_roster = true } } → new ≡ keeping_to only old
kept only old new asked is = is ∙ ap (λ b. keeping_to b old) (sym asked)

-- it wasn't, and didn't before
pub unkept : (only : Bool) (old new : UdpView) → only ≡ false → old.inbox.only_roster ≡ false → new ≡ old → new ≡ keeping_to only old
unkept only old new unasked before is = is ∙ ap (λ b. keeping_to b old) (before ∙ sym unasked)
