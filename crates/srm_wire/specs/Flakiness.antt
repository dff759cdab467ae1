-- A wire that fails one call.
use Rattle.std.specs.Prelude.{◌≡◌, ℕ, ◌-◌, ◌==◌, Bool, true}
use Rattle.std.specs.Bool.{MatchBool}
use Rattle.srm_wire.specs.Wires.{one_more}

-- the wire below, how many calls there are up to and including the one that fails (0: none does), and how many failed here
pub record FlakyView (W : Type 0) : Type 0 where
  pub wire : W
  pub remaining : ℕ
  pub own : ℕ

abbrev pub fails_next : {W : Type 0} → FlakyView W → Bool
fails_next f = f.remaining == 1

-- One call, given what the call of the wire below does, and whether it failed. The call that is to fail is counted and passes nothing on; it is
-- the only one. Every other call is that of the wire below, and brings the failure one call nearer.
abbrev pub FailsOnce : {W : Type 0} → (W → W → Type 0) → Bool → FlakyView W → FlakyView W → Type 0
FailsOnce Below failed old new = MatchBool (fails_next old) ((failed ≡ true) × (new ≡ record { wire = old.wire; remaining = 0; own = one_more old.own })) ((new ≡ record { wire = new.wire; remaining = old.remaining - 1; own = old.own }) × Below old.wire new.wire)
