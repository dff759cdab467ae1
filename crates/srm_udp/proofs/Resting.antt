-- How long a wire rests, and what the wire below pauses.
use Rattle.std.proofs.Common.{◌≡◌, ℕ, zero, suc, ◌-◌, ◌<◌, ◌≤◌, min, ap, sym, subst, arith}
use Rattle.std.specs.Prelude.{if◌then◌else◌}
use Rattle.std.proofs.lemmas.Bool.{lt-ltb, le-ltb}
use Rattle.std.proofs.Math.Nat.{zero-sub}
use Rattle.srm_udp.specs.Resting.{RestedView, rest_of, PausesRested}

-- after less than two datagrams a pause doesn't rest
pub rests_none : (came micros : ℕ) → came < 2 → micros ≡ micros - rest_of came micros
rests_none came micros few = subst (λ b. micros ≡ micros - (if b then 0 else min micros 100)) (sym (lt-ltb came 2 few)) (omega arith)

-- and after two or more it does
pub rests_some : (came micros rest : ℕ) → 2 ≤ came → rest ≡ min micros 100 → micros - rest ≡ micros - rest_of came micros
rests_some came micros rest many is = subst (λ b. micros - rest ≡ micros - (if b then 0 else min micros 100)) (sym (le-ltb came 2 many)) (ap (λ r. micros - r) is)

-- a pause of nothing is one of the wire below
pub pauses_nothing : {W : Type 0} (Below : W → ℕ → W → Type 0) (old new : RestedView W) (micros : ℕ) → micros ≡ 0 → Below old.wire 0 new.wire → new.came ≡ old.came → PausesRested Below old micros new
pauses_nothing Below old new micros nothing below came =
    let here : PausesRested Below old 0 new = (subst (λ n. Below old.wire n new.wire) (sym (zero-sub (rest_of old.came 0))) below, came) in
    subst (λ n. PausesRested Below old n new) (sym nothing) here

-- and one that waits is one of it for what is left
pub pauses_rest : {W : Type 0} (Below : W → ℕ → W → Type 0) (old new : RestedView W) (micros left : ℕ) → 0 < micros → left ≡ micros - rest_of old.came micros → Below old.wire left new.wire → new.came ≡ 0 → PausesRested Below old micros new
pauses_rest Below old new zero left some is below came = absurd (omega (arith, some))
pauses_rest Below old new (suc micros) left some is below came = (subst (λ n. Below old.wire n new.wire) is below, came)
