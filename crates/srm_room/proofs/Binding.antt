-- Steps of reading, one after the other.
use Rattle.std.proofs.Common.{◌≡◌, ℕ, Bool, true, false, not, cond, Result, Ok, Err, refl, sym, ap, subst, ◌∙◌}
use Rattle.std.specs.Prelude.{IfOk}
use Rattle.std.proofs.lemmas.Bool.{false≢true}
use Rattle.srm_room.specs.declared.fault.Fault.{Fault}
use Rattle.srm_room.specs.Readings.{◌>>=◌}

-- what holds of each value of the second step holds of the value of both
pub bind_IfOk : {A B : Type 0} (r : Result A Fault) (f : A → Result B Fault) (P : B → Type 0) → ((x : A) → r ≡ Ok x → IfOk (f x) P) → IfOk (r >>= f) P
bind_IfOk (Ok x) f P h = h x refl
bind_IfOk (Err e) f P h = tt

-- a test, and the value where it is passed
pub test_IfOk : {A : Type 0} (b : Bool) (x : A) (e : Fault) (P : A → Type 0) → (b ≡ true → P x) → IfOk (cond b (Ok x) (Err e)) P
test_IfOk true x e P h = h refl
test_IfOk false x e P h = tt

-- a refusal, and the next step where it isn't
pub guard_IfOk : {A : Type 0} (b : Bool) (e : Fault) (r : Result A Fault) (P : A → Type 0) → (b ≡ false → IfOk r P) → IfOk (cond b (Err e) r) P
guard_IfOk true e r P h = tt
guard_IfOk false e r P h = h refl

-- what holds of a step's value
pub value_of : {A : Type 0} (r : Result A Fault) (x : A) (P : A → Type 0) → r ≡ Ok x → IfOk r P → P x
value_of r x P e h = subst (λ s. IfOk s P) e h

-- a step with this value, and the next one
pub bind_step : {A B : Type 0} (r : Result A Fault) (x : A) (f : A → Result B Fault) (y : Result B Fault) → r ≡ Ok x → f x ≡ y → (r >>= f) ≡ y
bind_step r x f y e h = ap (λ s. s >>= f) e ∙ h

pub not_false : (b : Bool) → not b ≡ false → b ≡ true
not_false true e = refl
not_false false e = absurd (false≢true (sym e))
