-- What is said of a refusal.
use Rattle.std.proofs.Common.{◌≡◌, Result, Ok, Err, OnErr, ap}
use Rattle.std.specs.Prelude.{IsErrAnd}

pub at_err : {A E : Type 0} {P : Type 0} (r : Result A E) → P → OnErr r P
at_err (Ok x) p = tt
at_err (Err e) p = p

pub err_is : {X E : Type 0} (r : Result X E) (f : E) → IsErrAnd r (λ g. g ≡ f) → r ≡ Err f
err_is (Ok x) f h = absurd h
err_is (Err g) f h = ap Err h
