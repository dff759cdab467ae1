-- A key that is read whole.
use Rattle.std.proofs.Common.{◌≡◌, ℕ, List, refl, sym, subst}
use Rattle.std.specs.Prelude.{Option, Some, None, Result, Ok, Err, IfOk, IfSome}
use Rattle.srm_options.specs.declared.key_source.KeySource.{KeySource}
use Rattle.srm_guarded.specs.Keying.{IsAllOf, IsKeyOf, IsKeyRead}

-- the file that was opened is the one
pub all_of_file : {F E : Type 0} (remaining : F → Option (List ℕ)) (file : F) (r : Result (List ℕ) E) → IfOk r (λ key. IfSome (remaining file) (λ all. key ≡ all)) → IfOk r (λ key. IsAllOf remaining key)
all_of_file remaining file (Ok key) all = (file, all)
all_of_file remaining file (Err e) all = tt

-- a source is named, and the key is as it says
pub key_of_source : {F : Type 0} (remaining : F → Option (List ℕ)) (named : Option KeySource) (source : KeySource) (key : List ℕ) → named ≡ Some source → IsKeyOf remaining source key → IsKeyRead remaining named (Some key)
key_of_source remaining named source key is all = subst (λ o. IsKeyRead remaining o (Some key)) (sym is) (key, refl, all)

-- none is named
pub no_key : {F : Type 0} (remaining : F → Option (List ℕ)) (named : Option KeySource) → named ≡ None → IsKeyRead remaining named None
no_key remaining named is = subst (λ o. IsKeyRead remaining o None) (sym is) refl
