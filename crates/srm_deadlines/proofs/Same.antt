-- The test of names.
use Rattle.std.proofs.Common.{◌≡◌, Bool, true, false, refl, sym, subst, ◌∙◌}
use Rattle.srm_names.specs.FullName.{FullName}
use Rattle.srm_names.specs.Names.{same_name}
use Rattle.srm_names.proofs.Same.{same_name-is, same_name-itself}

same_other : (a b : FullName) → same_name a b ≡ true → same_name b a ≡ true
same_other a b e = subst (λ n. same_name n a ≡ true) (same_name-is a b e) (same_name-itself a)

pub same_flip : (a b : FullName) → same_name a b ≡ same_name b a
same_flip a b = go (same_name a b) refl (same_name b a) refl
  where
    go : (x : Bool) → same_name a b ≡ x → (y : Bool) → same_name b a ≡ y → x ≡ y
    go true e true f = refl
    go false e false f = refl
    go true e false f = sym (same_other a b e) ∙ f
    go false e true f = sym e ∙ same_other b a f
