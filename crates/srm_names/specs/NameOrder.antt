-- What it says that names are in a total order.
use Rattle.std.specs.Prelude.{◌≡◌, true, false, ◌⊎◌}
use Rattle.srm_names.specs.FullName.{FullName}
use Rattle.srm_names.specs.Names.{name_below}

-- none is before itself, what is before a name is before all after it, and of two different names one is before the other
pub record IsTotalOrderOfNames : Type 0 where
  pub irreflexive : (a : FullName) → name_below a a ≡ false
  pub transitive : (a b c : FullName) → name_below a b ≡ true → name_below b c ≡ true → name_below a c ≡ true
  pub total : (a b : FullName) → (name_below a b ≡ true) ⊎ ((a ≡ b) ⊎ (name_below b a ≡ true))
