-- The timer of a name in two lists of timers, one behind the other.
use Rattle.std.proofs.Common.{◌≡◌, ℕ, Bool, true, false, ◌||◌, List, [], ◌∷◌, ◌++◌, refl, cond}
use Rattle.std.specs.Prelude.{Option, Some, None, is_some, option_map}
use Rattle.srm_names.specs.FullName.{FullName}
use Rattle.srm_names.specs.Histories.{or_else}
use Rattle.srm_names.specs.Names.{same_name, among}
use Rattle.srm_timers.specs.declared.arm.Arm.{Arm}
use Rattle.srm_timers.specs.declared.arm.Armed.{Armed}
use Rattle.srm_timers.specs.declared.arm.ArmKind.{ArmKind}
use Rattle.srm_timers.specs.Arms.{wait_basis, arm_names, arm_of}
use Rattle.srm_timers.specs.Timers.{armed_at}
use Rattle.srm_entries.proofs.Setting.{of_kind}

-- the arm of a name in two lists

pub arm_of-append : (n : FullName) (xs ys : List Arm) → arm_of n (xs ++ ys) ≡ or_else (arm_of n xs) (arm_of n ys)
arm_of-append n [] ys = refl
arm_of-append n (x ∷ xs) ys = go (same_name n x.name) (arm_of-append n xs ys)
  where
    go : (b : Bool) → arm_of n (xs ++ ys) ≡ or_else (arm_of n xs) (arm_of n ys) → cond b (Some x) (arm_of n (xs ++ ys)) ≡ or_else (cond b (Some x) (arm_of n xs)) (arm_of n ys)
    go true more = refl
    go false more = more

pub arm_named : (n : FullName) (arms : List Arm) → is_some (arm_of n arms) ≡ among (arm_names arms) n
arm_named n [] = refl
arm_named n (a ∷ arms) = go (same_name n a.name) (arm_named n arms)
  where
    go : (b : Bool) → is_some (arm_of n arms) ≡ among (arm_names arms) n → is_some (cond b (Some a) (arm_of n arms)) ≡ (b || among (arm_names arms) n)
    go true more = refl
    go false more = more

pub joined : (now : ℕ) (k : ArmKind) (a b : Option Arm) (rest : Option Armed) → (is_some b ≡ true → a ≡ None)
    → or_else (option_map (armed_at now) (of_kind k b)) (or_else (option_map (armed_at now) (of_kind k a)) rest) ≡ or_else (option_map (armed_at now) (of_kind k (or_else a b))) rest
joined now k None None rest e = refl
joined now k None (Some b) rest e = refl
joined now k (Some a) None rest e = refl
joined now k (Some a) (Some b) rest e = let wrong : Some a ≡ None = e refl in absurd (cc)

pub setting_or : (a b : Option Arm) → option_map wait_basis (or_else a b) ≡ or_else (option_map wait_basis a) (option_map wait_basis b)
setting_or None b = refl
setting_or (Some a) b = refl
