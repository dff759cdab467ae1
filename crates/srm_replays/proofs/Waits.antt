-- Arms that are the same but for their waits are the same where the same random numbers chose these.
use Rattle.std.proofs.Common.{◌≡◌, ℕ, ◌+◌, ◌-◌, ◌%◌, List, [], ◌∷◌, ◌++◌, map, refl, ap, sym, ◌∙◌}
use Rattle.srm_timers.specs.declared.arm.Arm.{Arm}
use Rattle.srm_timers.specs.declared.arm.ArmKind.{ArmKind}
use Rattle.srm_timers.specs.declared.arm.ArmKind.TheVariants.{Ask, Fix}
use Rattle.srm_timers.specs.Arms.{Plan, AreChosen, plan_of}
use Rattle.srm_entries.specs.Configs.{Config}
use Rattle.srm_entries.specs.Timers.{low_of, high_of}

-- an arm of a plan
abbrev waiting : Plan → ℕ → Arm
waiting p wait = record { kind = p.wait_basis.kind; name = p.name; exponent = p.wait_basis.exponent; distance = p.wait_basis.distance; wait = wait }

low_by : (c : Config) (p : Plan) (u v : ℕ) → low_of c (waiting p u) ≡ low_of c (waiting p v)
low_by c p u v = go p.wait_basis.kind
  where
    go : (k : ArmKind) → low_of c (record (waiting p u) { kind = k }) ≡ low_of c (record (waiting p v) { kind = k })
    go Ask = refl
    go Fix = refl

high_by : (c : Config) (p : Plan) (u v : ℕ) → high_of c (waiting p u) ≡ high_of c (waiting p v)
high_by c p u v = go p.wait_basis.kind
  where
    go : (k : ArmKind) → high_of c (record (waiting p u) { kind = k }) ≡ high_of c (record (waiting p v) { kind = k })
    go Ask = refl
    go Fix = refl

one_wait : (word low high low' high' wait wait' : ℕ) → low ≡ low' → high ≡ high' → wait ≡ low + word % (high - low + 1) → wait' ≡ low' + word % (high' - low' + 1) → wait ≡ wait'
one_wait word low high low' high' wait wait' p q e f = e ∙ ap (λ l. l + word % (high - l + 1)) p ∙ ap (λ h. low' + word % (h - low' + 1)) q ∙ sym f

-- an arm is its plan and its wait
arm_parts : (c : Config) (x y : Arm) (word : ℕ) → plan_of x ≡ plan_of y → x.wait ≡ low_of c x + word % (high_of c x - low_of c x + 1) → y.wait ≡ low_of c y + word % (high_of c y - low_of c y + 1) → x ≡ y
arm_parts c x y word e p q =
    let low : low_of c x ≡ low_of c y = low_by c (plan_of x) x.wait y.wait ∙ ap (λ (r : Plan). low_of c (waiting r y.wait)) e in
    let high : high_of c x ≡ high_of c y = high_by c (plan_of x) x.wait y.wait ∙ ap (λ (r : Plan). high_of c (waiting r y.wait)) e in
    let wait : x.wait ≡ y.wait = one_wait word (low_of c x) (high_of c x) (low_of c y) (high_of c y) x.wait y.wait low high p q in
    ap (λ (r : Plan). waiting r x.wait) e ∙ ap (λ w. waiting (plan_of y) w) wait

-- the same arms, and the same generator after them
pub record SameArms {W : Type 0} (xs ys : List Arm) (to other : W) : Type 0 where
  pub arms : xs ≡ ys
  pub after : to ≡ other

pub same_arms : {W : Type 0} (next_word : W → ℕ × W) (c : Config) (from to other : W) (xs ys : List Arm) → map plan_of xs ≡ map plan_of ys
    → AreChosen next_word (low_of c) (high_of c) from xs to → AreChosen next_word (low_of c) (high_of c) from ys other → SameArms xs ys to other
same_arms next_word c from to other [] [] e h k = record { arms = refl; after = h ∙ sym k }
same_arms next_word c from to other [] (y ∷ ys) e h k = absurd (cc)
same_arms next_word c from to other (x ∷ xs) [] e h k = absurd (cc)
same_arms next_word c from to other (x ∷ xs) (y ∷ ys) e h k =
    let head : plan_of x ≡ plan_of y = cc in
    let tail : map plan_of xs ≡ map plan_of ys = cc in
    let first : x ≡ y = arm_parts c x y (next_word from).0 head h.0 k.0 in
    let rest = same_arms next_word c (next_word from).1 to other xs ys tail h.1 k.1 in
    record { arms = ap (λ a. a ∷ xs) first ∙ ap (λ as_. y ∷ as_) rest.arms; after = rest.after }

-- the arms of a list and then those of another
pub record ChosenInParts {W : Type 0} (next_word : W → ℕ × W) (c : Config) (from to : W) (xs ys : List Arm) : Type 0 where
  pub mid : W
  pub first : AreChosen next_word (low_of c) (high_of c) from xs mid
  pub then_ : AreChosen next_word (low_of c) (high_of c) mid ys to

pub chosen_in_parts : {W : Type 0} (next_word : W → ℕ × W) (c : Config) (from to : W) (xs ys : List Arm) → AreChosen next_word (low_of c) (high_of c) from (xs ++ ys) to → ChosenInParts next_word c from to xs ys
chosen_in_parts next_word c from to [] ys h = record { mid = from; first = refl; then_ = h }
chosen_in_parts next_word c from to (x ∷ xs) ys h =
    let k = chosen_in_parts next_word c (next_word from).1 to xs ys h.1 in
    record { mid = k.mid; first = (h.0, k.first); then_ = k.then_ }
