-- What the law of arms says of the arm that an entry holds for one name.
use Rattle.std.proofs.Common.{◌≡◌, ℕ, ◌≤◌, Bool, true, false, ◌&&◌, ◌||◌, List, [], ◌∷◌, map, refl, ap, sym, ◌∙◌, subst}
use Rattle.std.specs.Prelude.{find, Option, Some, None, is_some, option_map, cond}
use Rattle.std.specs.List.{list_any}
use Rattle.srm_names.specs.FullName.{FullName}
use Rattle.srm_names.specs.Names.{same_name, name_below, ascending}
use Rattle.srm_names.proofs.Lists.{All-Has, find-Has}
use Rattle.srm_names.proofs.Same.{same_name-is}
use Rattle.srm_names.proofs.Orders.{and_left, stands_once}
use Rattle.srm_names.proofs.Rising.{ascending_tail}
use Rattle.srm_entries.specs.Configs.{Config}
use Rattle.srm_entries.specs.declared.entry.Entry.{Entry}
use Rattle.srm_timers.specs.declared.arm.Arm.{Arm}
use Rattle.srm_timers.specs.declared.arm.ArmKind.{ArmKind}
use Rattle.srm_timers.specs.declared.arm.ArmKind.TheVariants.{Ask, Fix}
use Rattle.srm_entries.specs.Distances.{distance}
use Rattle.srm_timers.specs.declared.arm.Armed.{Armed}
use Rattle.srm_timers.specs.Arms.{WaitBasis, wait_basis, same_kind, arm_of}
use Rattle.srm_timers.specs.Timers.{armed_at}
use Rattle.srm_entries.specs.Timers.{arm_in, basis_of, low_of, high_of, ArmsRight}

-- finding by one test and by two

refined_at : {X : Type 0} (q : X → Bool) (x y : X) (b t : Bool) → q y ≡ t → (rest more : Option X) → (rest ≡ Some x → more ≡ Some x)
    → cond b (Some y) rest ≡ Some x → q x ≡ true → cond (t && b) (Some y) more ≡ Some x
refined_at q x y true true u rest more f e k = e
refined_at q x y true false u rest more f e k = absurd (cc)
refined_at q x y false true u rest more f e k = f e
refined_at q x y false false u rest more f e k = f e

pub find-refined : {X : Type 0} (p q : X → Bool) (xs : List X) (x : X) → find p xs ≡ Some x → q x ≡ true → find (λ y. q y && p y) xs ≡ Some x
find-refined p q [] x e k = absurd (cc)
find-refined p q (y ∷ ys) x e k = refined_at q x y (p y) (q y) refl (find p ys) (find (λ y. q y && p y) ys) (λ f. find-refined p q ys x f k) e k

coarser_at : {X : Type 0} (x y : X) (b t : Bool) (rest more : Option X) → (more ≡ Some x → is_some rest ≡ true) → cond (t && b) (Some y) more ≡ Some x → is_some (cond b (Some y) rest) ≡ true
coarser_at x y true t rest more f e = refl
coarser_at x y false true rest more f e = f e
coarser_at x y false false rest more f e = f e

pub find-coarser : {X : Type 0} (p q : X → Bool) (xs : List X) (x : X) → find (λ y. q y && p y) xs ≡ Some x → is_some (find p xs) ≡ true
find-coarser p q [] x e = absurd (cc)
find-coarser p q (y ∷ ys) x e = coarser_at x y (p y) (q y) (find p ys) (find (λ y. q y && p y) ys) (λ f. find-coarser p q ys x f) e

-- arms

-- the settings that the law asks for: a request timer with an exponent, where these are all entries with this one, and a repair timer for who asked, where these are
-- the entries before
abbrev pub ask_at : Config → List Entry → FullName → ℕ → WaitBasis
ask_at c entries n i = record { kind = Ask; exponent = i; distance = distance c entries n.stream.source }

abbrev pub fix_at : Config → List Entry → ℕ → WaitBasis
fix_at c before who = record { kind = Fix; exponent = 0; distance = distance c before who }

abbrev pub kind_and_name : ArmKind → FullName → Arm → Bool
kind_and_name kind n a = same_kind kind a.kind && same_name n a.name

same_kind_itself : (k : ArmKind) → same_kind k k ≡ true
same_kind_itself Ask = refl
same_kind_itself Fix = refl

same_kind_tells : (j k : ArmKind) → same_kind j k ≡ true → j ≡ k
same_kind_tells Ask Ask e = refl
same_kind_tells Ask Fix e = absurd (cc)
same_kind_tells Fix Ask e = absurd (cc)
same_kind_tells Fix Fix e = refl

pub found_of : (now : ℕ) (a : Armed) (o : Option Arm) → option_map (armed_at now) o ≡ Some a → (o ≡ Some a.arm) × (a.set ≡ now)
found_of now a None e = absurd (cc)
found_of now a (Some x) e =
    let h : armed_at now x ≡ a = cc in
    (ap (λ (t : Armed). Some t.arm) h, ap (λ (t : Armed). t.set) (sym h))

-- the arm of a kind and a name in an entry
pub arm_found : (kind : ArmKind) (n : FullName) (e : Entry) (a : Armed) → arm_in kind n e ≡ Some a → (find (kind_and_name kind n) e.effects.arms ≡ Some a.arm) × (a.set ≡ e.moment)
arm_found kind n e a h = found_of e.moment a (find (kind_and_name kind n) e.effects.arms) h

setting_found : (s : WaitBasis) (o : Option Arm) → option_map wait_basis o ≡ Some s → (a : Arm) × (o ≡ Some a) × (wait_basis a ≡ s)
setting_found s None e = absurd (cc)
setting_found s (Some a) e = (a, refl, cc)

-- where the law sets an arm, the entry has it
pub armed_by : (kind : ArmKind) (n : FullName) (c : Config) (before : List Entry) (e : Entry) (s : WaitBasis) → ArmsRight c before e
    → basis_of c before e n ≡ Some s → s.kind ≡ kind → is_some (arm_in kind n e) ≡ true
armed_by kind n c before e s r h k =
    let (a, found, is) = setting_found s (arm_of n e.effects.arms) (r.are.exact n ∙ h) in
    let test : same_kind kind a.kind ≡ true = subst (λ j. same_kind kind j ≡ true) (sym k ∙ ap (λ (t : WaitBasis). t.kind) (sym is)) (same_kind_itself kind) in
    let f = find-refined (λ (x : Arm). same_name n x.name) (λ (x : Arm). same_kind kind x.kind) e.effects.arms a found test in
    ap (λ o. is_some (option_map (armed_at e.moment) o)) f

pub some_of : {X : Type 0} (o : Option X) → is_some o ≡ true → (x : X) × (o ≡ Some x)
some_of None e = absurd (cc)
some_of (Some x) e = (x, refl)

-- where the entry has an arm, the law sets one
pub set_by : (kind : ArmKind) (n : FullName) (c : Config) (before : List Entry) (e : Entry) (a : Armed) → ArmsRight c before e
    → arm_in kind n e ≡ Some a → is_some (basis_of c before e n) ≡ true
set_by kind n c before e a r h =
    let (x, found) = some_of (arm_of n e.effects.arms) (find-coarser (λ (x : Arm). same_name n x.name) (λ (x : Arm). same_kind kind x.kind) e.effects.arms a.arm (arm_found kind n e a h).0) in
    ap is_some (sym (r.are.exact n) ∙ ap (option_map wait_basis) found)

-- where the law sets none, the entry has none
pub unset_by : (kind : ArmKind) (n : FullName) (c : Config) (before : List Entry) (e : Entry) → ArmsRight c before e
    → basis_of c before e n ≡ None → arm_in kind n e ≡ None
unset_by kind n c before e r h = go (arm_in kind n e) refl
  where
    go : (o : Option Armed) → arm_in kind n e ≡ o → o ≡ None
    go None k = refl
    go (Some a) k = absurd (none (ap is_some (sym h) ∙ set_by kind n c before e a r k))
      where
        none : false ≡ true → ⊥
        none x = absurd (cc)

-- an arm waits no longer than its interval
pub waits_at_most : (kind : ArmKind) (n : FullName) (c : Config) (before : List Entry) (e : Entry) (a : Armed) → ArmsRight c before e
    → arm_in kind n e ≡ Some a → a.arm.wait ≤ high_of c a.arm
waits_at_most kind n c before e a r h =
    (All-Has (λ (x : Arm). (low_of c x ≤ x.wait) × (x.wait ≤ high_of c x)) a.arm e.effects.arms r.waits (find-Has (kind_and_name kind n) e.effects.arms a.arm (arm_found kind n e a h).0).0).1

-- in order of name, the first arm of the name is the only one
alone_at : (n : FullName) (q : Arm → Bool) (x y : Arm) (ys : List Arm) (b t : Bool) → same_name n y.name ≡ b → q y ≡ t
    → (list_any (same_name n) (map (λ (z : Arm). z.name) ys) ≡ true → b ≡ true → ⊥)
    → (find (λ z. q z && same_name n z.name) ys ≡ Some x → find (λ (z : Arm). same_name n z.name) ys ≡ Some x)
    → (find (λ z. q z && same_name n z.name) ys ≡ Some x → list_any (same_name n) (map (λ (z : Arm). z.name) ys) ≡ true)
    → cond (t && b) (Some y) (find (λ z. q z && same_name n z.name) ys) ≡ Some x → cond b (Some y) (find (λ (z : Arm). same_name n z.name) ys) ≡ Some x
alone_at n q x y ys true true u v once more has e = e
alone_at n q x y ys true false u v once more has e = absurd (once (has e) refl)
alone_at n q x y ys false true u v once more has e = more e
alone_at n q x y ys false false u v once more has e = more e

among_names : (n : FullName) (q : Arm → Bool) (x : Arm) (ys : List Arm) → find (λ z. q z && same_name n z.name) ys ≡ Some x → list_any (same_name n) (map (λ (z : Arm). z.name) ys) ≡ true
among_names n q x [] e = absurd (cc)
among_names n q x (y ∷ ys) e = go (q y) (same_name n y.name) (find (λ z. q z && same_name n z.name) ys) (among_names n q x ys) e
  where
    go : (t b : Bool) (o : Option Arm) → (o ≡ Some x → list_any (same_name n) (map (λ (z : Arm). z.name) ys) ≡ true) → cond (t && b) (Some y) o ≡ Some x → b || list_any (same_name n) (map (λ (z : Arm). z.name) ys) ≡ true
    go t true o f k = refl
    go true false o f k = f k
    go false false o f k = f k

only_arm : (n : FullName) (q : Arm → Bool) (arms : List Arm) (x : Arm) → ascending name_below (map (λ (z : Arm). z.name) arms) ≡ true
    → find (λ z. q z && same_name n z.name) arms ≡ Some x → arm_of n arms ≡ Some x
only_arm n q [] x o e = absurd (cc)
only_arm n q (y ∷ ys) x o e =
    alone_at n q x y ys (same_name n y.name) (q y) refl refl
    (λ any same. stands_once n (map (λ (z : Arm). z.name) ys) (subst (λ m. ascending name_below (m ∷ map (λ (z : Arm). z.name) ys) ≡ true) (sym (same_name-is n y.name same)) o) any)
    (only_arm n q ys x (ascending_tail name_below y.name (map (λ (z : Arm). z.name) ys) o)) (among_names n q x ys) e

-- the arm of a kind and a name in an entry is the one that the law sets
pub kind_set : (kind : ArmKind) (n : FullName) (c : Config) (before : List Entry) (e : Entry) (a : Armed) (s : WaitBasis) → ArmsRight c before e
    → arm_in kind n e ≡ Some a → basis_of c before e n ≡ Some s → s.kind ≡ kind
kind_set kind n c before e a s r h k =
    let found = (arm_found kind n e a h).0 in
    let one = only_arm n (λ (x : Arm). same_kind kind x.kind) e.effects.arms a.arm r.are.in_order found in
    let is : Some (wait_basis a.arm) ≡ Some s = sym (ap (option_map wait_basis) one) ∙ r.are.exact n ∙ k in
    let same : wait_basis a.arm ≡ s = cc in
    let test : same_kind kind a.arm.kind ≡ true = and_left (same_kind kind a.arm.kind) (same_name n a.arm.name) (find-Has (kind_and_name kind n) e.effects.arms a.arm found).1 in
    ap (λ (t : WaitBasis). t.kind) (sym same) ∙ sym (same_kind_tells kind a.arm.kind test)
