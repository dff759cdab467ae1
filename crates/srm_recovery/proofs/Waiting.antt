-- The greatest distance bounds how long timers wait and hold-offs last.
use Rattle.std.proofs.Common.{◌≡◌, ℕ, ◌==◌, ◌+◌, ◌*◌, ◌^◌, ◌≤◌, ◌<◌, Bool, true, false, not, ◌&&◌, ◌||◌, List, [], ◌∷◌, ◌++◌, length, map, refl, ap, sym, ◌∙◌, subst, arith, inl, inr, append_assoc, le_trans}
use Rattle.std.specs.Prelude.{Option, Some, None, if◌then◌else◌, is_some, option_map, nat_le}
use Rattle.std.proofs.lemmas.Option.{none-some, same_Some}
use Rattle.std.proofs.lemmas.Bool.{eqb-true}
use Rattle.std.proofs.Math.Nat.{mul-le-mul_left, mul-le-mul_right}
use Rattle.std.proofs.Math.Pow.{pow_mono}
use Rattle.srm_names.specs.FullName.{FullName}
use Rattle.srm_names.specs.Histories.{greatest}
use Rattle.srm_names.specs.Names.{among}
use Rattle.srm_names.proofs.Lists.{Has, Has-back, Has-passes, All-Has, all_by}
use Rattle.srm_timers.specs.declared.limits.TheConstants.{GREATEST_EXPONENT}
use Rattle.srm_timers.specs.declared.arm.Arm.{Arm}
use Rattle.srm_timers.specs.declared.arm.Armed.{Armed}
use Rattle.srm_timers.specs.declared.arm.ArmKind.{ArmKind}
use Rattle.srm_timers.specs.declared.arm.ArmKind.TheVariants.{Ask, Fix}
use Rattle.srm_timers.specs.Arms as timers
use Rattle.srm_timers.specs.Arms.{WaitBasis, wait_basis, same_kind, arm_of, next_exponent, backs_off}
use Rattle.srm_entries.specs.Configs.{Config}
use Rattle.srm_entries.specs.declared.entry.Entry.{Entry}
use Rattle.srm_entries.specs.Entries.{is_held, is_missing}
use Rattle.srm_entries.specs.Distances.{distance}
use Rattle.srm_entries.specs.Timers.{arm_in, asker, asks_for, last_ask, fix_running, held_off, ask_exponent, ask_basis_of, fix_basis_of, basis_of, high_of, ArmsRight}
use Rattle.srm_entries.proofs.Arming.{ask_at, fix_at, arm_found, kind_set, waits_at_most}
use Rattle.srm_entries.proofs.Setting.{of_kind, find_kind, ask_high}
use Rattle.srm_world.specs.declared.start.Start.{Start}
use Rattle.srm_world.specs.Traces.{Trace, of_member, IsRun}
use Rattle.srm_recovery.specs.Timing.{Timing}
use Rattle.srm_recovery.specs.Members.{EntryWithin, WaitsAtMost}
use Rattle.srm_recovery.specs.Waits.{NearAtMost, longest_request_wait, longest_repair_wait, WaitsLaw}
use Rattle.srm_recovery.proofs.Ordering.{right_at, Own, own_of}

-- the settings of an arm are those that the law sets

kind_found : (kind : ArmKind) (o : Option Arm) (x : Arm) → of_kind kind o ≡ Some x → o ≡ Some x
kind_found kind None x e = e
kind_found kind (Some a) x e = go (same_kind kind a.kind) e
  where
    go : (b : Bool) → (if b then Some a else None) ≡ Some x → Some a ≡ Some x
    go true q = q
    go false q = absurd (none-some x q)

basis_is : (kind : ArmKind) (n : FullName) (c : Config) (before : List Entry) (e : Entry) (a : Armed) → ArmsRight c before e → arm_in kind n e ≡ Some a → basis_of c before e n ≡ Some (wait_basis a.arm)
basis_is kind n c before e a r h =
    sym (r.are.exact n) ∙ ap (option_map wait_basis) (kind_found kind (arm_of n e.effects.arms) a.arm (sym (find_kind kind n e.effects.arms r.are.in_order) ∙ (arm_found kind n e a h).0))

-- no exponent is above the greatest
next_small : (a : Armed) → next_exponent a ≤ GREATEST_EXPONENT
next_small a = omega arith

exponent_small : (before : List Entry) (e : Entry) (n : FullName) (i : ℕ) → ask_exponent before e n ≡ Some i → i ≤ GREATEST_EXPONENT
exponent_small before e n i h = go (is_missing before n) (asks_for n e) (among e.effects.asks n) (is_missing (before ++ e ∷ []) n) (last_ask before n) h
  where
    of_next : (o : Option Armed) → option_map next_exponent o ≡ Some i → i ≤ GREATEST_EXPONENT
    of_next None q = absurd (none-some i q)
    of_next (Some a) q = subst (λ k. k ≤ GREATEST_EXPONENT) (same_Some (next_exponent a) i q) (next_small a)

    of_back_off : (o : Option Armed) → backs_off e.moment o ≡ Some i → i ≤ GREATEST_EXPONENT
    of_back_off None q = absurd (none-some i q)
    of_back_off (Some a) q = one ((a.arm.exponent == 0) || nat_le (timers.ignored_until a) e.moment) q
      where
        one : (b : Bool) → (if b then Some (next_exponent a) else None) ≡ Some i → i ≤ GREATEST_EXPONENT
        one true k = subst (λ j. j ≤ GREATEST_EXPONENT) (same_Some (next_exponent a) i k) (next_small a)
        one false k = absurd (none-some i k)

    go : (m a s l : Bool) (o : Option Armed)
        → (if m then (if a then backs_off e.moment o else if s then option_map next_exponent o else None) else if l then Some (if a then 1 else 0) else None) ≡ Some i → i ≤ GREATEST_EXPONENT
    go true true s l o q = of_back_off o q
    go true false true l o q = of_next o q
    go true false false l o q = absurd (none-some i q)
    go false true s true o q = subst (λ k. k ≤ GREATEST_EXPONENT) (same_Some 1 i q) (omega arith)
    go false false s true o q = subst (λ k. k ≤ GREATEST_EXPONENT) (same_Some 0 i q) (omega arith)
    go false a s false o q = absurd (none-some i q)

-- an arm of a request timer, and one of a repair timer

pub record AskArm (c : Config) (es : List Entry) (a : Arm) : Type 0 where
  pub exponent : a.exponent ≤ GREATEST_EXPONENT
  pub to : ℕ
  pub distance_is : a.distance ≡ distance c es to

ask_arm : (c : Config) (before : List Entry) (e : Entry) (n : FullName) (a : Armed) → ArmsRight c before e → arm_in Ask n e ≡ Some a → (a.arm.kind ≡ Ask) × AskArm c (before ++ e ∷ []) a.arm
ask_arm c before e n a r k = (kind, go (is_held before n) refl)
  where
    basis : basis_of c before e n ≡ Some (wait_basis a.arm)
    basis = basis_is Ask n c before e a r k

    kind : a.arm.kind ≡ Ask
    kind = kind_set Ask n c before e a (wait_basis a.arm) r k basis

    fixes : (b : Bool) (o : Option ℕ) → (if b then option_map (fix_at c before) o else None) ≡ Some (wait_basis a.arm) → a.arm.kind ≡ Fix
    fixes true (Some x) q = ap (λ (w : WaitBasis). w.kind) (sym (same_Some (fix_at c before x) (wait_basis a.arm) q))
    fixes true None q = absurd (none-some (wait_basis a.arm) q)
    fixes false o q = absurd (none-some (wait_basis a.arm) q)

    asks : (o : Option ℕ) → ask_exponent before e n ≡ o → option_map (ask_at c (before ++ e ∷ []) n) o ≡ Some (wait_basis a.arm) → AskArm c (before ++ e ∷ []) a.arm
    asks None x q = absurd (none-some (wait_basis a.arm) q)
    asks (Some i) x q =
        let same = same_Some (ask_at c (before ++ e ∷ []) n i) (wait_basis a.arm) q in
        record {
          exponent = subst (λ j. j ≤ GREATEST_EXPONENT) (ap (λ (w : WaitBasis). w.exponent) same) (exponent_small before e n i x);
          to = n.stream.source;
          distance_is = ap (λ (w : WaitBasis). w.distance) (sym same);
        }

    go : (b : Bool) → is_held before n ≡ b → AskArm c (before ++ e ∷ []) a.arm
    go true h =
        let fix : a.arm.kind ≡ Fix = fixes (is_held before n && not (is_some (fix_running before n)) && not (held_off c before n e.moment)) (asker n e)
        (ap (λ b. if b then fix_basis_of c before e n else ask_basis_of c before e n) (sym h) ∙ basis) in
        let bad : Ask ≡ Fix = sym kind ∙ fix in
        absurd (cc)
    go false h = asks (ask_exponent before e n) refl (ap (λ b. if b then fix_basis_of c before e n else ask_basis_of c before e n) (sym h) ∙ basis)

fix_arm : (c : Config) (before : List Entry) (e : Entry) (n : FullName) (a : Armed) → ArmsRight c before e → arm_in Fix n e ≡ Some a → (a.arm.kind ≡ Fix) × (to : ℕ) × (a.arm.distance ≡ distance c before to)
fix_arm c before e n a r k = let f = go (is_held before n) refl in (kind, f.0, f.1)
  where
    basis : basis_of c before e n ≡ Some (wait_basis a.arm)
    basis = basis_is Fix n c before e a r k

    kind : a.arm.kind ≡ Fix
    kind = kind_set Fix n c before e a (wait_basis a.arm) r k basis

    fixes : (b : Bool) (o : Option ℕ) → (if b then option_map (fix_at c before) o else None) ≡ Some (wait_basis a.arm) → (to : ℕ) × (a.arm.distance ≡ distance c before to)
    fixes true (Some x) q = (x, ap (λ (w : WaitBasis). w.distance) (sym (same_Some (fix_at c before x) (wait_basis a.arm) q)))
    fixes true None q = absurd (none-some (wait_basis a.arm) q)
    fixes false o q = absurd (none-some (wait_basis a.arm) q)

    asks : (o : Option ℕ) → option_map (ask_at c (before ++ e ∷ []) n) o ≡ Some (wait_basis a.arm) → a.arm.kind ≡ Ask
    asks None q = absurd (none-some (wait_basis a.arm) q)
    asks (Some i) q = ap (λ (w : WaitBasis). w.kind) (sym (same_Some (ask_at c (before ++ e ∷ []) n i) (wait_basis a.arm) q))

    go : (b : Bool) → is_held before n ≡ b → (to : ℕ) × (a.arm.distance ≡ distance c before to)
    go true h = fixes (is_held before n && not (is_some (fix_running before n)) && not (held_off c before n e.moment)) (asker n e)
        (ap (λ b. if b then fix_basis_of c before e n else ask_basis_of c before e n) (sym h) ∙ basis)
    go false h =
        let ask : a.arm.kind ≡ Ask = asks (ask_exponent before e n) (ap (λ b. if b then fix_basis_of c before e n else ask_basis_of c before e n) (sym h) ∙ basis) in
        let bad : Fix ≡ Ask = sym kind ∙ ask in
        absurd (cc)

-- a repair timer's range
fix_high : (c : Config) (a : Arm) → a.kind ≡ Fix → high_of c a ≡ (c.d1 + c.d2) * a.distance
fix_high c a k = ap (λ kind. high_of c (record a { kind = kind })) k

-- the greatest of the roster
in_roster : (f : Start → ℕ) (a : Start) (starts : List Start) → Has a starts → f a ≤ greatest (map f starts)
in_roster f a [] h = absurd h
in_roster f a (b ∷ starts) (inl e) = let q : f a ≡ f b = ap f e in omega arith
in_roster f a (b ∷ starts) (inr h) = let l : f a ≤ greatest (map f starts) = in_roster f a starts h in omega arith

-- the member of an entry is of the roster
own_here : (t : Trace) (p : Timing) (m from to : ℕ) → IsRun t → (h : EntryWithin t p m from to) → Own t m
own_here t p m from to run h =
    let there : Has h.this (of_member m t.entries) = subst (λ w. Has h.this w) (sym h.split) (Has-back h.this h.before (h.this ∷ h.after) (inl refl)) in
    let k = Has-passes (λ (e : Entry). e.member == m) h.this t.entries there in
    let same : h.this.member ≡ m = eqb-true h.this.member m k.1 in
    own_of t m run (subst (λ w. w < length t.starts) same (All-Has (λ (e : Entry). e.member < length t.starts) h.this t.entries run.inside k.0))

pub waits_law : WaitsLaw
waits_law t p d m to n run near = (
  asks,
  fixes,
  all_by (NearAtMost t.entries d) _ t.starts (λ a close me before after b q. (let l : distance a.config before b ≤ d = close before after b (ap (λ w. of_member w t.entries) me ∙ q) in omega (arith, l))) near,
)
  where
    near_at : (o : Own t m) (before after : List Entry) (b : ℕ) → of_member m t.entries ≡ before ++ after → distance o.start.config before b ≤ d
    near_at o before after b q = All-Has (NearAtMost t.entries d) o.start t.starts near o.has before after b (ap (λ w. of_member w t.entries) o.me ∙ q)

    asks : WaitsAtMost t p Ask m n to (greatest (map (longest_request_wait d) t.starts))
    asks h a k =
        let o = own_here t p m 0 to run h in
        let c : Config = o.start.config in
        let r = right_at c o.start.made (of_member m t.entries) h.before h.after h.this o.run.each h.split in
        let (kind, arm) = ask_arm c h.before h.this n a r.arms k in
        let l : a.arm.wait ≤ timers.high_of c.c1 c.c2 a.arm = subst (λ w. a.arm.wait ≤ w) (sym (ask_high c a.arm kind)) (waits_at_most Ask n c h.before h.this a r.arms k) in
        let close : a.arm.distance ≤ d = subst (λ w. w ≤ d) (sym arm.distance_is) (near_at o (h.before ++ h.this ∷ []) h.after arm.to (h.split ∙ sym (append_assoc h.before (h.this ∷ []) h.after))) in
        let pow : 2 ^ a.arm.exponent ≤ 2 ^ GREATEST_EXPONENT = pow_mono arm.exponent in
        le_trans l (le_trans (mul-le-mul_right a.arm.distance (mul-le-mul_right (c.c1 + c.c2) pow)) (le_trans (mul-le-mul_left (2 ^ GREATEST_EXPONENT * (c.c1 + c.c2)) close) (in_roster (longest_request_wait d) o.start t.starts o.has)))

    fixes : WaitsAtMost t p Fix m n to (greatest (map (longest_repair_wait d) t.starts))
    fixes h a k =
        let o = own_here t p m 0 to run h in
        let c : Config = o.start.config in
        let r = right_at c o.start.made (of_member m t.entries) h.before h.after h.this o.run.each h.split in
        let (kind, who, is) = fix_arm c h.before h.this n a r.arms k in
        let l : a.arm.wait ≤ (c.d1 + c.d2) * a.arm.distance = subst (λ w. a.arm.wait ≤ w) (fix_high c a.arm kind) (waits_at_most Fix n c h.before h.this a r.arms k) in
        let close : a.arm.distance ≤ d = subst (λ w. w ≤ d) (sym is) (near_at o h.before (h.this ∷ h.after) who h.split) in
        le_trans l (le_trans (mul-le-mul_left (c.d1 + c.d2) close) (in_roster (longest_repair_wait d) o.start t.starts o.has))
