-- Member 1 of the example goes on: it tells of the drawop, is asked for it, and answers. What members 1 and 2 do are runs.
use Rattle.std.proofs.Common.{◌≡◌, ℕ, ◌==◌, ◌+◌, ◌*◌, ◌≤◌, ◌<◌, Bool, true, false, ◌&&◌, ◌||◌, List, [], ◌∷◌, ◌++◌, map, refl, ap, sym, ◌∙◌, subst, arith, inl, lit<, lit≤, append_assoc}
use Rattle.std.specs.Prelude.{Option, Some, None, option_map, nat_le, nat_lt, not, is_some, if◌then◌else◌}
use Rattle.std.specs.List.{AllByRecursion}
use Rattle.std.proofs.lemmas.Bool.{and_parts, ltb-true, leb-true, false_from_ne_true}
use Rattle.srm_names.specs.FullName.{FullName}
use Rattle.srm_names.specs.Histories.{steps, greatest, or_else}
use Rattle.srm_names.specs.Names.{named, among, same_name, same_stream}
use Rattle.srm_names.proofs.Lists.{Has, Has-back, Has-step_split, any_Has}
use Rattle.srm_codec.specs.declared.datagram.Datagram.{Datagram}
use Rattle.srm_codec.specs.Spelling.{bits_set}
use Rattle.srm_bucket.specs.declared.class.Class.{Class}
use Rattle.srm_bucket.specs.declared.class.Class.TheVariants.{Shown, New, Other}
use Rattle.srm_bucket.specs.Calls.{Classed, BucketCall, Popped}
use Rattle.srm_bucket.specs.Classes.{departed, handed}
use Rattle.srm_bucket.specs.Law.{BucketLaw}
use Rattle.srm_timers.specs.declared.arm.Arm.{Arm}
use Rattle.srm_timers.specs.declared.arm.Armed.{Armed}
use Rattle.srm_timers.specs.declared.arm.ArmKind.TheVariants.{Fix}
use Rattle.srm_timers.specs.Arms.{wait_basis, ran_out, arm_of}
use Rattle.srm_timers.specs.FixCalls.{held_until}
use Rattle.srm_distance.specs.declared.returned.Returned.{Returned}
use Rattle.srm_entries.specs.declared.entry.Entry.{Entry}
use Rattle.srm_entries.specs.declared.state.AgentState.TheVariants.{Active}
use Rattle.srm_entries.specs.declared.entry.Input.TheVariants.{Ticked}
use Rattle.srm_entries.specs.Entries.{accepted, ticked, is_held, is_missing}
use Rattle.srm_entries.specs.Distances.{distance}
use Rattle.srm_entries.specs.Timers.{fix_due, asker, basis_of, fix_running, repairs_in, repaired, held_off, holds_off, first_asker}
use Rattle.srm_entries.specs.Bucket.{Going, idle, GoesAsCharged, classed}
use Rattle.srm_entries.specs.Runs.{EntryRight, IsMemberRun}
use Rattle.srm_entries.specs.Sample.{first_stream, fix_arm}
use Rattle.srm_entries.proofs.Adding.{fix_running-snoc}
use Rattle.srm_entries.proofs.Plain.{idle_right, of_all, no_setting, right, one_held, none_missing_in, one_of, went_one, one_goes, twice_known}
use Rattle.srm_world.specs.Traces.{of_member}
use Rattle.srm_recovery.proofs.Calm.{resting, joined, IsAtRest, resting_right, rested, resting_charged, within_test, pop, pops_law, one_more, one_more_gone, one_more_law, passed, unmeasured}
use Rattle.srm_recovery.proofs.GroupTrace.{prompt, lost, request_1, message_1, request_2, repair_1, told_1, asks_1, mended_1, tells, told_2, asks_2, asked_1, mends_1, mended_2, then_1, later_1, later_2, entries, message_1_spelled, request_spelled, repair_spelled, rows_right}
use Rattle.srm_recovery.proofs.GroupSource.{turned, none_fixed}
use Rattle.srm_recovery.proofs.GroupAskers.{told_1_right, told_2_right, asks_1_right, asks_2_right, mended_1_right, mended_2_right, past_1, past_2, rest_1, rest_2}

-- Member 1 rests, and sends its session message.

end_1 : IsAtRest (prompt 1) 500000 1500000 (past_1 ++ resting 1 then_1)
end_1 = rested (prompt 1) 500000 1500000 past_1 then_1 rest_1

abbrev told_on : List Entry
told_on = past_1 ++ resting 1 then_1 ++ tells ∷ []

missing_telling : (n : FullName) → is_missing told_on n ≡ false
missing_telling n = none_missing_in told_on one_held twice_known n

unfixed_telling : (n : FullName) → fix_running told_on n ≡ None
unfixed_telling n = fix_running-snoc (past_1 ++ resting 1 then_1) tells n ∙ end_1.fixing n

tells_right : EntryRight (prompt 1) 500000 (record { before = past_1 ++ resting 1 then_1; this = tells })
tells_right = right (prompt 1) 500000 (past_1 ++ resting 1 then_1) 1 1500000 Ticked None (message_1 ∷ []) None Active end_1.missing missing_telling (λ n. refl) end_1.fixing refl (lit≤ tt) refl refl (refl, tt) (message_1_spelled, tt) tt
    (message_1, refl, (refl, refl, refl, refl, refl, rows_right (prompt 1) (past_1 ++ resting 1 then_1) 1500000 refl (λ s e. ap (λ b. greatest (one_of b ++ (one_of b ++ []))) e))) refl refl

-- nobody measures a distance

silent : (b : Bool) → ◌≡◌ {A = Option Returned} (if b then None else None) None
silent true = refl
silent false = refl

pub near_0 : (before after : List Entry) (b : ℕ) → of_member 0 entries ≡ before ++ after → distance (prompt 0) before b ≤ 100000
unfolding bits_set
near_0 = unmeasured (prompt 0) (of_member 0 entries) refl tt

pub near_1 : (before after : List Entry) (b : ℕ) → of_member 1 entries ≡ before ++ after → distance (prompt 1) before b ≤ 100000
near_1 = unmeasured (prompt 1) (of_member 1 entries) refl ((λ b. silent (0 == b)), tt)

pub near_2 : (before after : List Entry) (b : ℕ) → of_member 2 entries ≡ before ++ after → distance (prompt 2) before b ≤ 100000
near_2 = unmeasured (prompt 2) (of_member 2 entries) refl ((λ b. silent (1 == b)), tt)

-- It is asked, long after it was answered, and answers.

thrice_known : (n : FullName) → same_stream n.stream first_stream ≡ false → greatest (one_of (same_stream n.stream first_stream) ++ (one_of (same_stream n.stream first_stream) ++ (one_of (same_stream n.stream first_stream) ++ []))) ≡ 0
thrice_known n e = ap (λ b. greatest (one_of b ++ (one_of b ++ (one_of b ++ [])))) e

missing_asked_1 : (n : FullName) → is_missing (told_on ++ asked_1 ∷ []) n ≡ false
unfolding bits_set
missing_asked_1 n = none_missing_in (told_on ++ asked_1 ∷ []) one_held thrice_known n

missing_mends_1 : (n : FullName) → is_missing (told_on ++ asked_1 ∷ mends_1 ∷ []) n ≡ false
unfolding bits_set
missing_mends_1 n = none_missing_in (told_on ++ asked_1 ∷ mends_1 ∷ []) one_held thrice_known n

abbrev is_nil : List FullName → Bool
is_nil [] = true
is_nil (n ∷ ns) = false

-- who repairs the name did so more than a hold-off before
pub early : (e : Entry) → Has e told_on → (n : FullName) → repaired n e ≡ true → e.moment ≤ 600001
early e h n r = go (passed (λ (x : Entry). nat_le x.moment 600001 || (not (is_some (accepted x)) && is_nil x.effects.fixes)) told_on refl e h)
  where
    of : (o : Option Datagram) (ns : List FullName) → not (is_some o) ≡ true → is_nil ns ≡ true → (repairs_in n o || among ns n) ≡ true → ⊥
    of None [] p q k = absurd (cc)
    of None (m ∷ ns) p q k = absurd (cc)
    of (Some g) ns p q k = absurd (cc)

    go : (nat_le e.moment 600001 || (not (is_some (accepted e)) && is_nil e.effects.fixes)) ≡ true → e.moment ≤ 600001
    go k = which (nat_le e.moment 600001) refl k
      where
        which : (b : Bool) → nat_le e.moment 600001 ≡ b → (b || (not (is_some (accepted e)) && is_nil e.effects.fixes)) ≡ true → e.moment ≤ 600001
        which true p k = leb-true e.moment 600001 p
        which false p k = let both = and_parts (not (is_some (accepted e))) (is_nil e.effects.fixes) k in absurd (of (accepted e) e.effects.fixes both.0 both.1 r)

not_held_off : (n : FullName) → held_off (prompt 1) told_on n 1550001 ≡ false
not_held_off n = false_from_ne_true (held_off (prompt 1) told_on n 1550001) holds_not
  where
    far : (now was d : ℕ) → now < held_until was d → d ≤ 100000 → was ≤ 600001 → 1550001 ≤ now → ⊥
    far now was d a l w k = let p : now < was + 3 * d = a in omega arith

    holds_not : held_off (prompt 1) told_on n 1550001 ≡ true → ⊥
    holds_not off =
        let (s, there, holding) = any_Has (holds_off (prompt 1) n 1550001) (steps told_on) off in
        let (rest, q) = Has-step_split s [] told_on there in
        let two = and_parts (repaired n s.this) (nat_lt 1550001 (held_until s.this.moment (distance (prompt 1) (s.before ++ s.this ∷ []) (first_asker s.before n)))) holding in
        let until = ltb-true 1550001 (held_until s.this.moment (distance (prompt 1) (s.before ++ s.this ∷ []) (first_asker s.before n))) two.1 in
        let parts : of_member 1 entries ≡ (s.before ++ s.this ∷ []) ++ (rest ++ (asked_1 ∷ mends_1 ∷ resting 1 later_1)) =
        ap (λ w. w ++ (asked_1 ∷ mends_1 ∷ resting 1 later_1)) q ∙ append_assoc s.before (s.this ∷ rest) (asked_1 ∷ mends_1 ∷ resting 1 later_1) ∙ sym (append_assoc s.before (s.this ∷ []) (rest ++ (asked_1 ∷ mends_1 ∷ resting 1 later_1))) in
        far 1550001 s.this.moment (distance (prompt 1) (s.before ++ s.this ∷ []) (first_asker s.before n)) until
        (near_1 (s.before ++ s.this ∷ []) (rest ++ (asked_1 ∷ mends_1 ∷ resting 1 later_1)) (first_asker s.before n) parts)
        (early s.this (subst (λ w. Has s.this w) (sym q) (Has-back s.this s.before (s.this ∷ rest) (inl refl))) n two.0) (lit≤ tt)

fixes_set_1 : (n : FullName) → option_map wait_basis (arm_of n asked_1.effects.arms) ≡ basis_of (prompt 1) told_on asked_1 n
unfolding bits_set
fixes_set_1 = of_all (λ n. option_map wait_basis (arm_of n asked_1.effects.arms) ≡ basis_of (prompt 1) told_on asked_1 n)
    (λ k. rw (missing_telling (named first_stream k), unfixed_telling (named first_stream k), not_held_off (named first_stream k)) (here (k == 1) ((1 == k) || false) (turned k)))
    (λ n e. rw (missing_telling n, missing_asked_1 n, unfixed_telling n, not_held_off n)
    (ap (λ b. option_map wait_basis (if b && (n.number == 1) then Some (fix_arm 1 0) else None)) e
    ∙ none_fixed (λ (a : ℕ). record { kind = Fix; exponent = 0; distance = distance (prompt 1) told_on a }) (is_held told_on n) (asker n asked_1) (ap (λ b. if (b && (n.number == 1)) || false then Some 2 else None) e)))
  where
    here : (first held : Bool) → first ≡ held → option_map wait_basis (if first then Some (fix_arm 1 0) else None)
        ≡ (if held then (if held && true && true then option_map (λ (a : ℕ). record { kind = Fix; exponent = 0; distance = distance (prompt 1) told_on a }) (if first || false then Some 2 else None) else None) else None)
    here true true p = refl
    here false false p = refl
    here true false p = absurd (cc)
    here false true p = absurd (cc)

asked_1_right : EntryRight (prompt 1) 500000 (record { before = told_on; this = asked_1 })
unfolding bits_set
asked_1_right = record {
  member = refl;
  moment = lit≤ tt;
  verdict = (refl, refl);
  drawn = refl;
  arms = record { are = record { in_order = refl; exact = fixes_set_1 }; waits = ((lit≤ tt, lit≤ tt), tt) };
  timers = record { asks = record { in_order = refl; exact = λ n. refl }; fixes = record { in_order = refl; exact = λ n. refl } };
  senders = tt;
  spelled = tt;
  read = request_spelled 2 (lit< tt);
  session = refl;
  message = refl;
  state = refl;
}

abbrev set_at : Bool → Option Armed
set_at b = option_map (λ (a : Arm). record { set = 1550001; arm = a }) (if b then Some (fix_arm 1 0) else None)

running_1 : (n : FullName) → fix_running (told_on ++ asked_1 ∷ []) n ≡ set_at (same_name n lost)
unfolding bits_set
running_1 n = fix_running-snoc told_on asked_1 n ∙ ap (λ (o : Option Armed). or_else (set_at (same_name n lost)) o) (unfixed_telling n) ∙ nothing (same_name n lost)
  where
    nothing : (b : Bool) → or_else (set_at b) None ≡ set_at b
    nothing true = refl
    nothing false = refl

fixed_1 : (n : FullName) → ((same_name n lost) || false) ≡ (ticked mends_1 && fix_due (told_on ++ asked_1 ∷ []) n 1600000)
fixed_1 n = which (same_name n lost) ∙ sym (ap (λ o. ran_out 1600000 o) (running_1 n))
  where
    which : (b : Bool) → (b || false) ≡ ran_out 1600000 (option_map (λ (a : Arm). record { set = 1550001; arm = a }) (if b then Some (fix_arm 1 0) else None))
    which true = refl
    which false = refl

mends_1_right : EntryRight (prompt 1) 500000 (record { before = told_on ++ asked_1 ∷ []; this = mends_1 })
mends_1_right = record {
  member = refl;
  moment = lit≤ tt;
  verdict = refl;
  drawn = refl;
  arms = record { are = record { in_order = refl; exact = λ n. no_setting (prompt 1) (told_on ++ asked_1 ∷ []) mends_1 n refl (missing_asked_1 n) (missing_mends_1 n) }; waits = tt };
  timers = record { asks = record { in_order = refl; exact = λ n. rw (missing_asked_1 n) refl }; fixes = record { in_order = refl; exact = fixed_1 } };
  senders = (refl, tt);
  spelled = (repair_spelled 1 (lit< tt), tt);
  read = tt;
  session = refl;
  message = refl;
  state = refl;
}

unfixed_1 : (n : FullName) → fix_running (told_on ++ asked_1 ∷ mends_1 ∷ []) n ≡ None
unfixed_1 n = fix_running-snoc (told_on ++ asked_1 ∷ []) mends_1 n ∙ ap (λ (o : Option Armed). if same_name n lost || false then None else or_else None o) (running_1 n) ∙ which (same_name n lost)
  where
    which : (b : Bool) → ◌≡◌ {A = Option Armed} (if b || false then None else or_else None (option_map (λ (a : Arm). record { set = 1550001; arm = a }) (if b then Some (fix_arm 1 0) else None))) None
    which true = refl
    which false = refl

rest_on : IsAtRest (prompt 1) 500000 2500000 (told_on ++ asked_1 ∷ mends_1 ∷ [])
rest_on = record { missing = missing_mends_1; fixing = unfixed_1; active = refl; due_is = refl }

each_1 : AllByRecursion (EntryRight (prompt 1) 500000) (steps (past_1 ++ resting 1 then_1 ++ tells ∷ asked_1 ∷ mends_1 ∷ resting 1 later_1))
each_1 = (
  told_1_right,
  (
    asks_1_right,
    (
      mended_1_right,
      joined (EntryRight (prompt 1) 500000) past_1 (resting 1 then_1) (tells ∷ asked_1 ∷ mends_1 ∷ resting 1 later_1) (resting_right (prompt 1) 500000 1500000 past_1 then_1 rest_1
          (lit≤ tt, lit< tt, (lit≤ tt, lit< tt, (lit≤ tt, lit< tt, (lit≤ tt, lit< tt, (lit≤ tt, lit< tt, (lit≤ tt, lit< tt, (lit≤ tt, lit< tt, (lit≤ tt, lit< tt, (lit≤ tt, lit< tt, tt))))))))))
          (tells_right, (asked_1_right, (mends_1_right, resting_right (prompt 1) 500000 2500000 (told_on ++ asked_1 ∷ mends_1 ∷ []) later_1 rest_on (lit≤ tt, lit< tt, (lit≤ tt, lit< tt, (lit≤ tt, lit< tt, (lit≤ tt, lit< tt, (lit≤ tt, lit< tt, (lit≤ tt, lit< tt, tt))))))))),
    ),
  ),
)

each_2 : AllByRecursion (EntryRight (prompt 2) 499980) (steps (past_2 ++ resting 2 later_2))
each_2 = (told_2_right, (asks_2_right, (mended_2_right, resting_right (prompt 2) 499980 1499980 past_2 later_2 rest_2 (lit≤ tt, lit< tt, (lit≤ tt, lit< tt, (lit≤ tt, lit< tt, (lit≤ tt, lit< tt, (lit≤ tt, lit< tt, (lit≤ tt, lit< tt, (lit≤ tt, lit< tt, tt))))))))))

abbrev item_1 : Classed Datagram
item_1 = classed Shown request_1

abbrev pub item_2 : Classed Datagram
item_2 = classed Shown request_2

abbrev item_3 : Classed Datagram
item_3 = classed Shown repair_1

abbrev calls_1 : List (BucketCall Datagram)
calls_1 = went_one 550000 Shown item_1.item ++ Popped 550000 None ∷ []

abbrev calls_2 : List (BucketCall Datagram)
calls_2 = went_one 550000 Shown item_2.item ++ Popped 550000 None ∷ []

gone_1 : (class : Class) → departed class calls_1 ≡ handed class calls_1
gone_1 Shown = refl
gone_1 New = refl
gone_1 Other = refl

gone_2 : (class : Class) → departed class calls_2 ≡ handed class calls_2
gone_2 Shown = refl
gone_2 New = refl
gone_2 Other = refl

abbrev calls_on : List (BucketCall Datagram)
calls_on = calls_1 ++ map pop (then_1 ++ 1500000 ∷ [])

gone_on : (class : Class) → departed class calls_on ≡ handed class calls_on
gone_on Shown = refl
gone_on New = refl
gone_on Other = refl

law_on : BucketLaw 8000 4204 calls_on
unfolding within_test
law_on = pops_law 8000 4204 calls_1 (then_1 ++ 1500000 ∷ []) gone_1 (one_goes 8000 4204 550000 Shown item_1.item (lit≤ tt, lit≤ tt, tt) (lit≤ tt, lit≤ tt, tt))
    (refl, (refl, (refl, (refl, (refl, (refl, (refl, (refl, (refl, (refl, tt))))))))))

law_1 : BucketLaw 8000 4204 ((calls_on ++ one_more 1600000 Shown item_3.item) ++ map pop later_1)
unfolding within_test
law_1 = pops_law 8000 4204 (calls_on ++ one_more 1600000 Shown item_3.item) later_1 (λ class. one_more_gone calls_on 1600000 Shown item_3.item class (gone_on class))
    (one_more_law 8000 4204 calls_on 1600000 Shown item_3.item gone_on law_on
    refl refl refl)
    (refl, (refl, (refl, (refl, (refl, (refl, tt))))))

law_2 : BucketLaw 8000 4204 (calls_2 ++ map pop later_2)
unfolding within_test
law_2 = pops_law 8000 4204 calls_2 later_2 gone_2 (one_goes 8000 4204 550000 Shown item_2.item (lit≤ tt, lit≤ tt, tt) (lit≤ tt, lit≤ tt, tt)) (refl, (refl, (refl, (refl, (refl, (refl, (refl, tt)))))))

abbrev went_1 : List Going
went_1 = idle told_1 ∷ record { entry = asks_1; goes = item_1 ∷ [] } ∷ idle mended_1 ∷ []

abbrev went_on : List Going
went_on = went_1 ++ map idle (resting 1 then_1) ++ idle tells ∷ idle asked_1 ∷ record { entry = mends_1; goes = item_3 ∷ [] } ∷ []

abbrev went_2 : List Going
went_2 = idle told_2 ∷ record { entry = asks_2; goes = item_2 ∷ [] } ∷ idle mended_2 ∷ []

pub run_1 : IsMemberRun (prompt 1) 500000 (of_member 1 entries)
run_1 = record {
  each = each_1;
  bucket = (
    went_1 ++ map idle (resting 1 then_1) ++ idle tells ∷ idle asked_1 ∷ record { entry = mends_1; goes = item_3 ∷ [] } ∷ map idle (resting 1 later_1),
    refl,
    (
      idle_right refl,
      (
        record { same = refl; at_ticks = tt },
        (
          idle_right refl,
          joined GoesAsCharged went_1 (map idle (resting 1 then_1)) (idle tells ∷ idle asked_1 ∷ record { entry = mends_1; goes = item_3 ∷ [] } ∷ map idle (resting 1 later_1)) (resting_charged 1 went_1 then_1)
              (idle_right refl, (idle_right refl, (record { same = refl; at_ticks = tt }, resting_charged 1 went_on later_1))),
        ),
      ),
    ),
    law_1,
  );
}

pub run_2 : IsMemberRun (prompt 2) 499980 (of_member 2 entries)
run_2 = record {
  each = each_2;
  bucket = (
    went_2 ++ map idle (resting 2 later_2),
    refl,
    (idle_right refl, (record { same = refl; at_ticks = tt }, (idle_right refl, resting_charged 2 went_2 later_2))),
    law_2,
  );
}
