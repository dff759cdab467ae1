-- Members 1 and 2 of the example: they learn of the drawop, ask for it and are answered.
use Rattle.std.proofs.Common.{◌≡◌, ℕ, ◌==◌, Bool, true, false, ◌&&◌, ◌||◌, List, [], ◌∷◌, refl, ap, ◌∙◌, arith, lit<, lit≤}
use Rattle.std.specs.Prelude.{Option, Some, None, option_map, nat_le, not, if◌then◌else◌}
use Rattle.std.proofs.lemmas.Bool.Decides.{nat_tests}
use Rattle.srm_names.specs.FullName.{FullName}
use Rattle.srm_names.specs.Names.{named, same_name, same_stream}
use Rattle.srm_timers.specs.declared.arm.Arm.{Arm}
use Rattle.srm_timers.specs.declared.arm.Armed.{Armed}
use Rattle.srm_timers.specs.declared.arm.ArmKind.TheVariants.{Ask}
use Rattle.srm_timers.specs.Arms.{WaitBasis, wait_basis, next_exponent, ran_out, arm_of}
use Rattle.srm_entries.specs.declared.entry.Entry.{Entry}
use Rattle.srm_entries.specs.Entries.{ticked, is_missing}
use Rattle.srm_entries.specs.Timers.{ask_due, basis_of, repaired}
use Rattle.srm_entries.specs.Runs.{EntryRight}
use Rattle.srm_entries.specs.Sample.{first_stream, ask_arm}
use Rattle.srm_entries.proofs.Adding.{fix_running-snoc}
use Rattle.srm_entries.proofs.Arming.{ask_at}
use Rattle.srm_entries.proofs.Plain.{of_all, unknown_unmissed, one_held, none_missing_in, missing_none, one_known, twice_known}
use Rattle.srm_recovery.proofs.Calm.{IsAtRest}
use Rattle.srm_recovery.proofs.GroupTrace.{prompt, lost, told_1, asks_1, mended_1, told_2, asks_2, mended_2, message_0_spelled, message_1_spelled, request_spelled, repair_spelled}

-- Members 1 and 2 are told of the name, and ask for it.

only_first : (k : ℕ) → (nat_le 1 k && nat_le k 1 && not false) ≡ (k == 1)
only_first k = grind (arith, nat_tests)

nothing_1 : (n : FullName) → same_stream n.stream first_stream ≡ false → is_missing (told_1 ∷ []) n ≡ false
nothing_1 n e = unknown_unmissed (told_1 ∷ []) n (one_known n e)

nothing_2 : (n : FullName) → same_stream n.stream first_stream ≡ false → is_missing (told_2 ∷ []) n ≡ false
nothing_2 n e = unknown_unmissed (told_2 ∷ []) n (one_known n e)

armed : (b : Bool) → option_map wait_basis (if b then Some (ask_arm 1 0 0) else None) ≡ option_map (λ i. record { kind = Ask; exponent = i; distance = 100000 }) (if b then Some 0 else None)
armed true = refl
armed false = refl

armed_1 : (n : FullName) → option_map wait_basis (arm_of n told_1.effects.arms) ≡ basis_of (prompt 1) [] told_1 n
armed_1 = of_all (λ n. option_map wait_basis (arm_of n told_1.effects.arms) ≡ basis_of (prompt 1) [] told_1 n)
    (λ k. rw (missing_none (named first_stream k), only_first k) (armed (k == 1)))
    (λ n e. rw (missing_none n, nothing_1 n e) (ap (λ b. option_map wait_basis (if b && (n.number == 1) then Some (ask_arm 1 0 0) else None)) e))

armed_2 : (n : FullName) → option_map wait_basis (arm_of n told_2.effects.arms) ≡ basis_of (prompt 2) [] told_2 n
armed_2 = of_all (λ n. option_map wait_basis (arm_of n told_2.effects.arms) ≡ basis_of (prompt 2) [] told_2 n)
    (λ k. rw (missing_none (named first_stream k), only_first k) (armed (k == 1)))
    (λ n e. rw (missing_none n, nothing_2 n e) (ap (λ b. option_map wait_basis (if b && (n.number == 1) then Some (ask_arm 1 0 0) else None)) e))

pub told_1_right : EntryRight (prompt 1) 500000 (record { before = []; this = told_1 })
told_1_right = record {
  member = refl;
  moment = lit≤ tt;
  verdict = (refl, refl);
  drawn = refl;
  arms = record { are = record { in_order = refl; exact = armed_1 }; waits = ((lit≤ tt, lit≤ tt), tt) };
  timers = record { asks = record { in_order = refl; exact = λ n. refl }; fixes = record { in_order = refl; exact = λ n. refl } };
  senders = tt;
  spelled = tt;
  read = message_0_spelled;
  session = refl;
  message = refl;
  state = refl;
}

pub told_2_right : EntryRight (prompt 2) 499980 (record { before = []; this = told_2 })
told_2_right = record {
  member = refl;
  moment = lit≤ tt;
  verdict = (refl, refl);
  drawn = refl;
  arms = record { are = record { in_order = refl; exact = armed_2 }; waits = ((lit≤ tt, lit≤ tt), tt) };
  timers = record { asks = record { in_order = refl; exact = λ n. refl }; fixes = record { in_order = refl; exact = λ n. refl } };
  senders = tt;
  spelled = tt;
  read = message_1_spelled;
  session = refl;
  message = refl;
  state = refl;
}

again : (set : ℕ) (first : Bool) → option_map wait_basis (if first then Some (ask_arm 1 1 0) else None)
    ≡ option_map (λ i. record { kind = Ask; exponent = i; distance = 100000 })
    (if first then (if first || false then option_map next_exponent (option_map (λ (a : Arm). record { set = set; arm = a }) (if first then Some (ask_arm 1 0 0) else None)) else None) else if first then Some 0 else None)
again set true = refl
again set false = refl

armed_again_1 : (n : FullName) → option_map wait_basis (arm_of n asks_1.effects.arms) ≡ basis_of (prompt 1) (told_1 ∷ []) asks_1 n
armed_again_1 = of_all (λ n. option_map wait_basis (arm_of n asks_1.effects.arms) ≡ basis_of (prompt 1) (told_1 ∷ []) asks_1 n)
    (λ k. rw (only_first k) (again 500001 (k == 1)))
    (λ n e. rw (nothing_1 n e) (ap (λ b. option_map wait_basis (if b && (n.number == 1) then Some (ask_arm 1 1 0) else None)) e))

armed_again_2 : (n : FullName) → option_map wait_basis (arm_of n asks_2.effects.arms) ≡ basis_of (prompt 2) (told_2 ∷ []) asks_2 n
armed_again_2 = of_all (λ n. option_map wait_basis (arm_of n asks_2.effects.arms) ≡ basis_of (prompt 2) (told_2 ∷ []) asks_2 n)
    (λ k. rw (only_first k) (again 500001 (k == 1)))
    (λ n e. rw (nothing_2 n e) (ap (λ b. option_map wait_basis (if b && (n.number == 1) then Some (ask_arm 1 1 0) else None)) e))

ran : (b : Bool) → (b || false) ≡ (b && ran_out 550000 (option_map (λ (a : Arm). record { set = 500001; arm = a }) (if b then Some (ask_arm 1 0 0) else None)))
ran true = refl
ran false = refl

asks_exactly_1 : (n : FullName) → ((same_name n lost) || false) ≡ (ticked asks_1 && ask_due (told_1 ∷ []) n 550000)
asks_exactly_1 = of_all (λ n. ((same_name n lost) || false) ≡ (ticked asks_1 && ask_due (told_1 ∷ []) n 550000))
    (λ k. rw (only_first k) (ran (k == 1)))
    (λ n e. rw (nothing_1 n e) (ap (λ b. (b && (n.number == 1)) || false) e))

asks_exactly_2 : (n : FullName) → ((same_name n lost) || false) ≡ (ticked asks_2 && ask_due (told_2 ∷ []) n 550000)
asks_exactly_2 = of_all (λ n. ((same_name n lost) || false) ≡ (ticked asks_2 && ask_due (told_2 ∷ []) n 550000))
    (λ k. rw (only_first k) (ran (k == 1)))
    (λ n e. rw (nothing_2 n e) (ap (λ b. (b && (n.number == 1)) || false) e))

pub asks_1_right : EntryRight (prompt 1) 500000 (record { before = told_1 ∷ []; this = asks_1 })
asks_1_right = record {
  member = refl;
  moment = lit≤ tt;
  verdict = refl;
  drawn = refl;
  arms = record { are = record { in_order = refl; exact = armed_again_1 }; waits = ((lit≤ tt, lit≤ tt), tt) };
  timers = record { asks = record { in_order = refl; exact = asks_exactly_1 }; fixes = record { in_order = refl; exact = λ n. refl } };
  senders = (refl, tt);
  spelled = (request_spelled 1 (lit< tt), tt);
  read = tt;
  session = refl;
  message = refl;
  state = refl;
}

pub asks_2_right : EntryRight (prompt 2) 499980 (record { before = told_2 ∷ []; this = asks_2 })
asks_2_right = record {
  member = refl;
  moment = lit≤ tt;
  verdict = refl;
  drawn = refl;
  arms = record { are = record { in_order = refl; exact = armed_again_2 }; waits = ((lit≤ tt, lit≤ tt), tt) };
  timers = record { asks = record { in_order = refl; exact = asks_exactly_2 }; fixes = record { in_order = refl; exact = λ n. refl } };
  senders = (refl, tt);
  spelled = (request_spelled 2 (lit< tt), tt);
  read = tt;
  session = refl;
  message = refl;
  state = refl;
}

-- They are answered.

missing_mended_1 : (n : FullName) → is_missing (told_1 ∷ asks_1 ∷ mended_1 ∷ []) n ≡ false
missing_mended_1 n = none_missing_in (told_1 ∷ asks_1 ∷ mended_1 ∷ []) one_held twice_known n

missing_mended_2 : (n : FullName) → is_missing (told_2 ∷ asks_2 ∷ mended_2 ∷ []) n ≡ false
missing_mended_2 n = none_missing_in (told_2 ∷ asks_2 ∷ mended_2 ∷ []) one_held twice_known n

none_set : (f : ℕ → WaitBasis) (b : Bool) → None ≡ option_map f (if b then None else None)
none_set f true = refl
none_set f false = refl

pub mended_1_right : EntryRight (prompt 1) 500000 (record { before = told_1 ∷ asks_1 ∷ []; this = mended_1 })
mended_1_right = record {
  member = refl;
  moment = lit≤ tt;
  verdict = (refl, refl);
  drawn = refl;
  arms = record { are = record { in_order = refl; exact = λ n. rw (missing_mended_1 n) (none_set (ask_at (prompt 1) (told_1 ∷ asks_1 ∷ mended_1 ∷ []) n) (is_missing (told_1 ∷ []) n)) }; waits = tt };
  timers = record { asks = record { in_order = refl; exact = λ n. refl }; fixes = record { in_order = refl; exact = λ n. refl } };
  senders = tt;
  spelled = tt;
  read = repair_spelled 0 (lit< tt);
  session = refl;
  message = refl;
  state = refl;
}

pub mended_2_right : EntryRight (prompt 2) 499980 (record { before = told_2 ∷ asks_2 ∷ []; this = mended_2 })
mended_2_right = record {
  member = refl;
  moment = lit≤ tt;
  verdict = (refl, refl);
  drawn = refl;
  arms = record { are = record { in_order = refl; exact = λ n. rw (missing_mended_2 n) (none_set (ask_at (prompt 2) (told_2 ∷ asks_2 ∷ mended_2 ∷ []) n) (is_missing (told_2 ∷ []) n)) }; waits = tt };
  timers = record { asks = record { in_order = refl; exact = λ n. refl }; fixes = record { in_order = refl; exact = λ n. refl } };
  senders = tt;
  spelled = tt;
  read = repair_spelled 1 (lit< tt);
  session = refl;
  message = refl;
  state = refl;
}

either : (b : Bool) → ◌≡◌ {A = Option Armed} (if b then None else None) None
either true = refl
either false = refl

abbrev pub past_1 : List Entry
past_1 = told_1 ∷ asks_1 ∷ mended_1 ∷ []

abbrev pub past_2 : List Entry
past_2 = told_2 ∷ asks_2 ∷ mended_2 ∷ []

pub rest_1 : IsAtRest (prompt 1) 500000 1500000 past_1
rest_1 = record { missing = missing_mended_1; fixing = λ n. fix_running-snoc (told_1 ∷ asks_1 ∷ []) mended_1 n ∙ either (repaired n mended_1); active = refl; due_is = refl }

pub rest_2 : IsAtRest (prompt 2) 499980 1499980 past_2
rest_2 = record { missing = missing_mended_2; fixing = λ n. fix_running-snoc (told_2 ∷ asks_2 ∷ []) mended_2 n ∙ either (repaired n mended_2); active = refl; due_is = refl }
