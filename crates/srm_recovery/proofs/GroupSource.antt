-- Member 0 of the example: it draws, is asked, answers and leaves, and that is a run.
use Rattle.std.proofs.Common.{◌≡◌, ℕ, ◌==◌, Bool, true, false, ◌&&◌, ◌||◌, List, [], ◌∷◌, ◌++◌, map, refl, ap, sym, ◌∙◌, arith, lit<, lit≤}
use Rattle.std.specs.Prelude.{Option, Some, None, option_map, if◌then◌else◌}
use Rattle.std.specs.List.{AllByRecursion}
use Rattle.std.proofs.lemmas.Bool.Decides.{nat_tests}
use Rattle.srm_names.specs.declared.stream.Stream.{Stream}
use Rattle.srm_names.specs.FullName.{FullName}
use Rattle.srm_names.specs.Histories.{steps, greatest, or_else}
use Rattle.srm_names.specs.Names.{first_page, named, same_name, same_stream}
use Rattle.srm_names.proofs.Same.{same_stream-is}
use Rattle.srm_codec.specs.declared.datagram.Datagram.{Datagram}
use Rattle.srm_codec.specs.declared.datagram.Datagram.TheVariants.{Data}
use Rattle.srm_codec.specs.Spelling.{bits_set}
use Rattle.srm_bucket.specs.declared.class.Class.{Class}
use Rattle.srm_bucket.specs.declared.class.Class.TheVariants.{Shown, New, Other}
use Rattle.srm_bucket.specs.Calls.{Classed, BucketCall, Popped}
use Rattle.srm_bucket.specs.Classes.{departed, handed}
use Rattle.srm_bucket.specs.Law.{BucketLaw}
use Rattle.srm_timers.specs.declared.arm.Arm.{Arm}
use Rattle.srm_timers.specs.declared.arm.Armed.{Armed}
use Rattle.srm_timers.specs.declared.arm.ArmKind.TheVariants.{Fix}
use Rattle.srm_timers.specs.Arms.{WaitBasis, wait_basis, ran_out, arm_of}
use Rattle.srm_store.specs.Finals.{number_in_rows}
use Rattle.srm_entries.specs.declared.entry.Entry.{Entry}
use Rattle.srm_entries.specs.declared.state.AgentState.TheVariants.{Active, Leaving, Gone}
use Rattle.srm_entries.specs.declared.entry.Input.TheVariants.{Drew, Ticked, AskedLeave}
use Rattle.srm_entries.specs.Entries.{ticked, is_held, is_missing}
use Rattle.srm_entries.specs.Distances.{distance}
use Rattle.srm_entries.specs.Timers.{fix_due, asker, basis_of, fix_running}
use Rattle.srm_entries.specs.Sessions.{expected_row, if_positive}
use Rattle.srm_entries.specs.Bucket.{Going, idle, GoesAsCharged, classed}
use Rattle.srm_entries.specs.Runs.{EntryRight, IsMemberRun}
use Rattle.srm_entries.specs.Sample.{first_stream, first_drawop, fix_arm}
use Rattle.srm_entries.proofs.Adding.{fix_running-snoc}
use Rattle.srm_entries.proofs.Plain.{idle_right, of_all, neither, no_setting, one_spelled, right, one_held, none_missing_in, missing_none, one_of, went_one, one_goes, draws_one, missing_drawn, one_data, one_known, twice_known}
use Rattle.srm_world.specs.Traces.{of_member}
use Rattle.srm_recovery.proofs.Calm.{resting, joined, IsAtRest, resting_right, rested, resting_charged, within_test, pop, pops_law, one_more, one_more_gone, one_more_law}
use Rattle.srm_recovery.proofs.GroupTrace.{prompt, lost, message_0, repair_0, farewell, sends, asked_0, mends_0, asks_leave, departs, then_0, entries, message_0_spelled, farewell_spelled, request_spelled, repair_spelled, rows_right}

-- Member 0 misses nothing.

missing_sent : (n : FullName) → is_missing (draws_one ∷ sends ∷ []) n ≡ false
missing_sent n = none_missing_in (draws_one ∷ sends ∷ []) one_held one_known n

missing_asked : (n : FullName) → is_missing (draws_one ∷ sends ∷ asked_0 ∷ []) n ≡ false
unfolding bits_set
missing_asked n = none_missing_in (draws_one ∷ sends ∷ asked_0 ∷ []) one_held twice_known n

missing_mends : (n : FullName) → is_missing (draws_one ∷ sends ∷ asked_0 ∷ mends_0 ∷ []) n ≡ false
unfolding bits_set
missing_mends n = none_missing_in (draws_one ∷ sends ∷ asked_0 ∷ mends_0 ∷ []) one_held twice_known n

-- It hears a request, and sets a timer.

pub turned : (k : ℕ) → (k == 1) ≡ ((1 == k) || false)
turned k = grind (arith, nat_tests)

pub none_fixed : (f : ℕ → WaitBasis) (held : Bool) (o : Option ℕ) → o ≡ None → None ≡ (if held then (if held && true && true then option_map f o else None) else None)
none_fixed f true o p = ap (option_map f) (sym p)
none_fixed f false o p = refl

fixes_set_0 : (n : FullName) → option_map wait_basis (arm_of n asked_0.effects.arms) ≡ basis_of (prompt 0) (draws_one ∷ sends ∷ []) asked_0 n
unfolding bits_set
fixes_set_0 = of_all (λ n. option_map wait_basis (arm_of n asked_0.effects.arms) ≡ basis_of (prompt 0) (draws_one ∷ sends ∷ []) asked_0 n)
    (λ k. rw (missing_sent (named first_stream k)) (here (k == 1) ((1 == k) || false) (turned k)))
    (λ n e. rw (missing_sent n, missing_asked n)
    (ap (λ b. option_map wait_basis (if b && (n.number == 1) then Some (fix_arm 1 0) else None)) e
    ∙ none_fixed (λ (a : ℕ). record { kind = Fix; exponent = 0; distance = distance (prompt 0) (draws_one ∷ sends ∷ []) a }) (is_held (draws_one ∷ sends ∷ []) n) (asker n asked_0) (ap (λ b. if (b && (n.number == 1)) || false then Some 1 else None) e)))
  where
    here : (first held : Bool) → first ≡ held → option_map wait_basis (if first then Some (fix_arm 1 0) else None)
        ≡ (if held then (if held && true && true then option_map (λ (a : ℕ). record { kind = Fix; exponent = 0; distance = distance (prompt 0) (draws_one ∷ sends ∷ []) a }) (if first || false then Some 1 else None) else None) else None)
    here true true p = refl
    here false false p = refl
    here true false p = absurd (cc)
    here false true p = absurd (cc)

asked_0_right : EntryRight (prompt 0) 0 (record { before = draws_one ∷ sends ∷ []; this = asked_0 })
unfolding bits_set
asked_0_right = record {
  member = refl;
  moment = lit≤ tt;
  verdict = (refl, refl);
  drawn = refl;
  arms = record { are = record { in_order = refl; exact = fixes_set_0 }; waits = ((lit≤ tt, lit≤ tt), tt) };
  timers = record { asks = record { in_order = refl; exact = λ n. refl }; fixes = record { in_order = refl; exact = λ n. refl } };
  senders = tt;
  spelled = tt;
  read = request_spelled 1 (lit< tt);
  session = refl;
  message = refl;
  state = refl;
}

fixed_0 : (n : FullName) → ((same_name n lost) || false) ≡ (ticked mends_0 && fix_due (draws_one ∷ sends ∷ asked_0 ∷ []) n 1100000)
fixed_0 n = which (same_name n lost)
  where
    which : (b : Bool) → (b || false) ≡ ran_out 1100000 (or_else (or_else (option_map (λ (a : Arm). record { set = 1050001; arm = a }) (if b then Some (fix_arm 1 0) else None)) None) None)
    which true = refl
    which false = refl

mends_0_right : EntryRight (prompt 0) 0 (record { before = draws_one ∷ sends ∷ asked_0 ∷ []; this = mends_0 })
mends_0_right = record {
  member = refl;
  moment = lit≤ tt;
  verdict = refl;
  drawn = refl;
  arms = record { are = record { in_order = refl; exact = λ n. no_setting (prompt 0) (draws_one ∷ sends ∷ asked_0 ∷ []) mends_0 n refl (missing_asked n) (missing_mends n) }; waits = tt };
  timers = record { asks = record { in_order = refl; exact = λ n. rw (missing_asked n) refl }; fixes = record { in_order = refl; exact = fixed_0 } };
  senders = (refl, tt);
  spelled = (repair_spelled 0 (lit< tt), tt);
  read = tt;
  session = refl;
  message = refl;
  state = refl;
}

unfixed_0 : (n : FullName) → fix_running (draws_one ∷ sends ∷ asked_0 ∷ mends_0 ∷ []) n ≡ None
unfixed_0 n = fix_running-snoc (draws_one ∷ sends ∷ asked_0 ∷ []) mends_0 n ∙ which (same_name n lost)
  where
    which : (b : Bool) → ◌≡◌ {A = Option Armed} (if b || false then None else or_else None (or_else (or_else (option_map (λ (a : Arm). record { set = 1050001; arm = a }) (if b then Some (fix_arm 1 0) else None)) None) None)) None
    which true = refl
    which false = refl

abbrev past_0 : List Entry
past_0 = draws_one ∷ sends ∷ asked_0 ∷ mends_0 ∷ []

rest_0 : IsAtRest (prompt 0) 0 2000000 past_0
rest_0 = record { missing = missing_mends; fixing = unfixed_0; active = refl; due_is = refl }

-- It leaves.

end_0 : IsAtRest (prompt 0) 0 2000000 (past_0 ++ resting 0 then_0)
end_0 = rested (prompt 0) 0 2000000 past_0 then_0 rest_0

missing_leaving : (n : FullName) → is_missing (past_0 ++ resting 0 then_0 ++ asks_leave ∷ []) n ≡ false
unfolding bits_set
missing_leaving n = none_missing_in (past_0 ++ resting 0 then_0 ++ asks_leave ∷ []) one_held twice_known n

missing_left : (n : FullName) → is_missing (past_0 ++ resting 0 then_0 ++ asks_leave ∷ departs ∷ []) n ≡ false
unfolding bits_set
missing_left n = none_missing_in (past_0 ++ resting 0 then_0 ++ asks_leave ∷ departs ∷ []) one_held twice_known n

unfixed_leaving : (n : FullName) → fix_running (past_0 ++ resting 0 then_0 ++ asks_leave ∷ []) n ≡ None
unfixed_leaving n = fix_running-snoc (past_0 ++ resting 0 then_0) asks_leave n ∙ end_0.fixing n

farewell_rows : (s : Stream) → number_in_rows (lost ∷ []) s ≡ expected_row (prompt 0) (past_0 ++ resting 0 then_0 ++ asks_leave ∷ []) true s
unfolding bits_set
farewell_rows s = which (same_stream s first_stream) refl
  where
    which : (b : Bool) → same_stream s first_stream ≡ b
        → option_map (λ (n : FullName). n.number) (if b then Some lost else None) ≡ (if s.source == 0 then if_positive (greatest (one_of b ++ (one_of b ++ []))) else None)
    which true e = ap (λ (t : Stream). if t.source == 0 then Some 1 else None) (sym (same_stream-is s first_stream e))
    which false e = neither (s.source == 0)

leave_right : EntryRight (prompt 0) 0 (record { before = past_0 ++ resting 0 then_0; this = asks_leave })
leave_right = right (prompt 0) 0 (past_0 ++ resting 0 then_0) 0 1999991 AskedLeave None [] None Leaving end_0.missing missing_leaving (λ n. refl) end_0.fixing refl (lit≤ tt) refl refl tt tt tt refl refl refl

departs_right : EntryRight (prompt 0) 0 (record { before = past_0 ++ resting 0 then_0 ++ asks_leave ∷ []; this = departs })
departs_right = right (prompt 0) 0 (past_0 ++ resting 0 then_0 ++ asks_leave ∷ []) 0 1999992 Ticked None (farewell ∷ []) None Gone missing_leaving missing_left (λ n. refl) unfixed_leaving refl (lit≤ tt) refl refl (refl, tt) (farewell_spelled, tt) tt
    (farewell, refl, (refl, refl, refl, refl, refl, record { in_order = refl; exact = farewell_rows })) refl refl

each_0 : AllByRecursion (EntryRight (prompt 0) 0) (steps (past_0 ++ resting 0 then_0 ++ asks_leave ∷ departs ∷ []))
each_0 = (
  right (prompt 0) 0 [] 0 1 (Drew first_page (97 ∷ [])) (Some first_drawop) [] None Active missing_none missing_drawn (λ n. refl) (λ n. refl) refl (lit≤ tt) refl refl tt tt tt refl refl refl,
  (
    right (prompt 0) 0 (draws_one ∷ []) 0 1000000 Ticked None (Data first_drawop ∷ message_0 ∷ []) None Active missing_drawn missing_sent (λ n. refl) (λ n. refl) refl (lit≤ tt) refl refl
        (refl, (refl, tt)) (one_spelled, (message_0_spelled, tt)) tt
        (message_0, refl, (refl, refl, refl, refl, refl, rows_right (prompt 0) (draws_one ∷ []) 1000000 refl (λ s e. ap (λ b. greatest (one_of b ++ [])) e))) refl refl,
    (asked_0_right, (mends_0_right, joined (EntryRight (prompt 0) 0) past_0 (resting 0 then_0) (asks_leave ∷ departs ∷ []) (resting_right (prompt 0) 0 2000000 past_0 then_0 rest_0 (lit≤ tt, lit< tt, (lit≤ tt, lit< tt, (lit≤ tt, lit< tt, (lit≤ tt, lit< tt, (lit≤ tt, lit< tt, (lit≤ tt, lit< tt, (lit≤ tt, lit< tt, (lit≤ tt, lit< tt, tt))))))))) (leave_right, (departs_right, tt)))),
  ),
)

abbrev calls_0 : List (BucketCall Datagram)
calls_0 = went_one 1000000 New one_data.item ++ Popped 1000000 None ∷ []

abbrev item_0 : Classed Datagram
item_0 = classed Shown repair_0

gone_0 : (class : Class) → departed class calls_0 ≡ handed class calls_0
gone_0 Shown = refl
gone_0 New = refl
gone_0 Other = refl

law_0 : BucketLaw 8000 4204 ((calls_0 ++ one_more 1100000 Shown item_0.item) ++ map pop (then_0 ++ 1999992 ∷ []))
unfolding within_test
law_0 = pops_law 8000 4204 (calls_0 ++ one_more 1100000 Shown item_0.item) (then_0 ++ 1999992 ∷ []) (λ class. one_more_gone calls_0 1100000 Shown item_0.item class (gone_0 class))
    (one_more_law 8000 4204 calls_0 1100000 Shown item_0.item gone_0 (one_goes 8000 4204 1000000 New one_data.item (lit≤ tt, lit≤ tt, tt) (lit≤ tt, lit≤ tt, tt))
    refl refl refl)
    (refl, (refl, (refl, (refl, (refl, (refl, (refl, (refl, (refl, tt)))))))))

abbrev went_0 : List Going
went_0 = idle draws_one ∷ record { entry = sends; goes = one_data ∷ [] } ∷ idle asked_0 ∷ record { entry = mends_0; goes = item_0 ∷ [] } ∷ []

pub run_0 : IsMemberRun (prompt 0) 0 (of_member 0 entries)
run_0 = record {
  each = each_0;
  bucket = (
    went_0 ++ map idle (resting 0 then_0) ++ idle asks_leave ∷ idle departs ∷ [],
    refl,
    (
      idle_right refl,
      (
        record { same = refl; at_ticks = tt },
        (
          idle_right refl,
          (record { same = refl; at_ticks = tt }, joined GoesAsCharged went_0 (map idle (resting 0 then_0)) (idle asks_leave ∷ idle departs ∷ []) (resting_charged 0 went_0 then_0) (idle_right refl, (idle_right refl, tt))),
        ),
      ),
    ),
    law_0,
  );
}
