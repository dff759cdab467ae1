-- A run of a member with timers: it holds a drawop, hears a request for it and repairs it at the first tick past the end of the
-- interval. So the premises of the law of response on repairs can be met too.
use Rattle.std.proofs.Common.{◌≡◌, ℕ, ◌==◌, Bool, true, false, ◌&&◌, ◌||◌, List, [], ◌∷◌, ◌++◌, refl, ap, sym, ◌∙◌, arith, lit<, lit≤}
use Rattle.std.specs.Prelude.{Option, Some, None, option_map, if◌then◌else◌}
use Rattle.std.specs.List.{list_any}
use Rattle.std.proofs.lemmas.Bool.Decides.{nat_tests}
use Rattle.srm_names.specs.FullName.{FullName}
use Rattle.srm_names.specs.Histories.{greatest, or_else}
use Rattle.srm_names.specs.Names.{named, same_name}
use Rattle.srm_codec.specs.declared.datagram.Datagram.{Datagram}
use Rattle.srm_codec.specs.declared.datagram.Datagram.TheVariants.{Data, Request, Repair}
use Rattle.srm_codec.specs.Spelling.{bits_set, IsSpellable}
use Rattle.srm_bucket.specs.declared.class.Class.TheVariants.{Shown}
use Rattle.srm_bucket.specs.Calls.{Classed}
use Rattle.srm_bucket.specs.Law.{BucketLaw}
use Rattle.srm_timers.specs.declared.arm.Arm.{Arm}
use Rattle.srm_timers.specs.declared.arm.ArmKind.TheVariants.{Fix}
use Rattle.srm_timers.specs.Arms.{WaitBasis, wait_basis, ran_out, arm_of}
use Rattle.srm_entries.specs.Configs.{Config}
use Rattle.srm_entries.specs.declared.entry.Entry.{Entry}
use Rattle.srm_entries.specs.Entries.{is_held, is_missing, ticked}
use Rattle.srm_entries.specs.Distances.{distance}
use Rattle.srm_entries.specs.Timers.{repaired, ask_due, fix_due, asker, basis_of}
use Rattle.srm_entries.specs.Bucket.{Going, idle, classed, bucket_calls}
use Rattle.srm_entries.specs.Runs.{EntryRight, IsMemberRun}
use Rattle.srm_entries.specs.Sample.{in_roster, first_stream, hears, ticks, fix_arm, first_drawop}
use Rattle.srm_entries.proofs.Plain.{idle_right, of_all, no_setting, missing_none, unknown_unmissed, one_held, one_spelled, one_goes}
use Rattle.srm_entries.proofs.Responding.{response_law}

abbrev two_of_four : Config
two_of_four = in_roster 2 4 4204

abbrev holds : Entry
holds = hears 2 5000000 (Data first_drawop) []

abbrev asked : Entry
asked = hears 2 5000000 (Request 1 (named first_stream 1) 0) (fix_arm 1 100000 ∷ [])

abbrev repairs : Entry
repairs = ticks 2 5200000 [] (named first_stream 1 ∷ []) [] (Repair 2 first_drawop ∷ [])

-- nothing is missing at any time

none_missing : (n : FullName) → is_missing (holds ∷ []) n ≡ false
none_missing = of_all (λ n. is_missing (holds ∷ []) n ≡ false) one_held
    (λ n e. unknown_unmissed (holds ∷ []) n (ap (λ b. greatest ((if b then 1 ∷ [] else []) ++ [])) e))

none_missing_later : (n : FullName) → is_missing (holds ∷ asked ∷ []) n ≡ false
unfolding bits_set
none_missing_later = of_all (λ n. is_missing (holds ∷ asked ∷ []) n ≡ false) one_held
    (λ n e. unknown_unmissed (holds ∷ asked ∷ []) n (ap (λ b. greatest ((if b then 1 ∷ [] else []) ++ ((if b then 1 ∷ [] else []) ++ []))) e))

none_missing_last : (n : FullName) → is_missing (holds ∷ asked ∷ repairs ∷ []) n ≡ false
unfolding bits_set
none_missing_last = of_all (λ n. is_missing (holds ∷ asked ∷ repairs ∷ []) n ≡ false) one_held
    (λ n e. unknown_unmissed (holds ∷ asked ∷ repairs ∷ []) n (ap (λ b. greatest ((if b then 1 ∷ [] else []) ++ ((if b then 1 ∷ [] else []) ++ []))) e))

-- the arm of the request

fixes_set : (n : FullName) → option_map wait_basis (arm_of n asked.effects.arms) ≡ basis_of two_of_four (holds ∷ []) asked n
unfolding bits_set
fixes_set = of_all (λ n. option_map wait_basis (arm_of n asked.effects.arms) ≡ basis_of two_of_four (holds ∷ []) asked n)
    (λ k. rw (none_missing (named first_stream k)) (here (k == 1) ((1 == k) || false) (turned k)))
    (λ n e. rw (none_missing n, none_missing_later n)
    (ap (λ b. option_map wait_basis (if b && (n.number == 1) then Some (fix_arm 1 100000) else None)) e
    ∙ there (is_held (holds ∷ []) n) (asker n asked) (ap (λ b. if (b && (n.number == 1)) || false then Some 1 else None) e)))
  where
    turned : (k : ℕ) → (k == 1) ≡ ((1 == k) || false)
    turned k = grind (arith, nat_tests)

    here : (first held : Bool) → first ≡ held → option_map wait_basis (if first then Some (fix_arm 1 100000) else None)
        ≡ (if held then (if held && true && true then option_map (λ (a : ℕ). record { kind = Fix; exponent = 0; distance = distance two_of_four (holds ∷ []) a }) (if first || false then Some 1 else None) else None) else None)
    here true true p = refl
    here false false p = refl
    here true false p = absurd (cc)
    here false true p = absurd (cc)

    there : (held : Bool) (o : Option ℕ) → o ≡ None → ◌≡◌ {A = Option WaitBasis} None (if held then (if held && true && true then option_map (λ (a : ℕ). record { kind = Fix; exponent = 0; distance = distance two_of_four (holds ∷ []) a }) o else None) else None)
    there true o p = ap (option_map (λ (a : ℕ). record { kind = Fix; exponent = 0; distance = distance two_of_four (holds ∷ []) a })) (sym p)
    there false o p = refl

-- the entries

request_spelled : IsSpellable (Request 1 (named first_stream 1) 0)
unfolding bits_set
request_spelled = (lit< tt, lit< tt, ((lit< tt, (lit< tt, lit< tt), lit≤ tt, lit≤ tt), tt))

holds_right : EntryRight two_of_four 5000000 (record { before = []; this = holds })
holds_right = record {
  member = refl;
  moment = lit≤ tt;
  verdict = (refl, refl);
  drawn = refl;
  arms = record { are = record { in_order = refl; exact = λ n. no_setting two_of_four [] holds n refl (missing_none n) (none_missing n) }; waits = tt };
  timers = record { asks = record { in_order = refl; exact = λ n. refl }; fixes = record { in_order = refl; exact = λ n. refl } };
  senders = tt;
  spelled = tt;
  read = one_spelled;
  session = refl;
  message = refl;
  state = refl;
}

asked_right : EntryRight two_of_four 5000000 (record { before = holds ∷ []; this = asked })
unfolding bits_set
asked_right = record {
  member = refl;
  moment = lit≤ tt;
  verdict = (refl, refl);
  drawn = refl;
  arms = record { are = record { in_order = refl; exact = fixes_set }; waits = ((lit≤ tt, lit≤ tt), tt) };
  timers = record { asks = record { in_order = refl; exact = λ n. refl }; fixes = record { in_order = refl; exact = λ n. refl } };
  senders = tt;
  spelled = tt;
  read = request_spelled;
  session = refl;
  message = refl;
  state = refl;
}

fixed_exactly : (n : FullName) → ((same_name n (named first_stream 1)) || false) ≡ (ticked repairs && fix_due (holds ∷ asked ∷ []) n 5200000)
fixed_exactly n = which (same_name n (named first_stream 1))
  where
    which : (b : Bool) → (b || false) ≡ ran_out 5200000 (or_else (option_map (λ (a : Arm). record { set = 5000000; arm = a }) (if b then Some (fix_arm 1 100000) else None)) None)
    which true = refl
    which false = refl

none_asked : (n : FullName) → false ≡ (ticked repairs && ask_due (holds ∷ asked ∷ []) n 5200000)
none_asked n = rw (none_missing_later n) refl

repairs_right : EntryRight two_of_four 5000000 (record { before = holds ∷ asked ∷ []; this = repairs })
repairs_right = record {
  member = refl;
  moment = lit≤ tt;
  verdict = refl;
  drawn = refl;
  arms = record { are = record { in_order = refl; exact = λ n. no_setting two_of_four (holds ∷ asked ∷ []) repairs n refl (none_missing_later n) (none_missing_last n) }; waits = tt };
  timers = record { asks = record { in_order = refl; exact = none_asked }; fixes = record { in_order = refl; exact = fixed_exactly } };
  senders = (refl, tt);
  spelled = ((lit< tt, one_spelled), tt);
  read = tt;
  session = refl;
  message = refl;
  state = refl;
}

-- the repair goes

abbrev repair_item : Classed Datagram
repair_item = classed Shown (Repair 2 first_drawop)

abbrev goings : List Going
goings = idle holds ∷ idle asked ∷ record { entry = repairs; goes = repair_item ∷ [] } ∷ []

law : BucketLaw 8000 4204 (bucket_calls 2 goings)
law = one_goes 8000 4204 5200000 Shown repair_item.item (lit≤ tt, lit≤ tt, tt) (lit≤ tt, lit≤ tt, tt)

pub run : IsMemberRun two_of_four 5000000 (holds ∷ asked ∷ repairs ∷ [])
run = record {
  each = (holds_right, (asked_right, (repairs_right, tt)));
  bucket = (goings, refl, (idle_right refl, (idle_right refl, (record { same = refl; at_ticks = tt }, tt))), law);
}

-- the law says that by this tick a repair was heard or made
pub answered : list_any (repaired (named first_stream 1)) (repairs ∷ []) ≡ true
answered = (response_law two_of_four 5000000 (holds ∷ asked ∷ repairs ∷ []) run).fixed (holds ∷ []) [] [] asked repairs (named first_stream 1) (record { set = 5000000; arm = fix_arm 1 100000 }) refl refl refl refl (lit≤ tt)
