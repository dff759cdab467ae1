-- A run of a member with timers: it hears the second drawop, misses the first and asks for it at the first tick past the end of the
-- interval. So the premises of the law of response can be met.
use Rattle.std.proofs.Common.{◌≡◌, ℕ, ◌==◌, Bool, true, false, not, ◌&&◌, ◌||◌, List, [], ◌∷◌, ◌++◌, refl, ap, ◌∙◌, arith, lit<, lit≤}
use Rattle.std.specs.Prelude.{◌⊎◌, Option, Some, None, nat_le, option_map, is_some, if◌then◌else◌}
use Rattle.std.proofs.lemmas.Bool.Decides.{nat_tests}
use Rattle.srm_names.specs.FullName.{FullName}
use Rattle.srm_names.specs.Histories.{greatest, last_of}
use Rattle.srm_names.specs.Names.{named, same_name, same_stream}
use Rattle.srm_codec.specs.declared.datagram.Datagram.{Datagram}
use Rattle.srm_codec.specs.declared.datagram.Datagram.TheVariants.{Request}
use Rattle.srm_codec.specs.Spelling.{bits_set, IsSpellable}
use Rattle.srm_bucket.specs.declared.class.Class.TheVariants.{Shown}
use Rattle.srm_bucket.specs.Calls.{Classed}
use Rattle.srm_bucket.specs.Law.{BucketLaw}
use Rattle.srm_timers.specs.declared.arm.Arm.{Arm}
use Rattle.srm_timers.specs.declared.arm.ArmKind.TheVariants.{Ask}
use Rattle.srm_timers.specs.Arms.{WaitBasis, wait_basis, next_exponent, ran_out, arm_of}
use Rattle.srm_entries.specs.declared.entry.Entry.{Entry}
use Rattle.srm_entries.specs.Entries.{is_held, is_missing, ticked}
use Rattle.srm_entries.specs.Timers.{arm_in, ask_due, held_off, basis_of}
use Rattle.srm_entries.specs.Bucket.{Going, idle, classed, bucket_calls}
use Rattle.srm_entries.specs.Runs.{EntryRight, IsMemberRun}
use Rattle.srm_entries.specs.Sample.{first_stream, ticks, ask_arm, gap, one_of_four}
use Rattle.srm_entries.proofs.Plain.{idle_right, of_all, neither, missing_none, unknown_unmissed, one_goes}
use Rattle.srm_entries.proofs.Responding.{response_law}

abbrev request : Datagram
request = Request 1 (named first_stream 1) 0

abbrev asks : Entry
asks = ticks 1 1400000 (named first_stream 1 ∷ []) [] (ask_arm 1 1 400000 ∷ []) (request ∷ [])

-- the first name is missing, and no other

only_first : (k : ℕ) → (nat_le 1 k && nat_le k 2 && not ((2 == k) || false)) ≡ (k == 1)
only_first k = grind (arith, nat_tests)

nothing_else : (n : FullName) → same_stream n.stream first_stream ≡ false → is_missing (gap ∷ []) n ≡ false
nothing_else n e = unknown_unmissed (gap ∷ []) n (ap (λ b. greatest ((if b then 2 ∷ [] else []) ++ [])) e)

-- the arms of the gap

gap_armed : (n : FullName) → option_map wait_basis (arm_of n gap.effects.arms) ≡ basis_of one_of_four [] gap n
gap_armed = of_all (λ n. option_map wait_basis (arm_of n gap.effects.arms) ≡ basis_of one_of_four [] gap n)
    (λ k. rw (missing_none (named first_stream k), only_first k) (which (k == 1)))
    (λ n e. rw (missing_none n, nothing_else n e) (ap (λ b. option_map wait_basis (if b && (n.number == 1) then Some (ask_arm 1 0 200000) else None)) e))
  where
    which : (b : Bool) → option_map wait_basis (if b then Some (ask_arm 1 0 200000) else None)
        ≡ option_map (λ i. record { kind = Ask; exponent = i; distance = 100000 }) (if b then Some 0 else None)
    which true = refl
    which false = refl

gap_right : EntryRight one_of_four 1000000 (record { before = []; this = gap })
gap_right = record {
  member = refl;
  moment = lit≤ tt;
  verdict = (refl, refl);
  drawn = refl;
  arms = record { are = record { in_order = refl; exact = gap_armed }; waits = ((lit≤ tt, lit≤ tt), tt) };
  timers = record { asks = record { in_order = refl; exact = λ n. refl }; fixes = record { in_order = refl; exact = λ n. refl } };
  senders = tt;
  spelled = tt;
  read = ((lit< tt, (lit< tt, lit< tt), lit≤ tt, lit≤ tt), lit≤ tt, lit≤ tt);
  session = refl;
  message = refl;
  state = refl;
}

-- the arms of the tick, and the names that it requests

never_held : (k : ℕ) → (k == 1) ≡ true → ((2 == k) || false) ≡ false
never_held k e = grind (arith, nat_tests)

armed_again : (n : FullName) → option_map wait_basis (arm_of n asks.effects.arms) ≡ basis_of one_of_four (gap ∷ []) asks n
armed_again = of_all (λ n. option_map wait_basis (arm_of n asks.effects.arms) ≡ basis_of one_of_four (gap ∷ []) asks n)
    (λ k. rw (only_first k) (here ((2 == k) || false) (not (held_off one_of_four (gap ∷ []) (named first_stream k) 1400000)) (k == 1) (never_held k)))
    (λ n e. rw (nothing_else n e)
    (ap (λ b. option_map wait_basis (if b && (n.number == 1) then Some (ask_arm 1 1 400000) else None)) e
    ∙ there (is_held (gap ∷ []) n) (not (held_off one_of_four (gap ∷ []) n 1400000))))
  where
    here : (held free first : Bool) → (first ≡ true → held ≡ false) → option_map wait_basis (if first then Some (ask_arm 1 1 400000) else None)
        ≡ (if held then (if held && true && free then None else None)
        else option_map (λ i. record { kind = Ask; exponent = i; distance = 100000 })
        (if first then (if first || false then option_map next_exponent (option_map (λ (a : Arm). record { set = 1000000; arm = a }) (if first then Some (ask_arm 1 0 200000) else None)) else None) else if first then Some 0 else None))
    here false free true p = refl
    here false free false p = refl
    here true free true p = absurd (let q : true ≡ false = p refl in cc)
    here true free false p = neither free

    there : (held free : Bool) → ◌≡◌ {A = Option WaitBasis} None (if held then (if held && true && free then None else None) else None)
    there true free = neither free
    there false free = refl

asked_exactly : (n : FullName) → ((same_name n (named first_stream 1)) || false) ≡ (ticked asks && ask_due (gap ∷ []) n 1400000)
asked_exactly = of_all (λ n. ((same_name n (named first_stream 1)) || false) ≡ (ticked asks && ask_due (gap ∷ []) n 1400000))
    (λ k. rw (only_first k) (which (k == 1)))
    (λ n e. rw (nothing_else n e) (ap (λ b. (b && (n.number == 1)) || false) e))
  where
    which : (b : Bool) → (b || false) ≡ (b && ran_out 1400000 (option_map (λ (a : Arm). record { set = 1000000; arm = a }) (if b then Some (ask_arm 1 0 200000) else None)))
    which true = refl
    which false = refl

request_spelled : IsSpellable request
unfolding bits_set
request_spelled = (lit< tt, lit< tt, ((lit< tt, (lit< tt, lit< tt), lit≤ tt, lit≤ tt), tt))

asks_right : EntryRight one_of_four 1000000 (record { before = gap ∷ []; this = asks })
asks_right = record {
  member = refl;
  moment = lit≤ tt;
  verdict = refl;
  drawn = refl;
  arms = record { are = record { in_order = refl; exact = armed_again }; waits = ((lit≤ tt, lit≤ tt), tt) };
  timers = record { asks = record { in_order = refl; exact = asked_exactly }; fixes = record { in_order = refl; exact = λ n. refl } };
  senders = (refl, tt);
  spelled = (request_spelled, tt);
  read = tt;
  session = refl;
  message = refl;
  state = refl;
}

-- the request goes

abbrev asked_item : Classed Datagram
asked_item = classed Shown request

abbrev goings : List Going
goings = idle gap ∷ record { entry = asks; goes = asked_item ∷ [] } ∷ []

law : BucketLaw 8000 4204 (bucket_calls 1 goings)
law = one_goes 8000 4204 1400000 Shown asked_item.item (lit≤ tt, lit≤ tt, tt) (lit≤ tt, lit≤ tt, tt)

pub run : IsMemberRun one_of_four 1000000 (gap ∷ asks ∷ [])
run = record { each = (gap_right, (asks_right, tt)); bucket = (goings, refl, (idle_right refl, (record { same = refl; at_ticks = tt }, tt)), law) }

-- the law says that by this tick the name is held or asked for again
pub answered : (is_held (gap ∷ asks ∷ []) (named first_stream 1) ≡ true) ⊎ (is_some (last_of (arm_in Ask (named first_stream 1)) (asks ∷ [])) ≡ true)
answered = (response_law one_of_four 1000000 (gap ∷ asks ∷ []) run).asked [] [] [] gap asks (named first_stream 1) (record { set = 1000000; arm = ask_arm 1 0 200000 }) refl refl refl refl (lit≤ tt)
