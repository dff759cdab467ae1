-- The example meets the premises of each law, and what the laws say of it.
use Rattle.std.proofs.Common.{◌≡◌, ◌≢◌, ℕ, ◌==◌, ◌+◌, ◌-◌, ◌*◌, ◌≤◌, ◌<◌, Bool, true, false, ◌||◌, List, [], ◌∷◌, ◌++◌, refl, ap, sym, ◌∙◌, subst, arith, inl, inr, lit<, lit≤, append_assoc}
use Rattle.std.specs.Prelude.{◌⊎◌, nat_le, nat_lt, not}
use Rattle.std.specs.List.{flat_map, AllByRecursion}
use Rattle.std.proofs.lemmas.Bool.{cases_lt, ltb-true}
use Rattle.std.proofs.lemmas.Bool.Decides.{nat_tests}
use Rattle.std.proofs.lemmas.Grind.{flat_map-append}
use Rattle.srm_names.specs.Histories.{steps, steps_after}
use Rattle.srm_names.specs.Names.{first_page, named}
use Rattle.srm_names.proofs.Lists.{Has, Has-front, Has-contained, steps-append}
use Rattle.srm_codec.specs.declared.datagram.Datagram.{Datagram}
use Rattle.srm_codec.specs.Spelling.{bits_set}
use Rattle.srm_bucket.specs.declared.limits.TheConstants.{GREATEST_LENGTH}
use Rattle.srm_bucket.specs.Calls.{Classed}
use Rattle.srm_timers.specs.declared.arm.ArmKind.TheVariants.{Ask, Fix}
use Rattle.srm_entries.specs.declared.entry.Entry.{Entry}
use Rattle.srm_entries.specs.declared.entry.Verdict.TheVariants.{Done}
use Rattle.srm_entries.specs.Entries.{is_missing}
use Rattle.srm_entries.specs.Timers.{asks_for}
use Rattle.srm_entries.specs.Bucket.{handed_in_by}
use Rattle.srm_entries.specs.Rates.{handed_so_far}
use Rattle.srm_entries.specs.Sample.{first_stream, first_drawop}
use Rattle.srm_entries.proofs.Plain.{draws_one}
use Rattle.srm_world.specs.Traces.{of_member}
use Rattle.srm_recovery.specs.Timing.{Timing, time_of}
use Rattle.srm_recovery.specs.Members.{EntryWithin, KeepsUp, AcceptsWithin, EmptiesWithin, WaitsAtMost, HoldsOffAtMost, HoldsBy, KnowsBy, ReleasesBy, so_far}
use Rattle.srm_recovery.specs.Network.{Carries, Connects, OwesBy}
use Rattle.srm_recovery.specs.Recovery.{Serves}
use Rattle.srm_recovery.specs.Leaving.{IsKept}
use Rattle.srm_recovery.specs.Hearing.{HearsWithin}
use Rattle.srm_recovery.specs.Delivering.{Delivers}
use Rattle.srm_recovery.specs.Emptying.{price, gone_by, Pays}
use Rattle.srm_recovery.specs.Reporting.{SpeaksAtMost}
use Rattle.srm_recovery.proofs.Calm.{resting, entry_of, all_carried, all_fresh, IsFresh, Parcel, parcel, excluded, came_in, passed}
use Rattle.srm_recovery.proofs.Recovering.{recovery_law}
use Rattle.srm_recovery.proofs.Telling.{sharing_law}
use Rattle.srm_recovery.proofs.Reading.{reading_law}
use Rattle.srm_recovery.proofs.Reporting.{reporting_law}
use Rattle.srm_recovery.proofs.Waiting.{waits_law}
use Rattle.srm_recovery.proofs.Ignoring.{accepting_law}
use Rattle.srm_recovery.proofs.Hearing.{hearing_law}
use Rattle.srm_recovery.proofs.Measuring.{length_law}
use Rattle.srm_recovery.proofs.Delivering.{delivering_law}
use Rattle.srm_recovery.proofs.Draining.{emptying_law}
use Rattle.srm_recovery.proofs.Leaving.{keeping_law, leaving_law, silence_law}
use Rattle.srm_recovery.proofs.GroupTrace.{prompt, lost, request_1, repair_0, message_1, sends, told_1, asks_1, asked_0, mends_0, mended_1, asks_leave, departs, tells, told_2, asks_2, asked_1, mends_1, mended_2, then_0, then_1, later_1, later_2, entries, trace, timing}
use Rattle.srm_recovery.proofs.GroupRepairer.{near_0, near_1, near_2, item_2}
use Rattle.srm_recovery.proofs.GroupRun.{run, honest}
use Rattle.srm_recovery.proofs.GroupNetwork.{other_member, heard_request_1, heard_repair_0, heard_message_1, takes_part, goes_0, goes_1, goes_2, no_waits, holds_off_short, connects, told_first, connects_on, told_then}

abbrev pub draws : EntryWithin trace timing 0 0 999990
draws = record { before = []; this = draws_one; after = sends ∷ asked_0 ∷ mends_0 ∷ (resting 0 then_0 ++ asks_leave ∷ departs ∷ []); split = refl; not_before = lit≤ tt; not_after = lit≤ tt }

pub holds : HoldsBy trace timing 0 lost 999990
holds = (draws, refl)

abbrev pub is_told_1 : (now : ℕ) → 1000001 ≤ now → EntryWithin trace timing 1 0 now
is_told_1 now l = record { before = []; this = told_1; after = asks_1 ∷ mended_1 ∷ (resting 1 then_1 ++ tells ∷ asked_1 ∷ mends_1 ∷ resting 1 later_1); split = refl; not_before = lit≤ tt; not_after = l }

pub knows : KnowsBy trace timing 1 lost 1399992
knows = (lit≤ tt, is_told_1 1399992 (lit≤ tt), lit≤ tt)

-- the name is missing, and then held
pub is_lost : is_missing (told_1 ∷ []) lost ≡ true
is_lost = refl

pub recovered : HoldsBy trace timing 1 lost 1799994
recovered = recovery_law trace timing 999990 1399992 1999990 1 0 lost 0 run (connects lost) (no_waits Ask 1 1399992 lost) (lit≤ tt) (lit≤ tt) holds knows

pub shared : HoldsBy trace timing 1 lost 1699994
shared = sharing_law trace timing 10 0 999990 1999990 1 0 lost run (connects lost) told_first (no_waits Ask 1 1999990 lost) (lit≤ tt) (lit≤ tt) holds

pub serves : Serves trace timing 10 0 first_stream 0 1 999990 1999990
serves = record { connected = λ k. connects (named first_stream k); told = told_first; waits = λ k. no_waits Ask 1 1999990 (named first_stream k) }

pub read : ReleasesBy trace timing 1 first_stream (first_drawop ∷ []) 1699994
read = reading_law trace timing 10 0 999990 1999990 1 0 first_page run honest serves (lit≤ tt) draws

-- member 0 has left, and member 2 has what it drew
pub serves_on : Serves trace timing 10 0 first_stream 1 2 1999990 2799994
serves_on = record { connected = λ k. connects_on (named first_stream k); told = told_then; waits = λ k. no_waits Ask 2 2799994 (named first_stream k) }

pub left : ReleasesBy trace timing 2 first_stream (first_drawop ∷ []) 2699994
left = leaving_law trace timing 10 0 999990 1999990 2799994 2 1 0 first_page run honest draws refl serves (lit≤ tt) serves_on (lit≤ tt)

pub kept : ReleasesBy trace timing 2 first_stream (first_drawop ∷ []) 2799994
kept = keeping_law trace timing 1999990 2399992 2799994 2 0 first_page 0 run honest each (λ k. no_waits Ask 2 2399992 (named first_stream k)) (lit≤ tt) (lit≤ tt)
    (record { before = []; this = told_2; after = asks_2 ∷ mended_2 ∷ resting 2 later_2; split = refl; not_before = lit≤ tt; not_after = lit≤ tt }, lit≤ tt)
  where
    one : (k : ℕ) → 1 ≤ k → k ≤ 1 → k ≡ 1
    one k l u = omega arith

    each : (k : ℕ) → 1 ≤ k → k ≤ 1 → IsKept trace timing (named first_stream k) 2 1999990 2799994
    each k l u = subst (λ j. IsKept trace timing (named first_stream j) 2 1999990 2799994) (sym (one k l u))
        (inr (1, connects_on lost, (record { before = told_1 ∷ asks_1 ∷ []; this = mended_1; after = resting 1 then_1 ++ tells ∷ asked_1 ∷ mends_1 ∷ resting 1 later_1; split = refl; not_before = lit≤ tt; not_after = lit≤ tt }, refl)))

-- member 0 hears no request any more, so member 1 holds the name
pub silent_0 : (h : EntryWithin trace timing 0 1200000 1400001) → asks_for lost h.this ≡ false
unfolding bits_set
silent_0 h = go (asks_for lost h.this) (nat_le h.this.moment 1100000) (later h.this.moment h.not_before)
    (subst (λ w. (not (w == 0) || (nat_le h.this.moment 1100000 || not (asks_for lost h.this))) ≡ true) (entry_of trace timing 0 1200000 1400001 h).1
    (passed (λ (e : Entry). not (e.member == 0) || (nat_le e.moment 1100000 || not (asks_for lost e))) entries refl h.this (entry_of trace timing 0 1200000 1400001 h).0))
  where
    later : (u : ℕ) → 1200000 ≤ 0 + u → nat_le u 1100000 ≡ false
    later u l = grind (arith, nat_tests)

    go : (b x : Bool) → x ≡ false → (x || not b) ≡ true → b ≡ false
    go false x p k = refl
    go true false p k = absurd (cc)
    go true true p k = absurd (cc)

pub assured : HoldsBy trace timing 1 lost 1300000
assured = silence_law trace timing 999990 1200000 1999990 1 0 lost 0 run (connects lost) (no_waits Ask 1 1200000 lost) (lit≤ tt) (lit≤ tt) holds (lit≤ tt, is_told_1 1200000 (lit≤ tt), lit≤ tt) silent_0

-- its session messages come each second
pub reports : OwesBy trace timing 0 999990 1999990
reports = reporting_law trace timing 0 999990 100 1000000 run speaks ((λ me. (lit< tt, lit≤ tt)), ((λ me. (lit< tt, lit≤ tt)), ((λ me. (lit< tt, lit≤ tt)), tt)))
  where
    none : List Datagram → Bool
    none [] = true
    none (g ∷ gs) = false

    speaks : SpeaksAtMost trace timing 0 999990 100
    speaks h g sent is = absurd (go h.this.effects.outs (nat_lt 999990 h.this.moment) (early h.this.moment h.not_after) (Has-contained g h.this.effects.outs sent)
        (subst (λ w. (not (w == 0) || (nat_lt 999990 h.this.moment || none h.this.effects.outs)) ≡ true) (entry_of trace timing 0 0 999990 h).1
        (passed (λ (e : Entry). not (e.member == 0) || (nat_lt 999990 e.moment || none e.effects.outs)) entries refl h.this (entry_of trace timing 0 0 999990 h).0)))
      where
        early : (u : ℕ) → 0 + u ≤ 999990 → nat_lt 999990 u ≡ false
        early u l = grind (arith, nat_tests)

        go : (gs : List Datagram) (x : Bool) → x ≡ false → Has g gs → (x || none gs) ≡ true → ⊥
        go [] x p h k = h
        go (y ∷ gs) false p h k = absurd (cc)
        go (y ∷ gs) true p h k = absurd (cc)

-- no member takes a distance to be above a tenth of a second
pub waits : WaitsAtMost trace timing Ask 1 lost 1999990 0 × WaitsAtMost trace timing Fix 1 lost 1999990 0 × HoldsOffAtMost trace 1 300000
waits = waits_law trace timing 100000 1 1999990 lost run (near_0, (near_1, (near_2, tt)))

-- what it hands in is no longer than a datagram may be
pub fits : item_2.item.length ≤ GREATEST_LENGTH
fits = length_law trace (record { config = prompt 2; made = 499980 }) (of_member 2 entries) [] item_2 run (2, lit< tt, refl) refl (0, lit< tt, refl)

-- it accepts what it is told
pub accepted_2 : told_2.verdict ≡ Done
accepted_2 = accepting_law trace heard_message_1.before heard_message_1.after told_2 message_1 run honest refl refl heard_message_1.was_sent heard_message_1.of_another heard_message_1.slots

-- the rate empties the bucket of member 2

pub price-both : (xs ys : List (Classed Datagram)) → price (xs ++ ys) ≡ price xs + price ys
price-both [] ys = omega arith
price-both (x ∷ xs) ys = let k = price-both xs ys in omega (arith, k)

-- in twice the time between two ticks
abbrev pub longer : Timing
longer = record timing { emptying = 200000 }

abbrev pub at_once : (m from to : ℕ) → EntryWithin trace timing m from to → EntryWithin trace longer m from to
at_once m from to h = record { before = h.before; this = h.this; after = h.after; split = h.split; not_before = h.not_before; not_after = h.not_after }

abbrev pub as_ever : (m from to : ℕ) → EntryWithin trace longer m from to → EntryWithin trace timing m from to
as_ever m from to h = record { before = h.before; this = h.this; after = h.after; split = h.split; not_before = h.not_before; not_after = h.not_after }

-- what it hands in is the request
pub hands_in : (from to : ℕ) (h : EntryWithin trace longer 2 from to) → handed_so_far 2 (so_far h) ++ flat_map (handed_in_by 2) (steps_after (so_far h) h.after) ≡ item_2 ∷ []
hands_in from to h =
    sym (flat_map-append (handed_in_by 2) (steps (so_far h)) (steps_after (so_far h) h.after))
    ∙ ap (flat_map (handed_in_by 2)) (sym (steps-append (so_far h) h.after)) ∙ ap (handed_so_far 2) (append_assoc h.before (h.this ∷ []) h.after ∙ sym h.split)

pub pays : Pays trace longer (record { config = prompt 2; made = 499980 }) 100 2000001
pays = record {
  room = lit≤ tt;
  short = λ h i tk c. only i (subst (λ w. Has i w) (hands_in 2000002 2200001 h)
      (Has-front i (handed_so_far 2 (so_far h)) (flat_map (handed_in_by 2) (steps_after (so_far h) h.after)) (Has-contained i (handed_so_far 2 (so_far h)) c)));
  paid = λ h tk. (let k : price (handed_so_far 2 (so_far h) ++ flat_map (handed_in_by 2) (steps_after (so_far h) h.after)) ≤ 800000000 = subst (λ w. price w ≤ 800000000) (sym (hands_in 2000002 2200001 h)) (lit≤ tt) in
      let both_parts = price-both (handed_so_far 2 (so_far h)) (flat_map (handed_in_by 2) (steps_after (so_far h) h.after)) in
      less (price (handed_so_far 2 (so_far h))) _ _ (gone_by trace longer 2 2000001) both_parts k);
}
  where
    only : (i : Classed Datagram) → Has i (item_2 ∷ []) → i.item.length ≤ 100
    only i (inl q) = subst (λ (x : Classed Datagram). x.item.length ≤ 100) (sym q) (lit≤ tt)
    only i (inr f) = absurd f

    less : (a b ab g : ℕ) → ab ≡ a + b → ab ≤ 800000000 → a ≤ g + 8000 * (200000 - 100000)
    less a b ab g q l = omega (arith, q, l)

pub empties : EmptiesWithin trace longer 2 2000002 2200001
empties = emptying_law trace longer (record { config = prompt 2; made = 499980 }) 100 2000001 run (2, lit< tt, refl)
    (record { inside = lit< tt; present = λ h. takes_part 2 2200001 (inl refl) (as_ever 2 0 2200001 h) }) (lit≤ tt) (lit≤ tt)
    (λ at l u. (let (h, tk) = goes_2.ticks at (omega arith) (omega arith) in (at_once 2 (at + 1) (at + 100000) h, tk))) pays

-- Behind its loss the network delivers all between members 0 and 1 until member 0 leaves; member 2 is cut off.

abbrev pub two : ℕ → Bool
two m = nat_lt m 2

pub which_member : (m : ℕ) → two m ≡ true → (m ≡ 0) ⊎ (m ≡ 1)
which_member m b = let l : m < 2 = ltb-true m 2 b in elim (cases_lt m 1) [
  | inl less ↦ inl (omega arith)
  | inr more ↦ inr (omega arith)
]

pub carried : (m k : ℕ) → two m ≡ true → two k ≡ true → m ≢ k → Carries (AcceptsWithin trace timing) trace timing (λ g. true) m k 1000001 1999990
carried m k bm bk other = go (which_member m bm) (which_member k bk)
  where
    accepting : (i j : ℕ) → Carries (HearsWithin trace timing) trace timing (λ g. true) i j 1000001 1999990 → Carries (AcceptsWithin trace timing) trace timing (λ g. true) i j 1000001 1999990
    accepting i j c h g is has limit = (hearing_law trace timing j 0 (time_of timing i h.this) (time_of timing i h.this + 1) run honest).accepts g (c h g is has limit)

    between : (i j : ℕ) → m ≡ i → k ≡ j → Carries (HearsWithin trace timing) trace timing (λ g. true) i j 1000001 1999990 → Carries (AcceptsWithin trace timing) trace timing (λ g. true) m k 1000001 1999990
    between i j a b c = subst (λ x. Carries (AcceptsWithin trace timing) trace timing (λ g. true) x k 1000001 1999990) (sym a)
        (subst (λ x. Carries (AcceptsWithin trace timing) trace timing (λ g. true) i x 1000001 1999990) (sym b) (accepting i j c))

    go : (m ≡ 0) ⊎ (m ≡ 1) → (k ≡ 0) ⊎ (k ≡ 1) → Carries (AcceptsWithin trace timing) trace timing (λ g. true) m k 1000001 1999990
    go (inl a) (inl b) = absurd (other (a ∙ sym b))
    go (inl a) (inr b) = between 0 1 a b (all_carried trace timing (λ g. true) 0 1 1000001 1999990 (inl refl, (inl refl, (inl refl, (inr heard_repair_0, (inl refl, (inl refl, (inl refl, (inl refl, tt)))))))))
    go (inr a) (inl b) = between 1 0 a b (all_carried trace timing (λ g. true) 1 0 1000001 1999990 (inl refl, (inl refl, (inr heard_request_1, (inl refl, (inl refl, (inl refl, (inl refl, (inl refl, tt)))))))))
    go (inr a) (inr b) = absurd (other (a ∙ sym b))

pub keeps_up : (m : ℕ) → (m ≡ 0) ⊎ (m ≡ 1) → KeepsUp trace timing m 1000001 1999990
keeps_up m (inl a) = subst (λ k. KeepsUp trace timing k 1000001 1999990) (sym a) (record { stays = goes_0.stays; ticks = λ now l u. goes_0.ticks now (omega arith) u; empties = λ now l u. goes_0.empties now (omega arith) u })
keeps_up m (inr a) = subst (λ k. KeepsUp trace timing k 1000001 1999990) (sym a) (record { stays = goes_1.stays; ticks = λ now l u. goes_1.ticks now (omega arith) u; empties = λ now l u. goes_1.empties now (omega arith) u })

pub delivers : Delivers trace timing two 1000001 1999990
delivers = record {
  keep_up = λ m b. keeps_up m (which_member m b);
  delivers = carried;
  fresh = λ m b. all_fresh trace timing two m 1000001 1999990 (fresh m (which_member m b));
  repair_wait = λ m n b. no_waits Fix m 1999990 n;
  hold_off = λ m b. holds_off_short m;
}
  where
    asked : IsFresh trace timing two 0 (parcel asked_0 request_1)
    asked = (1, refl, (record { before = told_1 ∷ []; this = asks_1; after = mended_1 ∷ (resting 1 then_1 ++ tells ∷ asked_1 ∷ mends_1 ∷ resting 1 later_1); split = refl; not_before = lit≤ tt; not_after = lit≤ tt }, (0, lit< tt, refl)))

    mended : IsFresh trace timing two 1 (parcel mended_1 repair_0)
    mended = (0, refl, (record { before = draws_one ∷ sends ∷ asked_0 ∷ []; this = mends_0; after = resting 0 then_0 ++ asks_leave ∷ departs ∷ []; split = refl; not_before = lit≤ tt; not_after = lit≤ tt }, (0, lit< tt, refl)))

    fresh : (m : ℕ) → (m ≡ 0) ⊎ (m ≡ 1) → AllByRecursion (λ (s : Parcel). (excluded timing (λ g. true) m 1000002 1999990 s ≡ true) ⊎ IsFresh trace timing two m s) (came_in entries)
    fresh m (inl a) = subst (λ k. AllByRecursion (λ (s : Parcel). (excluded timing (λ g. true) k 1000002 1999990 s ≡ true) ⊎ IsFresh trace timing two k s) (came_in entries)) (sym a)
        (inl refl, (inr asked, (inl refl, (inl refl, (inl refl, (inl refl, tt))))))
    fresh m (inr a) = subst (λ k. AllByRecursion (λ (s : Parcel). (excluded timing (λ g. true) k 1000002 1999990 s ≡ true) ⊎ IsFresh trace timing two k s) (came_in entries)) (sym a)
        (inl refl, (inl refl, (inr mended, (inl refl, (inl refl, (inl refl, tt))))))

pub connected : Connects (AcceptsWithin trace timing) trace timing lost 1 0 1000001 1999990
connected = (delivering_law trace timing two 1000001 1999990 1 0 delivers refl refl (other_member 1 0 refl)).0 lost
