-- The network of the example connects member 1 to member 0, and later member 2 to member 1.
use Rattle.std.proofs.Common.{◌≡◌, ◌≢◌, ℕ, ◌==◌, ◌+◌, ◌*◌, ◌≤◌, ◌<◌, Bool, true, false, ◌&&◌, ◌||◌, List, [], ◌∷◌, ◌++◌, refl, ap, sym, ◌∙◌, subst, arith, inl, inr, lit<, lit≤, eq-eqb}
use Rattle.std.specs.Prelude.{◌⊎◌, Option, Some, None, nat_lt, not, find, is_some}
use Rattle.std.proofs.lemmas.Bool.{ltb-true}
use Rattle.srm_names.specs.FullName.{FullName}
use Rattle.srm_names.specs.Names.{first_page}
use Rattle.srm_names.proofs.Lists.{Has, Has-front, Has-passes}
use Rattle.srm_codec.specs.Spelling.{bits_set, is_session}
use Rattle.srm_timers.specs.declared.arm.ArmKind.TheVariants.{Fix}
use Rattle.srm_timers.specs.declared.arm.ArmKind.{ArmKind}
use Rattle.srm_entries.specs.declared.entry.Entry.{Entry}
use Rattle.srm_entries.specs.Entries.{done, page_shown, shown, state, is_gone}
use Rattle.srm_entries.specs.Distances.{distance}
use Rattle.srm_entries.proofs.Plain.{draws_one}
use Rattle.srm_entries.proofs.Showing.{state-snoc}
use Rattle.srm_world.specs.Traces.{of_member}
use Rattle.srm_recovery.specs.Members.{EntryWithin, Stays, KeepsUp, AcceptsWithin, EmptiesWithin, WaitsAtMost, HoldsOffAtMost, so_far}
use Rattle.srm_recovery.specs.Network.{Carries, ComesToBoth, requests, repairs, Connects, Tells}
use Rattle.srm_recovery.specs.Hearing.{HearsWithin}
use Rattle.srm_recovery.proofs.Asking.{true_false}
use Rattle.srm_recovery.proofs.Calm.{resting, covers, emptied, entry_of, all_carried, none_comes, none_waits, all_pass, passed, unturned, due_within}
use Rattle.srm_recovery.proofs.Hearing.{hearing_law}
use Rattle.srm_recovery.proofs.GroupTrace.{prompt, message_0, request_1, repair_0, message_1, request_2, repair_1, sends, told_1, asks_1, asked_0, mends_0, mended_1, asks_leave, departs, tells, told_2, asks_2, asked_1, mends_1, mended_2, then_0, then_1, later_1, later_2, lull, last_lull, leaving, entries, trace, clock, timing}
use Rattle.srm_recovery.proofs.GroupAskers.{past_1, past_2}
use Rattle.srm_recovery.proofs.GroupRepairer.{near_0, near_1, near_2}
use Rattle.srm_recovery.proofs.GroupRun.{run, honest}

-- what is sent is heard a microsecond later, but for the datum and the farewell

pub other_member : (a b : ℕ) → (a == b) ≡ false → a ≢ b
other_member a b f q = true_false (a == b) (eq-eqb a b q) f

heard_message_0 : HearsWithin trace timing 1 message_0 1000000 1000001
heard_message_0 = record { before = draws_one ∷ sends ∷ []; this = told_1; after = asks_1 ∷ asked_0 ∷ mends_0 ∷ mended_1 ∷ (lull ++ leaving); split = refl; member = refl; input = refl; was_sent = (1, lit< tt, refl); of_another = other_member 0 1 refl; slots = refl; not_before = lit≤ tt; not_after = lit≤ tt }

pub heard_request_1 : HearsWithin trace timing 0 request_1 1050000 1050001
unfolding bits_set
heard_request_1 = record { before = draws_one ∷ sends ∷ told_1 ∷ asks_1 ∷ []; this = asked_0; after = mends_0 ∷ mended_1 ∷ (lull ++ leaving); split = refl; member = refl; input = refl; was_sent = (2, lit< tt, refl); of_another = other_member 1 0 refl; slots = refl; not_before = lit≤ tt; not_after = lit≤ tt }

pub heard_repair_0 : HearsWithin trace timing 1 repair_0 1100000 1100001
heard_repair_0 = record { before = draws_one ∷ sends ∷ told_1 ∷ asks_1 ∷ asked_0 ∷ mends_0 ∷ []; this = mended_1; after = lull ++ leaving; split = refl; member = refl; input = refl; was_sent = (3, lit< tt, refl); of_another = other_member 0 1 refl; slots = refl; not_before = lit≤ tt; not_after = lit≤ tt }

abbrev pub heard_message_1 : HearsWithin trace timing 2 message_1 2000000 2000001
heard_message_1 = record { before = draws_one ∷ sends ∷ told_1 ∷ asks_1 ∷ asked_0 ∷ mends_0 ∷ mended_1 ∷ (lull ++ asks_leave ∷ departs ∷ tells ∷ []); this = told_2; after = asks_2 ∷ asked_1 ∷ mends_1 ∷ mended_2 ∷ last_lull; split = refl; member = refl; input = refl; was_sent = (5, lit< tt, refl); of_another = other_member 1 2 refl; slots = refl; not_before = lit≤ tt; not_after = lit≤ tt }

heard_request_2 : HearsWithin trace timing 1 request_2 2050000 2050001
unfolding bits_set
heard_request_2 = record { before = draws_one ∷ sends ∷ told_1 ∷ asks_1 ∷ asked_0 ∷ mends_0 ∷ mended_1 ∷ (lull ++ asks_leave ∷ departs ∷ tells ∷ told_2 ∷ asks_2 ∷ []); this = asked_1; after = mends_1 ∷ mended_2 ∷ last_lull; split = refl; member = refl; input = refl; was_sent = (6, lit< tt, refl); of_another = other_member 2 1 refl; slots = refl; not_before = lit≤ tt; not_after = lit≤ tt }

heard_repair_1 : HearsWithin trace timing 2 repair_1 2100000 2100001
heard_repair_1 = record { before = draws_one ∷ sends ∷ told_1 ∷ asks_1 ∷ asked_0 ∷ mends_0 ∷ mended_1 ∷ (lull ++ asks_leave ∷ departs ∷ tells ∷ told_2 ∷ asks_2 ∷ asked_1 ∷ mends_1 ∷ []); this = mended_2; after = last_lull; split = refl; member = refl; input = refl; was_sent = (7, lit< tt, refl); of_another = other_member 1 2 refl; slots = refl; not_before = lit≤ tt; not_after = lit≤ tt }

-- a test that fails for one of two causes
out : (b : Bool) → (not b || true) ≡ true
out true = refl
out false = refl

-- members 1 and 0: from a while before the session message of member 0 until that one leaves

request_1_comes : (n : FullName) → Carries (HearsWithin trace timing) trace timing (requests n) 1 0 999990 1999990
request_1_comes n = all_carried trace timing (requests n) 1 0 999990 1999990 (inl refl, (inl refl, (inr heard_request_1, (inl refl, (inl refl, (inl refl, (inl (out (requests n request_2)), (inl refl, tt))))))))

repair_0_comes : (n : FullName) → Carries (HearsWithin trace timing) trace timing (repairs n) 0 1 999990 1999990
repair_0_comes n = all_carried trace timing (repairs n) 0 1 999990 1999990 (inl refl, (inl refl, (inl refl, (inr heard_repair_0, (inl refl, (inl refl, (inl refl, (inl (out (repairs n repair_1)), tt))))))))

message_0_comes : Carries (HearsWithin trace timing) trace timing is_session 0 1 999990 1999990
message_0_comes = all_carried trace timing is_session 0 1 999990 1999990 (inl refl, (inr heard_message_0, (inl refl, (inl refl, (inl refl, (inl refl, (inl refl, (inl refl, tt))))))))

no_request_1 : (n : FullName) → ComesToBoth (HearsWithin trace timing) trace timing (requests n) 1 0 999990 1999990
no_request_1 n = none_comes (HearsWithin trace timing) trace timing (requests n) 1 0 999990 1999990 (refl, (out (requests n request_1), (refl, (refl, (out (requests n request_2), (refl, tt))))))

no_repair_0 : (n : FullName) → ComesToBoth (HearsWithin trace timing) trace timing (repairs n) 0 1 999990 1999990
no_repair_0 n = none_comes (HearsWithin trace timing) trace timing (repairs n) 0 1 999990 1999990 (refl, (refl, (out (repairs n repair_0), (refl, (refl, (out (repairs n repair_1), tt))))))

-- members 2 and 1: from then on

request_2_comes : (n : FullName) → Carries (HearsWithin trace timing) trace timing (requests n) 2 1 1999990 2799994
request_2_comes n = all_carried trace timing (requests n) 2 1 1999990 2799994 (inl refl, (inl refl, (inl (out (requests n request_1)), (inl refl, (inl refl, (inl refl, (inr heard_request_2, (inl refl, tt))))))))

repair_1_comes : (n : FullName) → Carries (HearsWithin trace timing) trace timing (repairs n) 1 2 1999990 2799994
repair_1_comes n = all_carried trace timing (repairs n) 1 2 1999990 2799994 (inl refl, (inl refl, (inl refl, (inl (out (repairs n repair_0)), (inl refl, (inl refl, (inl refl, (inr heard_repair_1, tt))))))))

message_1_comes : Carries (HearsWithin trace timing) trace timing is_session 1 2 1999990 2799994
message_1_comes = all_carried trace timing is_session 1 2 1999990 2799994 (inl refl, (inl refl, (inl refl, (inl refl, (inl refl, (inr heard_message_1, (inl refl, (inl refl, tt))))))))

no_request_2 : (n : FullName) → ComesToBoth (HearsWithin trace timing) trace timing (requests n) 2 1 1999990 2799994
no_request_2 n = none_comes (HearsWithin trace timing) trace timing (requests n) 2 1 1999990 2799994 (refl, (out (requests n request_1), (refl, (refl, (out (requests n request_2), (refl, tt))))))

no_repair_1 : (n : FullName) → ComesToBoth (HearsWithin trace timing) trace timing (repairs n) 1 2 1999990 2799994
no_repair_1 n = none_comes (HearsWithin trace timing) trace timing (repairs n) 1 2 1999990 2799994 (refl, (refl, (out (repairs n repair_0), (refl, (refl, (out (repairs n repair_1), tt))))))

-- all take part, but member 0 behind its farewell

pub takes_part : (m to : ℕ) → (m == 0) ≡ false ⊎ (to ≤ 1999990) → (h : EntryWithin trace timing m 0 to) → is_gone (state (so_far h)) ≡ false
takes_part m to where_so h = ap is_gone (state-snoc h.before h.this) ∙ go (is_gone h.this.effects.state) (m == 0) (nat_lt 1999990 h.this.moment) refl refl refl
    (subst (λ w. (not (is_gone h.this.effects.state) || ((w == 0) && nat_lt 1999990 h.this.moment)) ≡ true) (entry_of trace timing m 0 to h).1
    (passed (λ (e : Entry). not (is_gone e.effects.state) || ((e.member == 0) && nat_lt 1999990 e.moment)) entries refl h.this (entry_of trace timing m 0 to h).0))
  where
    go : (g z l : Bool) → is_gone h.this.effects.state ≡ g → (m == 0) ≡ z → nat_lt 1999990 h.this.moment ≡ l → (not g || (z && l)) ≡ true → g ≡ false
    go false z l p q r k = refl
    go true false l p q r k = absurd (cc)
    go true true false p q r k = absurd (cc)
    go true true true p q r k = absurd (elim where_so [
      | inl other ↦ true_false (m == 0) q other
      | inr soon ↦ (let a : 1999990 < h.this.moment = ltb-true 1999990 h.this.moment r in let b : clock m + h.this.moment ≤ to = h.not_after in omega (arith, a, b, soon))
    ])

empties_0 : (now : ℕ) → 999990 ≤ now → now + 100000 ≤ 1999990 → EmptiesWithin trace timing 0 (now + 1) (now + 100000)
unfolding covers
empties_0 now l u = emptied trace timing 0 100000 1999990 999990 (draws_one ∷ []) (sends ∷ asked_0 ∷ mends_0 ∷ (resting 0 then_0 ++ asks_leave ∷ departs ∷ [])) refl refl now l u

empties_1 : (now : ℕ) → 999990 ≤ now → now + 100000 ≤ 2799994 → EmptiesWithin trace timing 1 (now + 1) (now + 100000)
unfolding covers
empties_1 now l u = emptied trace timing 1 100000 2299994 499990 [] (past_1 ++ resting 1 then_1 ++ tells ∷ asked_1 ∷ mends_1 ∷ resting 1 later_1) refl refl now l u

empties_2 : (now : ℕ) → 1999990 ≤ now → now + 100000 ≤ 2799994 → EmptiesWithin trace timing 2 (now + 1) (now + 100000)
unfolding covers
empties_2 now l u = emptied trace timing 2 100000 1299994 499990 [] (past_2 ++ resting 2 later_2) refl refl now l u

goes : (m from to : ℕ) → Stays trace timing m to → ((now : ℕ) → from ≤ now → now + 100000 ≤ to → EmptiesWithin trace timing m (now + 1) (now + 100000)) → KeepsUp trace timing m from to
goes m from to stays empties = record { stays = stays; ticks = λ now l u. (let e = empties now l u in (e.0, e.1)); empties = empties }

pub goes_0 : KeepsUp trace timing 0 999990 1999990
goes_0 = goes 0 999990 1999990 (record { inside = lit< tt; present = takes_part 0 1999990 (inr (lit≤ tt)) }) empties_0

pub goes_1 : KeepsUp trace timing 1 999990 1999990
goes_1 = goes 1 999990 1999990 (record { inside = lit< tt; present = takes_part 1 1999990 (inr (lit≤ tt)) }) (λ now l u. empties_1 now l (omega arith))

goes_1_on : KeepsUp trace timing 1 1999990 2799994
goes_1_on = goes 1 1999990 2799994 (record { inside = lit< tt; present = takes_part 1 2799994 (inl refl) }) (λ now l u. empties_1 now (omega arith) u)

pub goes_2 : KeepsUp trace timing 2 1999990 2799994
goes_2 = goes 2 1999990 2799994 (record { inside = lit< tt; present = takes_part 2 2799994 (inl refl) }) empties_2

pub no_waits : (kind : ArmKind) (m to : ℕ) (n : FullName) → WaitsAtMost trace timing kind m n to 0
no_waits kind m to n = none_waits trace timing kind m to n (refl, (refl, (refl, (refl, (refl, (refl, tt))))))

pub holds_off_short : (m : ℕ) → HoldsOffAtMost trace m 300000
holds_off_short m = (
  λ me before after b q. three (distance (prompt 0) before b) (near_0 before after b (ap (λ w. of_member w entries) me ∙ q)),
  (
    λ me before after b q. three (distance (prompt 1) before b) (near_1 before after b (ap (λ w. of_member w entries) me ∙ q)),
    (λ me before after b q. three (distance (prompt 2) before b) (near_2 before after b (ap (λ w. of_member w entries) me ∙ q)), tt),
  ),
)
  where
    three : (x : ℕ) → x ≤ 100000 → 0 + 3 * x ≤ 300000
    three x l = omega arith

-- all show the first page, and session messages are due in time

shows_first : (m from to : ℕ) (h : EntryWithin trace timing m from to) → shown h.before ≡ first_page
shows_first m from to h = unturned h.before (λ e k. none (page_shown (done e)) (passed (λ (x : Entry). not (is_some (page_shown (done x)))) entries refl e
    (Has-passes (λ (x : Entry). x.member == m) e entries (subst (λ w. Has e w) (sym h.split) (Has-front e h.before (h.this ∷ h.after) k))).0))
  where
    none : {X : Type 0} (o : Option X) → not (is_some o) ≡ true → o ≡ None
    none None k = refl
    none (Some x) k = absurd (cc)

no_session : (front : List Entry) → all_pass (λ (x : Entry). not (is_some (find is_session x.effects.outs))) front ≡ true → (e : Entry) → Has e front → find is_session e.effects.outs ≡ None
no_session front q e h = none (find is_session e.effects.outs) (passed (λ (x : Entry). not (is_some (find is_session x.effects.outs))) front q e h)
  where
    none : {X : Type 0} (o : Option X) → not (is_some o) ≡ true → o ≡ None
    none None k = refl
    none (Some x) k = absurd (cc)

not_both : {X : Type 0} (a b m : ℕ) → (a == b) ≡ false → a ≡ m → b ≡ m → X
not_both a b m f p q = absurd (true_false (a == b) (eq-eqb a b (p ∙ sym q)) f)

tells_by_hearing : Tells (HearsWithin trace timing) trace timing first_page 10 0 1 999990 1999990
tells_by_hearing = record {
  shows = shows_first 0 999991 1999990;
  due = (
    λ me. due_within 0 (prompt 0) 0 999990 (draws_one ∷ []) sends (asked_0 ∷ mends_0 ∷ (resting 0 then_0 ++ asks_leave ∷ departs ∷ [])) (no_session (draws_one ∷ []) refl) (lit< tt),
    (λ me. not_both 1 0 0 refl me refl, (λ me. not_both 2 0 0 refl me refl, tt)),
  );
  carried = message_0_comes;
}

tells_on_by_hearing : Tells (HearsWithin trace timing) trace timing first_page 10 1 2 1999990 2799994
tells_on_by_hearing = record {
  shows = shows_first 1 1999991 2799994;
  due = (
    λ me. not_both 0 1 1 refl me refl,
    (
      λ me. due_within 500000 (prompt 1) 500000 1499990 (past_1 ++ resting 1 then_1) tells (asked_1 ∷ mends_1 ∷ resting 1 later_1) (no_session (past_1 ++ resting 1 then_1) refl) (lit< tt),
      (λ me. not_both 2 1 1 refl me refl, tt),
    ),
  );
  carried = message_1_comes;
}

-- what the members hear is enough

connects_by_hearing : (n : FullName) → Connects (HearsWithin trace timing) trace timing n 1 0 999990 1999990
connects_by_hearing n = record {
  asker = goes_1;
  holder = goes_0;
  asked = record { sent = request_1_comes n; heard = no_request_1 n };
  repaired = record { sent = repair_0_comes n; heard = no_repair_0 n };
  repair_wait = no_waits Fix 0 1999990 n;
  hold_off = holds_off_short 0;
}

connects_on_by_hearing : (n : FullName) → Connects (HearsWithin trace timing) trace timing n 2 1 1999990 2799994
connects_on_by_hearing n = record {
  asker = goes_2;
  holder = goes_1_on;
  asked = record { sent = request_2_comes n; heard = no_request_2 n };
  repaired = record { sent = repair_1_comes n; heard = no_repair_1 n };
  repair_wait = no_waits Fix 1 2799994 n;
  hold_off = holds_off_short 1;
}

pub connects : (n : FullName) → Connects (AcceptsWithin trace timing) trace timing n 1 0 999990 1999990
connects n = (hearing_law trace timing 1 0 999990 1999990 run honest).connects n (connects_by_hearing n)

pub told_first : Tells (AcceptsWithin trace timing) trace timing first_page 10 0 1 999990 1999990
told_first = (hearing_law trace timing 1 0 999990 1999990 run honest).tells first_page 10 tells_by_hearing

pub connects_on : (n : FullName) → Connects (AcceptsWithin trace timing) trace timing n 2 1 1999990 2799994
connects_on n = (hearing_law trace timing 2 1 1999990 2799994 run honest).connects n (connects_on_by_hearing n)

pub told_then : Tells (AcceptsWithin trace timing) trace timing first_page 10 1 2 1999990 2799994
told_then = (hearing_law trace timing 2 1 1999990 2799994 run honest).tells first_page 10 tells_on_by_hearing
