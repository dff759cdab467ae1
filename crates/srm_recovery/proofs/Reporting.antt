-- A member's next session message is due by its longest interval.
use Rattle.std.proofs.Common.{◌≡◌, ℕ, zero, suc, ◌+◌, ◌*◌, ◌/◌, ◌≤◌, ◌<◌, true, not, List, [], ◌∷◌, ◌++◌, length, refl, ap, sym, ◌∙◌, subst, arith, inl, inr, append_assoc, le_trans}
use Rattle.std.specs.Prelude.{Option, Some, None, find, option_map, unwrap_or, is_some}
use Rattle.std.specs.List.{AllByRecursion}
use Rattle.std.proofs.lemmas.List.Sums.{count_by-le-length}
use Rattle.std.proofs.lemmas.Nat.{le-div}
use Rattle.std.proofs.lemmas.Option.{none-some, same_Some}
use Rattle.std.proofs.Math.Nat.{div-mul-le_self, mul-le-mul_left, mul-le-mul_right}
use Rattle.srm_names.specs.Histories.{Step, steps, last_of, count_up}
use Rattle.srm_names.proofs.Lists.{Has, Has-back, Has-step_split, Has-Contains, All-Has, find-Has}
use Rattle.srm_codec.specs.declared.datagram.Datagram.{Datagram}
use Rattle.srm_codec.specs.Spelling.{length_of, is_session}
use Rattle.srm_entries.specs.Configs.{Config}
use Rattle.srm_entries.specs.declared.entry.Entry.{Entry}
use Rattle.srm_entries.specs.declared.limits.TheConstants.{SECOND, SESSION_SHARE, SHORTEST_INTERVAL}
use Rattle.srm_entries.specs.Entries.{ticked, last_moment}
use Rattle.srm_entries.specs.Sessions.{members_remaining, session_interval, session_due_after, session_due}
use Rattle.srm_entries.specs.Verdicts.{told}
use Rattle.srm_entries.proofs.Spending.{tick_is_last}
use Rattle.srm_world.specs.declared.start.Start.{Start}
use Rattle.srm_world.specs.Traces.{Trace, of_member, IsRunOfMember}
use Rattle.srm_recovery.specs.Timing.{Timing}
use Rattle.srm_recovery.specs.Reporting.{longest_interval, SpeaksAtMost, ReportsWithin, ReportingLaw}
use Rattle.srm_recovery.proofs.Ordering.{right_at, last_of_split, last_more}
use Rattle.srm_recovery.proofs.Sharing.{sends_ticks}

div_more : (x y k : ℕ) → 0 < k → x ≤ y → x / k ≤ y / k
div_more x y k some l = le-div (x / k) y k some (le_trans (div-mul-le_self x k) l)

count_length : (from n : ℕ) → length (count_up from n) ≡ n
count_length from zero = refl
count_length from (suc n) = let k : length (count_up (from + 1) n) ≡ n = count_length (from + 1) n in omega (arith, k)

-- no interval is longer
interval_short : (c : Config) (before : List Entry) (g : Datagram) (longest : ℕ) → 0 < c.rate → length_of g ≤ longest → session_interval c before g ≤ longest_interval c longest
interval_short c before g longest some l =
    let few : members_remaining c before ≤ c.members = subst (λ n. members_remaining c before ≤ n) (count_length 0 c.members) (count_by-le-length (λ m. not (is_some (told before m))) (count_up 0 c.members)) in
    let one : SESSION_SHARE * members_remaining c before ≤ SESSION_SHARE * c.members = mul-le-mul_left SESSION_SHARE few in
    let two : SESSION_SHARE * members_remaining c before * length_of g ≤ SESSION_SHARE * c.members * longest = le_trans (mul-le-mul_right (length_of g) one) (mul-le-mul_left (SESSION_SHARE * c.members) l) in
    let three : SESSION_SHARE * members_remaining c before * length_of g * SECOND / c.rate ≤ SESSION_SHARE * c.members * longest * SECOND / c.rate = div_more _ _ c.rate some (mul-le-mul_right SECOND two) in
    omega (arith, three)

sums : (clock from reporting d due u i j la lb : ℕ) → d ≡ due → u + i ≡ due → i ≤ j → j ≤ reporting → la ≡ u → la ≤ lb → clock + lb ≤ from → clock + d ≤ from + reporting
sums clock from reporting d due u i j la lb p1 p2 p3 p4 p5 p6 p7 = omega arith

of_one : (t : Trace) (p : Timing) (m from longest reporting : ℕ) → SpeaksAtMost t p m from longest → (a : Start) → IsRunOfMember t.entries a → ReportsWithin m longest reporting a
    → a.config.me ≡ m → (before after : List Entry) → of_member m t.entries ≡ before ++ after → p.clock m + last_moment a.made before ≤ from → p.clock m + session_due a.config a.made before ≤ from + reporting
of_one t p m from longest reporting speaks a its within me before after q l = go (last_of (session_due_after c) (steps before)) refl
  where
    c : Config
    c = a.config

    es : List Entry
    es = of_member c.me t.entries

    short : (0 < c.rate) × (longest_interval c longest ≤ reporting)
    short = within me

    split_of : es ≡ before ++ after
    split_of = ap (λ w. of_member w t.entries) me ∙ q

    go : (o : Option ℕ) → last_of (session_due_after c) (steps before) ≡ o → p.clock m + session_due c a.made before ≤ from + reporting
    go None e =
        let due : session_due c a.made before ≡ a.made + SHORTEST_INTERVAL = ap (λ o. unwrap_or o (a.made + SHORTEST_INTERVAL)) e in
        let made : a.made ≤ last_moment a.made before = omega arith in
        let most : longest_interval c longest ≤ reporting = short.1 in
        omega (arith, due, made, l, most)
    go (Some due) e =
        let (one, s, two, at, is) = last_of_split (session_due_after c) (steps before) due e in
        let there : Has s (steps before) = subst (λ w. Has s w) (sym at) (Has-back s one (s ∷ two) (inl refl)) in
        let (rest, parts) = Has-step_split s [] before there in
        let split : es ≡ s.before ++ s.this ∷ (rest ++ after) = split_of ∙ ap (λ w. w ++ after) parts ∙ append_assoc s.before (s.this ∷ rest) after in
        found s rest split parts due is (ap (λ o. unwrap_or o (a.made + SHORTEST_INTERVAL)) e)
      where
        found : (s : Step Entry) (rest : List Entry) → es ≡ s.before ++ s.this ∷ (rest ++ after) → before ≡ s.before ++ s.this ∷ rest → (due : ℕ) → session_due_after c s ≡ Some due → session_due c a.made before ≡ due
            → p.clock m + session_due c a.made before ≤ from + reporting
        found s rest split parts due is same = of (find is_session s.this.effects.outs) refl is
          where
            of : (o : Option Datagram) → find is_session s.this.effects.outs ≡ o → option_map (λ g. s.this.moment + session_interval c s.before g) o ≡ Some due → p.clock m + session_due c a.made before ≤ from + reporting
            of None f k = absurd (none-some due k)
            of (Some g) f k =
                let sends = find-Has is_session s.this.effects.outs g f in
                let ticks : ticked s.this ≡ true = sends_ticks c a.made es s.before (rest ++ after) s.this g its split sends.0 in
                let moment : last_moment a.made (s.before ++ s.this ∷ []) ≡ s.this.moment = tick_is_last c a.made s.before s.this (right_at c a.made es s.before (rest ++ after) s.this its.each split) ticks in
                let more : last_moment a.made (s.before ++ s.this ∷ []) ≤ last_moment a.made before =
                subst (λ w. last_moment a.made (s.before ++ s.this ∷ []) ≤ last_moment a.made w) (append_assoc s.before (s.this ∷ []) rest ∙ sym parts) (last_more a.made (s.before ++ s.this ∷ []) rest) in
                let mine : of_member m t.entries ≡ s.before ++ s.this ∷ (rest ++ after) = subst (λ w. of_member w t.entries ≡ s.before ++ s.this ∷ (rest ++ after)) me split in
                let brief : length_of g ≤ longest = speaks (record { before = s.before; this = s.this; after = rest ++ after; split = mine; not_before = omega arith; not_after = omega (arith, moment, more, l) }) g
                (Has-Contains g s.this.effects.outs sends.0) sends.1 in
                let interval : session_interval c s.before g ≤ longest_interval c longest = interval_short c s.before g longest short.0 brief in
                sums (p.clock m) from reporting (session_due c a.made before) due s.this.moment (session_interval c s.before g) (longest_interval c longest) (last_moment a.made (s.before ++ s.this ∷ [])) (last_moment a.made before) same
                (same_Some (s.this.moment + session_interval c s.before g) due k) interval short.1 moment more l

pub reporting_law : ReportingLaw
reporting_law t p m from longest reporting run speaks within = all t.starts (λ a h. (All-Has (IsRunOfMember t.entries) a t.starts run.each h, All-Has (ReportsWithin m longest reporting) a t.starts within h))
  where
    all : (starts : List Start) → ((a : Start) → Has a starts → IsRunOfMember t.entries a × ReportsWithin m longest reporting a)
        → AllByRecursion (λ (a : Start). a.config.me ≡ m → (before after : List Entry) → of_member m t.entries ≡ before ++ after → p.clock m + last_moment a.made before ≤ from → p.clock m + session_due a.config a.made before ≤ from + reporting) starts
    all [] h = tt
    all (a ∷ starts) h = let both = h a (inl refl) in (of_one t p m from longest reporting speaks a both.0 both.1, all starts (λ b k. h b (inr k)))
