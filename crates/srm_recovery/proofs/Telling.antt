-- What a member holds on the page that it shows, each other one knows of by its next session message, and so holds in time.
use Rattle.std.proofs.Common.{◌≡◌, ℕ, ◌+◌, ◌≤◌, ◌<◌, max, Bool, true, false, not, ◌&&◌, ◌||◌, List, [], ◌∷◌, ◌++◌, length, refl, ap, sym, ◌∙◌, subst, arith, inl, inr, append_assoc}
use Rattle.std.specs.Prelude.{Option, Some, None, if◌then◌else◌, find, option_map, unwrap_or, nat_le}
use Rattle.std.specs.List.{list_any, AllByRecursion}
use Rattle.std.proofs.lemmas.Bool.{cases_lt}
use Rattle.std.proofs.lemmas.Bool.Decides.{nat_tests}
use Rattle.std.proofs.lemmas.Option.{none-some}
use Rattle.srm_names.specs.FullName.{FullName}
use Rattle.srm_names.specs.Histories.{Step, steps, last_of, or_else}
use Rattle.srm_names.specs.Names.{stream_on}
use Rattle.srm_names.proofs.Lists.{Has, Has-back, Has-step_split, Has-Contains, list_any-Has, find-Has, at_parts, All-Has}
use Rattle.srm_names.proofs.Snoc.{steps-snoc, last_of-snoc}
use Rattle.srm_codec.specs.declared.datagram.Datagram.{Datagram}
use Rattle.srm_codec.specs.declared.datagram.Datagram.TheVariants.{Data, Request, Repair, Session}
use Rattle.srm_codec.specs.Spelling.{is_session, is_farewell}
use Rattle.srm_entries.specs.Configs.{Config}
use Rattle.srm_entries.specs.declared.entry.Entry.{Entry}
use Rattle.srm_entries.specs.Entries.{done, ticked, state, is_gone, is_leaving, is_held, known, last_moment}
use Rattle.srm_entries.specs.Sessions.{charged, session_interval, session_due_after, session_due, all_data_sent, EndsWith, IsSessionMessage}
use Rattle.srm_entries.specs.declared.limits.TheConstants.{SHORTEST_INTERVAL}
use Rattle.srm_entries.specs.Runs.{EntryRight, expected_state}
use Rattle.srm_entries.proofs.SessionMessages.{message_sent, hearer_knows}
use Rattle.srm_entries.proofs.Showing.{state-snoc, held_is_shown, known_has}
use Rattle.srm_entries.proofs.Spending.{tick_is_last}
use Rattle.srm_world.specs.declared.start.Start.{Start}
use Rattle.srm_world.specs.Traces.{Trace, of_member}
use Rattle.srm_world.proofs.Holding.{held_under}
use Rattle.srm_recovery.specs.Timing.{Timing, settling_time, repair_time, sharing_time}
use Rattle.srm_recovery.specs.Members.{EntryWithin, Stays, AcceptsWithin, KnowsBy, HoldsBy}
use Rattle.srm_recovery.specs.Network.{OwesBy, Tells}
use Rattle.srm_recovery.specs.Recovery.{SharingLaw}
use Rattle.srm_recovery.proofs.Ordering.{tick_moves, right_at, rising, last_of_split, last_more, floor, Own, own_of}
use Rattle.srm_recovery.proofs.Asking.{present_at, true_false}
use Rattle.srm_recovery.proofs.Sharing.{sends_ticks, held_later}
use Rattle.srm_recovery.proofs.Recovering.{holds_by_later, recovery_law}

-- a session message that a member sent, at a moment from one up to another
pub record Reports (t : Trace) (p : Timing) (k : ℕ) (from to : ℕ) : Type 0 where
  pub at : EntryWithin t p k from to
  pub message : Datagram
  pub sent : Has message at.this.effects.outs
  pub session : is_session message ≡ true

-- a tick at which one is due ends with one
due_sends : (c : Config) (made : ℕ) (before : List Entry) (e : Entry) → EntryRight c made (record { before = before; this = e }) → ticked e ≡ true → is_gone (state before) ≡ false
    → nat_le (session_due c made before) e.moment ≡ true → (g : Datagram) × Has g e.effects.outs × (is_session g ≡ true)
due_sends c made before e r t g d = go (is_leaving (state before) && all_data_sent (before ++ e ∷ [])) refl
  where
    session_of : (f : Bool) (x : Datagram) → IsSessionMessage c before e.moment f x → is_session x ≡ true
    session_of f (Data y) is = absurd is
    session_of f (Request s n m) is = absurd is
    session_of f (Repair s y) is = absurd is
    session_of f (Session a b w s rows echoes) is = refl

    from_end : (f : Bool) → EndsWith c before e (Some f) → (g : Datagram) × Has g e.effects.outs × (is_session g ≡ true)
    from_end f (x, outs, is) = (x, subst (λ w. Has x w) (sym outs) (Has-back x (charged e) (x ∷ []) (inl refl)), session_of f x is)

    go : (b : Bool) → (is_leaving (state before) && all_data_sent (before ++ e ∷ [])) ≡ b → (g : Datagram) × Has g e.effects.outs × (is_session g ≡ true)
    go b q = from_end b (subst (EndsWith c before e)
        (ap (λ x. if not x || is_gone (state before) then None else if is_leaving (state before) && all_data_sent (before ++ e ∷ []) then Some true else if nat_le (session_due c made before) e.moment then Some false else None) t
        ∙ ap (λ x. if x then None else if is_leaving (state before) && all_data_sent (before ++ e ∷ []) then Some true else if nat_le (session_due c made before) e.moment then Some false else None) g
        ∙ ap (λ x. if x then Some true else if nat_le (session_due c made before) e.moment then Some false else None) q
        ∙ ap (λ x. if b then Some true else if x then Some false else None) d ∙ either b) r.session)
      where
        either : (b : Bool) → (if b then Some true else Some false) ≡ Some b
        either true = refl
        either false = refl

-- a member whose next one is due by a time sends it by the tick behind
reports_in_time : (t : Trace) (p : Timing) (k : ℕ) (o : Own t k) → (longest from to : ℕ) → OwesBy t p k from (from + longest) → EntryWithin t p k 0 from
    → (tick : EntryWithin t p k (from + longest + 1) to) → is_gone (state tick.before) ≡ false → ticked tick.this ≡ true → Reports t p k (from + 1) to
reports_in_time t p k o longest from to due early tick here ticks = which (nat_le (session_due c made tick.before) tick.this.moment) refl
  where
    c : Config
    c = o.start.config

    made : ℕ
    made = o.start.made

    es : List Entry
    es = of_member k t.entries

    all : AllByRecursion (EntryRight c made) (steps es)
    all = o.run.each

    right : EntryRight c made (record { before = tick.before; this = tick.this })
    right = right_at c made es tick.before tick.after tick.this all tick.split

    due_by : (before after : List Entry) → es ≡ before ++ after → p.clock k + last_moment made before ≤ from → p.clock k + session_due c made before ≤ from + longest
    due_by = All-Has (λ (a : Start). a.config.me ≡ k → (before after : List Entry) → of_member k t.entries ≡ before ++ after → p.clock k + last_moment a.made before ≤ from → p.clock k + session_due a.config a.made before ≤ from + longest)
        o.start t.starts due o.has o.me

    none_yet : last_of (session_due_after c) (steps tick.before) ≡ None → tick.this.moment < session_due c made tick.before → ⊥
    none_yet q late =
        let same : session_due c made tick.before ≡ session_due c made [] = ap (λ o. unwrap_or o (made + SHORTEST_INTERVAL)) q in
        let low : last_moment made [] ≤ last_moment made early.before = last_more made [] early.before in
        let at : last_moment made early.before ≤ early.this.moment = floor c made early.before early.this (right_at c made es early.before early.after early.this all early.split) in
        let by : p.clock k + early.this.moment ≤ from = early.not_after in
        let tick_low : from + longest + 1 ≤ p.clock k + tick.this.moment = tick.not_before in
        let first : p.clock k + session_due c made [] ≤ from + longest = due_by [] es refl (omega arith) in
        omega arith

    last_one : (due : ℕ) → last_of (session_due_after c) (steps tick.before) ≡ Some due → tick.this.moment < session_due c made tick.before → Reports t p k (from + 1) to
    last_one due q late =
        let (one, s, two, at, is) = last_of_split (session_due_after c) (steps tick.before) due q in
        let there : Has s (steps tick.before) = subst (λ w. Has s w) (sym at) (Has-back s one (s ∷ two) (inl refl)) in
        let (rest, e) = Has-step_split s [] tick.before there in
        let (g, found) = found_in s due is in
        let f = find-Has is_session s.this.effects.outs g found in
        let split : es ≡ s.before ++ s.this ∷ (rest ++ tick.this ∷ tick.after) = tick.split ∙ ap (λ w. w ++ tick.this ∷ tick.after) e ∙ append_assoc s.before (s.this ∷ rest) (tick.this ∷ tick.after) in
        let sets = right_at c made es s.before (rest ++ tick.this ∷ tick.after) s.this all split in
        let sent_at : ticked s.this ≡ true = sends_ticks c made es s.before (rest ++ tick.this ∷ tick.after) s.this g o.run split f.0 in
        let moment : last_moment made (s.before ++ s.this ∷ []) ≡ s.this.moment = tick_is_last c made s.before s.this sets sent_at in
        let then_due : session_due c made (s.before ++ s.this ∷ []) ≡ due =
        ap (λ o. unwrap_or o (made + SHORTEST_INTERVAL)) (ap (last_of (session_due_after c)) (steps-snoc s.before s.this) ∙ last_of-snoc (session_due_after c) (steps s.before) s
        ∙ ap (λ o. or_else o (last_of (session_due_after c) (steps s.before))) is) in
        let now_due : session_due c made tick.before ≡ due = ap (λ o. unwrap_or o (made + SHORTEST_INTERVAL)) q in
        let up : s.this.moment ≤ tick.this.moment = rising c made es all s.before s.this rest tick.this tick.after (tick.split ∙ ap (λ w. w ++ tick.this ∷ tick.after) e) (tick_moves c made s.before s.this sets sent_at) in
        let tick_low : from + longest + 1 ≤ p.clock k + tick.this.moment = tick.not_before in
        let tick_high : p.clock k + tick.this.moment ≤ to = tick.not_after in
        elim (cases_lt from (p.clock k + s.this.moment)) [
          | inl later ↦ record {
            at = record { before = s.before; this = s.this; after = rest ++ tick.this ∷ tick.after; split = split; not_before = omega arith; not_after = omega arith };
            message = g;
            sent = f.0;
            session = f.1;
          }
          | inr sooner ↦ (let bound : p.clock k + session_due c made (s.before ++ s.this ∷ []) ≤ from + longest =
              due_by (s.before ++ s.this ∷ []) (rest ++ tick.this ∷ tick.after) (split ∙ sym (append_assoc s.before (s.this ∷ []) (rest ++ tick.this ∷ tick.after))) (omega arith) in
              absurd (omega arith))
        ]
      where
        found_in : (s : Step Entry) (due : ℕ) → session_due_after c s ≡ Some due → (g : Datagram) × (find is_session s.this.effects.outs ≡ Some g)
        found_in s due is = go (find is_session s.this.effects.outs) refl is
          where
            go : (o : Option Datagram) → find is_session s.this.effects.outs ≡ o → option_map (λ g. s.this.moment + session_interval c s.before g) o ≡ Some due → (g : Datagram) × (find is_session s.this.effects.outs ≡ Some g)
            go None q e = absurd (none-some due e)
            go (Some g) q e = (g, q)

    which : (b : Bool) → nat_le (session_due c made tick.before) tick.this.moment ≡ b → Reports t p k (from + 1) to
    which true d =
        let (g, has, is) = due_sends c made tick.before tick.this right ticks here d in
        let tick_low : from + longest + 1 ≤ p.clock k + tick.this.moment = tick.not_before in
        record { at = record { before = tick.before; this = tick.this; after = tick.after; split = tick.split; not_before = omega arith; not_after = tick.not_after }; message = g; sent = has; session = is }
    which false d = go (last_of (session_due_after c) (steps tick.before)) refl
      where
        late : tick.this.moment < session_due c made tick.before
        late = above tick.this.moment (session_due c made tick.before) d
          where
            above : (a b : ℕ) → nat_le b a ≡ false → a < b
            above a b e = grind (arith, nat_tests)

        go : (o : Option ℕ) → last_of (session_due_after c) (steps tick.before) ≡ o → Reports t p k (from + 1) to
        go None q = absurd (none_yet q late)
        go (Some due) q = last_one due q late

-- who stays sends no farewell
no_farewell : (t : Trace) (p : Timing) (k : ℕ) (o : Own t k) (from to : ℕ) → Stays t p k to → (h : EntryWithin t p k from to) (g : Datagram) → Has g h.this.effects.outs → is_farewell g ≡ true → ⊥
no_farewell t p k o from to stays h g sent fare =
    let right = right_at o.start.config o.start.made (of_member k t.entries) h.before h.after h.this o.run.each h.split in
    let after : is_gone (state (h.before ++ h.this ∷ [])) ≡ false = stays.present (record { before = h.before; this = h.this; after = h.after; split = h.split; not_before = omega arith; not_after = h.not_after }) in
    let any : list_any is_farewell h.this.effects.outs ≡ true = list_any-Has is_farewell g h.this.effects.outs sent fare in
    let gone : is_gone (state (h.before ++ h.this ∷ [])) ≡ true = ap is_gone (state-snoc h.before h.this ∙ right.state) ∙ ap (λ b. is_gone (expected_state (state h.before) b (done h.this))) any in
    true_false (is_gone (state (h.before ++ h.this ∷ []))) gone after

-- whoever accepts it knows of what its sender held
told : (t : Trace) (p : Timing) (from to lim reporting : ℕ) (m k : ℕ) (o : Own t k) (n : FullName) → Stays t p k to → Tells (AcceptsWithin t p) t p n.stream.page reporting k m from to → 1 ≤ n.number → HoldsBy t p k n from
    → (r : Reports t p k (from + 1) lim) → lim + p.delay ≤ to → KnowsBy t p m n (lim + p.delay)
told t p from to lim reporting m k o n stays tells one holds r limit = said r.message refl
  where
    c : Config
    c = o.start.config

    made : ℕ
    made = o.start.made

    es : List Entry
    es = of_member k t.entries

    e : Entry
    e = r.at.this

    before : List Entry
    before = r.at.before

    low : from + 1 ≤ p.clock k + r.at.this.moment
    low = r.at.not_before

    high : p.clock k + r.at.this.moment ≤ lim
    high = r.at.not_after

    right : EntryRight c made (record { before = before; this = e })
    right = right_at c made es before r.at.after e o.run.each r.at.split

    ticks : ticked e ≡ true
    ticks = sends_ticks c made es before r.at.after e r.message o.run r.at.split r.sent

    past : AllByRecursion (EntryRight c made) (steps before)
    past = (at_parts (EntryRight c made) before (e ∷ r.at.after) (subst (λ w. AllByRecursion (EntryRight c made) (steps w)) r.at.split o.run.each)).0

    known_then : n.number ≤ known before n.stream
    known_then =
        let held : is_held before n ≡ true = held_later t p k o n from lim holds r.at (tick_moves c made before e right ticks) in
        let (d, at) = held_under before n held in
        subst (λ (x : FullName). x.number ≤ known before x.stream) at.name (known_has before d.name (held_is_shown before d at.has))

    inside : nat_le c.members c.me ≡ false
    inside = below c.members c.me k (length t.starts) o.members o.me stays.inside
      where
        below : (a b n many : ℕ) → a ≡ many → b ≡ n → n < many → nat_le a b ≡ false
        below a b n many p q l = grind (arith, nat_tests)

    not_farewell : (g : Datagram) → r.message ≡ g → is_farewell g ≡ true → ⊥
    not_farewell g q f =
        no_farewell t p k o (from + 1) to stays (record { before = before; this = e; after = r.at.after; split = r.at.split; not_before = low; not_after = omega arith }) r.message r.sent (ap is_farewell q ∙ f)

    not_session : (g : Datagram) → r.message ≡ g → is_session g ≡ false → ⊥
    not_session g q f = true_false (is_session r.message) r.session (ap is_session q ∙ f)

    said : (g : Datagram) → r.message ≡ g → KnowsBy t p m n (lim + p.delay)
    said (Data d) q = absurd (not_session (Data d) q refl)
    said (Request s f w) q = absurd (not_session (Request s f w) q refl)
    said (Repair s d) q = absurd (not_session (Repair s d) q refl)
    said (Session sender sent true page rows echoes) q = absurd (not_farewell (Session sender sent true page rows echoes) q refl)
    said (Session sender sent false page rows echoes) q =
        let out : Has (Session sender sent false page rows echoes) e.effects.outs = subst (λ w. Has w e.effects.outs) q r.sent in
        let says = message_sent c made before e sender sent page rows echoes right out in
        let on : page ≡ n.stream.page = says.on_page ∙ tells.shows (record { before = before; this = e; after = r.at.after; split = r.at.split; not_before = low; not_after = omega arith }) in
        let (a, accepts) = tells.carried (record { before = before; this = e; after = r.at.after; split = r.at.split; not_before = omega arith; not_after = omega arith }) (Session sender sent false page rows echoes) refl
        (Has-Contains (Session sender sent false page rows echoes) e.effects.outs out) (omega arith) in
        let knows : known before (stream_on n.stream.source page) ≤ known (a.before ++ a.this ∷ []) (stream_on n.stream.source page) =
        hearer_knows c made before e n.stream.source sender sent page rows echoes (a.before ++ a.this ∷ []) a.this inside past says (Has-back a.this a.before (a.this ∷ []) (inl refl)) accepts in
        let of_n : known before n.stream ≤ known (a.before ++ a.this ∷ []) n.stream = subst (λ w. known before (stream_on n.stream.source w) ≤ known (a.before ++ a.this ∷ []) (stream_on n.stream.source w)) on knows in
        let k_low : n.number ≤ known before n.stream = known_then in
        let a_high : p.clock m + a.this.moment ≤ p.clock k + e.moment + p.delay = a.not_after in
        (one, record { before = a.before; this = a.this; after = a.after; split = a.split; not_before = omega arith; not_after = omega arith }, omega arith)

knows_by_later : (t : Trace) (p : Timing) (m : ℕ) (n : FullName) (now later : ℕ) → now ≤ later → KnowsBy t p m n now → KnowsBy t p m n later
knows_by_later t p m n now later l (one, h, known) =
    let a : p.clock m + h.this.moment ≤ now = h.not_after in
    (one, record { before = h.before; this = h.this; after = h.after; split = h.split; not_before = h.not_before; not_after = omega arith }, known)

pub sharing_law : SharingLaw
sharing_law t p reporting asking from to m k n run good tells waits limit one holds =
    let o : Own t k = own_of t k run good.holder.stays.inside in
    let (tick, ticks) = good.holder.ticks (from + reporting) (omega arith) (omega arith) in
    let here : is_gone (state tick.before) ≡ false = present_at t p k o (from + reporting + 1) to good.holder.stays
    (record { before = tick.before; this = tick.this; after = tick.after; split = tick.split; not_before = tick.not_before; not_after = (let l = tick.not_after in omega arith) }) in
    let r = reports_in_time t p k o reporting from (from + reporting + p.tick) tells.due holds.0 tick here ticks in
    let knows = told t p from to (from + reporting + p.tick) reporting m k o n good.holder.stays tells one holds r (omega arith) in
    let now : ℕ = from + max (settling_time p) (reporting + p.tick + p.delay) in
    holds_by_later t p m n (now + repair_time p asking) (from + sharing_time p reporting asking) (omega arith)
    (recovery_law t p from now to m k n asking run good
    (λ h a q. waits (record { before = h.before; this = h.this; after = h.after; split = h.split; not_before = h.not_before; not_after = (let l = h.not_after in omega arith) }) a q)
    (omega arith) (omega arith) holds
    (knows_by_later t p m n (from + reporting + p.tick + p.delay) now (omega arith) knows))
