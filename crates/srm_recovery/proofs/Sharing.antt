-- What a member hands in, or hears, reaches another one, where the network connects the two.
use Rattle.std.proofs.Common.{◌≡◌, ℕ, ◌+◌, ◌-◌, ◌≤◌, ◌<◌, Bool, true, false, not, ◌||◌, List, [], ◌∷◌, ◌++◌, map, refl, ap, sym, ◌∙◌, subst, arith, inl, inr, append_assoc}
use Rattle.std.specs.Prelude.{◌⊎◌, Option, Some, None, if◌then◌else◌, is_some, option_map, option_to_list}
use Rattle.std.specs.List.{filter_map, cons_option, AllByRecursion}
use Rattle.std.proofs.lemmas.List.{append_cancel_left}
use Rattle.srm_names.specs.declared.drawop.Drawop.{Drawop}
use Rattle.srm_names.specs.FullName.{FullName}
use Rattle.srm_names.specs.Histories.{Step, steps, steps_after}
use Rattle.srm_names.specs.Names.{among, same_name}
use Rattle.srm_names.proofs.Lists.{Has, Has-append, Has-front, Has-back, Has-map, map-Has, Has-filter, Has-kept, flat_map-Has, Has-contained, Has-Contains, any_Has, list_any-Has, at_parts, All-Has}
use Rattle.srm_names.proofs.Same.{same_name-is, same_name-itself}
use Rattle.srm_codec.specs.declared.datagram.Datagram.{Datagram}
use Rattle.srm_codec.specs.declared.datagram.Datagram.TheVariants.{Data, Request, Repair, Session}
use Rattle.srm_codec.specs.Spelling.{asked_by, is_session}
use Rattle.srm_bucket.specs.Calls.{Classed}
use Rattle.srm_store.specs.Held.{has_name}
use Rattle.srm_entries.specs.Configs.{Config}
use Rattle.srm_entries.specs.declared.entry.Entry.{Entry}
use Rattle.srm_entries.specs.Entries.{accepted, ticked, is_held, held, held_by, held_at, drawops_in, shown}
use Rattle.srm_entries.specs.Timers.{asker_in, asks_for, repairs_in}
use Rattle.srm_entries.specs.Sessions.{charged}
use Rattle.srm_entries.specs.Packing.{packed}
use Rattle.srm_entries.specs.Bucket.{BucketRight, repair_for, requests_and_repairs, data_item, due_item, handed_in_by}
use Rattle.srm_entries.specs.Runs.{EntryRight, IsMemberRun}
use Rattle.srm_entries.proofs.Cutting.{run_part}
use Rattle.srm_entries.proofs.Sending.{repair_sent_was_held}
use Rattle.srm_entries.proofs.Silence.{unticked_sends_nothing}
use Rattle.srm_world.specs.Traces.{Trace, of_member}
use Rattle.srm_world.proofs.Holding.{held_under}
use Rattle.srm_recovery.specs.Timing.{Timing, time_of}
use Rattle.srm_recovery.specs.Members.{EntryWithin, KeepsUp, AcceptsWithin, SendsWithin, HoldsBy, nothing_waits}
use Rattle.srm_recovery.specs.Network.{Carries, Reaches, requests, repairs}
use Rattle.srm_recovery.proofs.Ordering.{tail_same, Moves, tick_moves, right_at, comes_before, spanned, later_step, Own}
use Rattle.srm_recovery.proofs.Packing.{requested, asked_only}
use Rattle.srm_recovery.proofs.Emptying.{goes_on, handed_since}
use Rattle.srm_recovery.proofs.Asking.{AsksOrHears, held_more, asked_what, ask_ticks, ask_misses, true_false}
use Rattle.srm_recovery.proofs.Repairing.{Repairs, fix_ticks}

-- who sends ticks

pub run_to : (c : Config) (made : ℕ) (es before after : List Entry) (e : Entry) → IsMemberRun c made es → es ≡ before ++ e ∷ after → IsMemberRun c made (before ++ e ∷ [])
run_to c made es before after e run q = run_part c made (before ++ e ∷ []) after (subst (λ w. IsMemberRun c made w) (q ∙ sym (append_assoc before (e ∷ []) after)) run)

pub sends_ticks : (c : Config) (made : ℕ) (es before after : List Entry) (e : Entry) (g : Datagram) → IsMemberRun c made es → es ≡ before ++ e ∷ after → Has g e.effects.outs → ticked e ≡ true
sends_ticks c made es before after e g run q h = go (ticked e) refl
  where
    go : (b : Bool) → ticked e ≡ b → b ≡ true
    go true k = refl
    go false k = absurd (subst (λ w. Has g w) (unticked_sends_nothing c made before e (run_to c made es before after e run q) k) h)

-- a name that is held by a moment is held at each later entry that moves the clock
pub held_later : (t : Trace) (p : Timing) (k : ℕ) (o : Own t k) (n : FullName) (now to : ℕ) → HoldsBy t p k n now → (h : EntryWithin t p k (now + 1) to) → Moves o.start.made h.before h.this → is_held h.before n ≡ true
held_later t p k o n now to (holds, held) h moves =
    let (mid, q) = comes_before o.start.config o.start.made (of_member k t.entries) o.run.each h.before h.this h.after holds.before holds.this holds.after h.split holds.split moves
    (let a = holds.not_after in let b = h.not_before in omega arith) in
    subst (λ w. is_held w n ≡ true) (append_assoc holds.before (holds.this ∷ []) mid ∙ sym q) (held_more (holds.before ++ holds.this ∷ []) mid n held)

-- an arrival: the datagram was handed in at x, went at y, by an emptying at z
not_sooner : (lag x y b : ℕ) → x ≤ y → lag + y ≤ b → lag + x ≤ b
not_sooner lag x y b l u = omega arith

not_later : (lag x y z b emptying delay : ℕ) → y ≤ z → lag + z ≤ lag + x + emptying → b ≤ lag + y + delay → b ≤ lag + x + emptying + delay
not_later lag x y z b emptying delay l u w = omega arith

-- What a member hands in of a kind that the network carries to another one, that one accepts.
pub handed_reaches : (t : Trace) (p : Timing) (from to : ℕ) (kind : Datagram → Bool) (m k : ℕ) (o : Own t m) → KeepsUp t p m from to → Carries (AcceptsWithin t p) t p kind m k from to
    → (x : EntryWithin t p m from to) → Moves o.start.made x.before x.this
    → (i : Classed Datagram) → Has i (handed_in_by o.start.config.me (record { before = x.before; this = x.this })) → kind i.item.value ≡ true → time_of p m x.this + p.emptying + p.delay ≤ to
    → AcceptsWithin t p k i.item.value (time_of p m x.this) (time_of p m x.this + p.emptying + p.delay)
handed_reaches t p from to kind m k o goes carries x moves i h is limit =
    let c : Config = o.start.config in
    let made : ℕ = o.start.made in
    let es : List Entry = of_member m t.entries in
    let (z, ticks, none) = goes.empties (time_of p m x.this) x.not_before (omega arith) in
    let z_moves : Moves made z.before z.this = tick_moves c made z.before z.this (right_at c made es z.before z.after z.this o.run.each z.split) ticks in
    let (mid, q) = comes_before c made es o.run.each z.before z.this z.after x.before x.this x.after z.split x.split z_moves (let l = z.not_before in omega arith) in
    let parts : z.before ++ z.this ∷ [] ≡ x.before ++ (x.this ∷ (mid ++ z.this ∷ [])) = ap (λ w. w ++ z.this ∷ []) q ∙ append_assoc x.before (x.this ∷ mid) (z.this ∷ []) in
    let bucket : BucketRight c (x.before ++ (x.this ∷ (mid ++ z.this ∷ []))) = subst (λ w. BucketRight c w) parts (run_to c made es z.before z.after z.this o.run z.split).bucket in
    let empty : nothing_waits c.me (x.before ++ (x.this ∷ (mid ++ z.this ∷ []))) ≡ true = ap (λ w. nothing_waits w (x.before ++ (x.this ∷ (mid ++ z.this ∷ [])))) o.me ∙ ap (nothing_waits m) (sym parts) ∙ none in
    let (y, inside, went) = goes_on c x.before (x.this ∷ (mid ++ z.this ∷ [])) bucket empty (record { before = x.before; this = x.this }) (inl refl) i h in
    let out : Has i.item.value y.effects.outs = Has-filter (λ (g : Datagram). not (is_session g)) i.item.value y.effects.outs went in
    let at = spanned c made es o.run.each x.before x.this mid z.this z.after (z.split ∙ ap (λ w. w ++ z.this ∷ z.after) q) moves y inside
    (λ before rest e. tick_moves c made before y (right_at c made es before rest y o.run.each e) (sends_ticks c made es before rest y i.item.value o.run e out)) in
    let first : from ≤ p.clock m + x.this.moment = x.not_before in
    let low : x.this.moment ≤ y.moment = at.not_before in
    let high : y.moment ≤ z.this.moment = at.not_after in
    let end : p.clock m + z.this.moment ≤ p.clock m + x.this.moment + p.emptying = z.not_after in
    let sends : EntryWithin t p m from to = record { before = at.before; this = y; after = at.after; split = at.split; not_before = omega arith; not_after = omega arith } in
    let (a, accepts) = carries sends i.item.value is (Has-Contains i.item.value y.effects.outs out) (omega arith) in
    let a_low : p.clock m + y.moment ≤ p.clock k + a.this.moment = a.not_before in
    let a_high : p.clock k + a.this.moment ≤ p.clock m + y.moment + p.delay = a.not_after in (
      record {
        before = a.before;
        this = a.this;
        after = a.after;
        split = a.split;
        not_before = not_sooner (p.clock m) x.this.moment y.moment (p.clock k + a.this.moment) low a_low;
        not_after = not_later (p.clock m) x.this.moment y.moment z.this.moment (p.clock k + a.this.moment) p.emptying p.delay high end a_high;
      },
      accepts,
    )

-- a repair that is accepted is held

accepted_held : (n : FullName) (s : ℕ) (d : Drawop) (before : List Entry) (e : Entry) → accepted e ≡ Some (Repair s d) → same_name n d.name ≡ true → is_held (before ++ e ∷ []) n ≡ true
accepted_held n s d before e q same =
    let here : Has d (drawops_in (accepted e)) = subst (λ o. Has d (drawops_in o)) (sym q) (inl refl) in
    let by : Has d (held_by e) = Has-back d (option_to_list e.effects.drawn) (drawops_in (accepted e)) here in
    held_has n d (before ++ e ∷ []) (flat_map-Has held_by d e (before ++ e ∷ []) (Has-back e before (e ∷ []) (inl refl)) by) (same_name-is n d.name same)
  where
    held_has : (n : FullName) (d : Drawop) (es : List Entry) → Has d (held es) → n ≡ d.name → is_held es n ≡ true
    held_has n d es h e = list_any-Has (has_name n) d (held es) h (subst (λ w. same_name d.name w ≡ true) (sym e) (same_name-itself d.name))

repaired_what : (n : FullName) (o : Option Datagram) → repairs_in n o ≡ true → (s : ℕ) × (d : Drawop) × (o ≡ Some (Repair s d)) × (same_name n d.name ≡ true)
repaired_what n None e = absurd (cc)
repaired_what n (Some (Data d)) e = absurd (cc)
repaired_what n (Some (Request s first mask)) e = absurd (cc)
repaired_what n (Some (Repair s d)) e = (s, d, refl, e)
repaired_what n (Some (Session a b f p r x)) e = absurd (cc)

filter_map-Has : {X Y : Type 0} (f : X → Option Y) (x : X) (y : Y) (xs : List X) → Has x xs → f x ≡ Some y → Has y (filter_map f xs)
filter_map-Has f x y [] h e = absurd h
filter_map-Has f x y (z ∷ xs) (inl q) e = subst (λ o. Has y (cons_option o (filter_map f xs))) (sym (ap f (sym q) ∙ e)) (inl refl)
filter_map-Has {X = X} {Y = Y} f x y (z ∷ xs) (inr h) e = go (f z) (filter_map-Has f x y xs h e)
  where
    go : (o : Option Y) → Has y (filter_map f xs) → Has y (cons_option o (filter_map f xs))
    go None k = k
    go (Some w) k = inr k

pub among_Has : (names : List FullName) (n : FullName) → among names n ≡ true → Has n names
among_Has names n a = let (x, h, e) = any_Has (same_name n) names a in subst (λ w. Has w names) (sym (same_name-is n x e)) h

-- A repair that a holder makes or hears, the other member holds.
pub repair_reaches : (t : Trace) (p : Timing) (from to lim : ℕ) (m k : ℕ) (n : FullName) → Own t m → (o : Own t k) → KeepsUp t p k from to → Reaches (AcceptsWithin t p) t p (repairs n) k m from to
    → (r : Repairs t p k n (from + p.delay) lim) → is_held r.at.before n ≡ true → lim + p.emptying + p.delay ≤ to → HoldsBy t p m n (lim + p.emptying + p.delay)
repair_reaches t p from to lim m k n om o goes reaches r holds limit = go (repairs_in n (accepted r.at.this)) refl
  where
    c : Config
    c = o.start.config

    low : from + p.delay ≤ p.clock k + r.at.this.moment
    low = r.at.not_before

    high : p.clock k + r.at.this.moment ≤ lim
    high = r.at.not_after

    right : EntryRight c o.start.made (record { before = r.at.before; this = r.at.this })
    right = right_at c o.start.made (of_member k t.entries) r.at.before r.at.after r.at.this o.run.each r.at.split

    holding : (s : ℕ) (d : Drawop) (g : ℕ) (till : ℕ) → till ≤ lim + p.emptying + p.delay → same_name n d.name ≡ true → AcceptsWithin t p m (Repair s d) g till → HoldsBy t p m n (lim + p.emptying + p.delay)
    holding s d g till l same (a, accepts) =
        let end : p.clock m + a.this.moment ≤ till = a.not_after in
        (record { before = a.before; this = a.this; after = a.after; split = a.split; not_before = omega arith; not_after = omega arith }, accepted_held n s d a.before a.this accepts same)

    -- who sends a repair holds the name
    sending : (s : ℕ) (d : Drawop) (lo : ℕ) → same_name n d.name ≡ true → SendsWithin t p m (Repair s d) lo (time_of p k r.at.this) → HoldsBy t p m n (lim + p.emptying + p.delay)
    sending s d lo same (x, sent) =
        let out : Has (Repair s d) x.this.effects.outs = Has-contained (Repair s d) x.this.effects.outs sent in
        let run = run_to om.start.config om.start.made (of_member m t.entries) x.before x.after x.this om.run x.split in
        let was : Has d (held (x.before ++ x.this ∷ [])) = repair_sent_was_held om.start.config (x.before ++ x.this ∷ []) s d run.bucket
        (flat_map-Has charged (Repair s d) x.this (x.before ++ x.this ∷ []) (Has-back x.this x.before (x.this ∷ []) (inl refl)) (Has-kept (λ (g : Datagram). not (is_session g)) (Repair s d) x.this.effects.outs refl out)) in
        let end : p.clock m + x.this.moment ≤ p.clock k + r.at.this.moment = x.not_after in
        let is : is_held (x.before ++ x.this ∷ []) n ≡ true = list_any-Has (has_name n) d (held (x.before ++ x.this ∷ [])) was
        (subst (λ w. same_name d.name w ≡ true) (sym (same_name-is n d.name same)) (same_name-itself d.name)) in
        (record { before = x.before; this = x.this; after = x.after; split = x.split; not_before = omega arith; not_after = omega arith }, is)

    made : among r.at.this.effects.fixes n ≡ true → HoldsBy t p m n (lim + p.emptying + p.delay)
    made a =
        let (d, at) = held_under r.at.before n holds in
        let g : Datagram = Repair c.me d in
        let repair : Has g (filter_map (repair_for c.me r.at.before) r.at.this.effects.fixes) =
        filter_map-Has (repair_for c.me r.at.before) n g r.at.this.effects.fixes (among_Has r.at.this.effects.fixes n a) (ap (option_map (Repair c.me)) at.at) in
        let item : Has (due_item (shown r.at.before) g) (handed_in_by c.me (record { before = r.at.before; this = r.at.this })) =
        Has-back (due_item (shown r.at.before) g) (data_item r.at.this.effects.drawn) (map (due_item (shown r.at.before)) (requests_and_repairs c.me (record { before = r.at.before; this = r.at.this })))
        (map-Has (due_item (shown r.at.before)) g (requests_and_repairs c.me (record { before = r.at.before; this = r.at.this }))
        (Has-back g (packed c.me r.at.this.effects.asks) (filter_map (repair_for c.me r.at.before) r.at.this.effects.fixes) repair)) in
        let mine : same_name n d.name ≡ true = subst (λ w. same_name n w ≡ true) (sym at.name) (same_name-itself n) in
        holding c.me d (time_of p k r.at.this) (time_of p k r.at.this + p.emptying + p.delay) (omega arith) mine
        (handed_reaches t p from to (repairs n) k m o goes reaches.sent (record { before = r.at.before; this = r.at.this; after = r.at.after; split = r.at.split; not_before = omega arith; not_after = omega arith })
        (tick_moves c o.start.made r.at.before r.at.this right (fix_ticks c o.start.made r.at.before r.at.this n right a)) (due_item (shown r.at.before) g) item mine (omega arith))

    go : (b : Bool) → repairs_in n (accepted r.at.this) ≡ b → HoldsBy t p m n (lim + p.emptying + p.delay)
    go true h =
        let (s, d, q, same) = repaired_what n (accepted r.at.this) h in
        elim (reaches.heard (record { before = r.at.before; this = r.at.this; after = r.at.after; split = r.at.split; not_before = low; not_after = omega arith }) (Repair s d) same q (omega arith)) [
          | inl sends ↦ (let (y, sent) = sends in sending s d 0 same (record { before = y.before; this = y.this; after = y.after; split = y.split; not_before = omega arith; not_after = y.not_after }, sent))
          | inr accepts ↦ holding s d (time_of p k r.at.this - p.delay) (time_of p k r.at.this + p.delay) (omega arith) same accepts
        ]
    go false h = made (sym (ap (λ b. b || among r.at.this.effects.fixes n) h) ∙ r.does)

-- A holder sends no request for the name, once what it had asked for before has gone.

pub request_from_step : (me s mask : ℕ) (first : FullName) (t : Step Entry) (i : Classed Datagram) → Has i (handed_in_by me t) → i.item.value ≡ Request s first mask → Has (Request s first mask) (packed me t.this.effects.asks)
request_from_step me s mask first t i h e = elim (Has-append i (data_item t.this.effects.drawn) (map (due_item (shown t.before)) (requests_and_repairs me t)) h) [
  | inl l ↦ absurd (of_data t.this.effects.drawn l)
  | inr r ↦ of_these (Has-map (due_item (shown t.before)) i (requests_and_repairs me t) r)
]
  where
    of_data : (o : Option Drawop) → Has i (data_item o) → ⊥
    of_data None k = k
    of_data (Some d) (inl q) = let x : i.item.value ≡ Data d = ap (λ (j : Classed Datagram). j.item.value) q in cc
    of_data (Some d) (inr k) = k

    no_repair : (fixes : List FullName) → Has (Request s first mask) (filter_map (repair_for me t.before) fixes) → ⊥
    no_repair [] k = k
    no_repair (n ∷ ns) k = of (held_at t.before n) k (no_repair ns)
      where
        of : (o : Option Drawop) → Has (Request s first mask) (cons_option (option_map (Repair me) o) (filter_map (repair_for me t.before) ns)) → (Has (Request s first mask) (filter_map (repair_for me t.before) ns) → ⊥) → ⊥
        of None k more = more k
        of (Some d) (inl q) more = cc
        of (Some d) (inr k) more = more k

    of_these : ((g : Datagram) × Has g (requests_and_repairs me t) × (i ≡ due_item (shown t.before) g)) → Has (Request s first mask) (packed me t.this.effects.asks)
    of_these (g, k, q) =
        let same : g ≡ Request s first mask = sym (ap (λ (j : Classed Datagram). j.item.value) q) ∙ e in
        elim (Has-append (Request s first mask) (packed me t.this.effects.asks) (filter_map (repair_for me t.before) t.this.effects.fixes) (subst (λ w. Has w (requests_and_repairs me t)) same k)) [
          | inl l ↦ l
          | inr r ↦ absurd (no_repair t.this.effects.fixes r)
        ]

holder_asks_no_more : (t : Trace) (p : Timing) (from to low high : ℕ) (k : ℕ) (o : Own t k) (n : FullName) → KeepsUp t p k from to → HoldsBy t p k n from → from + p.emptying < low
    → (s mask : ℕ) (first : FullName) → Has n (asked_by first mask) → SendsWithin t p k (Request s first mask) low high → from + p.emptying ≤ to → ⊥
holder_asks_no_more t p from to low high k o n goes holds late s mask first asks (x, sent) inside =
    let out : Has (Request s first mask) x.this.effects.outs = Has-contained (Request s first mask) x.this.effects.outs sent in
    let c : Config = o.start.config in
    let made : ℕ = o.start.made in
    let es : List Entry = of_member k t.entries in
    let (z, ticks, none) = goes.empties from (omega arith) inside in
    let z_moves : Moves made z.before z.this = tick_moves c made z.before z.this (right_at c made es z.before z.after z.this o.run.each z.split) ticks in
    let x_moves : Moves made x.before x.this = tick_moves c made x.before x.this (right_at c made es x.before x.after x.this o.run.each x.split)
    (sends_ticks c made es x.before x.after x.this (Request s first mask) o.run x.split out) in
    let (mid, q) = comes_before c made es o.run.each x.before x.this x.after z.before z.this z.after x.split z.split x_moves (let a = z.not_after in let b = x.not_before in omega arith) in
    let rest : z.after ≡ mid ++ x.this ∷ x.after =
    tail_same (append_cancel_left z.before (z.this ∷ z.after) (z.this ∷ (mid ++ x.this ∷ x.after))
    (sym z.split ∙ x.split ∙ ap (λ w. w ++ x.this ∷ x.after) q ∙ append_assoc z.before (z.this ∷ mid) (x.this ∷ x.after))) in
    let there : Has x.this z.after = subst (λ w. Has x.this w) (sym rest) (Has-back x.this mid (x.this ∷ x.after) (inl refl)) in
    let parts : es ≡ (z.before ++ z.this ∷ []) ++ z.after = z.split ∙ sym (append_assoc z.before (z.this ∷ []) z.after) in
    let empty : nothing_waits c.me (z.before ++ z.this ∷ []) ≡ true = ap (λ w. nothing_waits w (z.before ++ z.this ∷ [])) o.me ∙ none in
    let (st, has, i, item, value) = handed_since c (z.before ++ z.this ∷ []) z.after (subst (λ w. BucketRight c w) parts o.run.bucket) empty x.this there (Request s first mask)
    (Has-kept (λ (g : Datagram). not (is_session g)) (Request s first mask) x.this.effects.outs refl out) in
    let right : EntryRight c made st =
    All-Has (EntryRight c made) st (steps_after (z.before ++ z.this ∷ []) z.after) (at_parts (EntryRight c made) (z.before ++ z.this ∷ []) z.after (subst (λ w. AllByRecursion (EntryRight c made) (steps w)) parts o.run.each)).1 has in
    let asked : among st.this.effects.asks n ≡ true =
    asked_only c.me s mask first n st.this.effects.asks right.timers.asks.in_order (request_from_step c.me s mask first st i item value) asks in
    let (more, e) = later_step st (z.before ++ z.this ∷ []) z.after has in
    let was : is_held z.before n ≡ true = held_later t p k o n from to holds (record { before = z.before; this = z.this; after = z.after; split = z.split; not_before = z.not_before; not_after = (let a = z.not_after in omega arith) }) z_moves in
    let held_then : is_held st.before n ≡ true = subst (λ w. is_held w n ≡ true) (sym e) (held_more (z.before ++ z.this ∷ []) more n (held_more z.before (z.this ∷ []) n was)) in
    true_false (is_held st.before n) held_then (ask_misses c made st.before st.this n right asked)

-- A request that a member makes or hears, a holder hears.
pub request_reaches : (t : Trace) (p : Timing) (from to low lim : ℕ) (m k : ℕ) (n : FullName) → (o : Own t m) → Own t k → KeepsUp t p m from to → KeepsUp t p k from to
    → Reaches (AcceptsWithin t p) t p (requests n) m k from to → from + p.emptying < low → lim + p.emptying + p.delay ≤ to
    → AsksOrHears t p m n (low + p.delay) lim → HoldsBy t p k n from
    → (h : EntryWithin t p k low (lim + p.emptying + p.delay)) × (asks_for n h.this ≡ true)
request_reaches t p from to low lim m k n o ok goes there reaches late limit x holds = go x.does
  where
    c : Config
    c = o.start.config

    start : low + p.delay ≤ p.clock m + x.at.this.moment
    start = x.at.not_before

    end : p.clock m + x.at.this.moment ≤ lim
    end = x.at.not_after

    right : EntryRight c o.start.made (record { before = x.at.before; this = x.at.this })
    right = right_at c o.start.made (of_member m t.entries) x.at.before x.at.after x.at.this o.run.each x.at.split

    -- a request for names, this one among them
    is_for : (s mask : ℕ) (first : FullName) → Has n (asked_by first mask) → requests n (Request s first mask) ≡ true
    is_for s mask first asks = ap (λ b. is_some (if b then Some s else None)) (list_any-Has (same_name n) n (asked_by first mask) asks (same_name-itself n))

    hears : (s mask : ℕ) (first : FullName) (lo till : ℕ) → low ≤ lo → till ≤ lim + p.emptying + p.delay → Has n (asked_by first mask) → AcceptsWithin t p k (Request s first mask) lo till
        → (h : EntryWithin t p k low (lim + p.emptying + p.delay)) × (asks_for n h.this ≡ true)
    hears s mask first lo till l u asks (a, accepts) =
        let a_low : lo ≤ p.clock k + a.this.moment = a.not_before in
        let a_high : p.clock k + a.this.moment ≤ till = a.not_after in
        (record { before = a.before; this = a.this; after = a.after; split = a.split; not_before = omega arith; not_after = omega arith }, ap (λ g. is_some (asker_in n g)) accepts ∙ is_for s mask first asks)

    go : (asks_for n x.at.this ≡ true) ⊎ (among x.at.this.effects.asks n ≡ true) → (h : EntryWithin t p k low (lim + p.emptying + p.delay)) × (asks_for n h.this ≡ true)
    go (inl a) =
        let (s, first, mask, q, inside) = asked_what n (accepted x.at.this) a in
        let asks : Has n (asked_by first mask) = among_Has (asked_by first mask) n inside in
        elim (reaches.heard (record { before = x.at.before; this = x.at.this; after = x.at.after; split = x.at.split; not_before = omega arith; not_after = omega arith }) (Request s first mask) (is_for s mask first asks) q (omega arith)) [
          | inl sends ↦ (let (y, sent) = sends in
              let low_y = y.not_before in
              let high_y : p.clock k + y.this.moment ≤ p.clock m + x.at.this.moment = y.not_after in
              absurd (holder_asks_no_more t p from to (time_of p m x.at.this - p.delay) (time_of p m x.at.this) k ok n there holds (omega arith) s mask first asks
              (record { before = y.before; this = y.this; after = y.after; split = y.split; not_before = omega arith; not_after = high_y }, sent) (omega arith)))
          | inr accepts ↦ hears s mask first (time_of p m x.at.this - p.delay) (time_of p m x.at.this + p.delay) (omega arith) (omega arith) asks accepts
        ]
    go (inr a) =
        let r = requested c.me x.at.this.effects.asks n right.timers.asks.in_order a in
        let g : Datagram = Request c.me r.first r.mask in
        let item : Has (due_item (shown x.at.before) g) (handed_in_by c.me (record { before = x.at.before; this = x.at.this })) =
        Has-back (due_item (shown x.at.before) g) (data_item x.at.this.effects.drawn) (map (due_item (shown x.at.before)) (requests_and_repairs c.me (record { before = x.at.before; this = x.at.this })))
        (map-Has (due_item (shown x.at.before)) g (requests_and_repairs c.me (record { before = x.at.before; this = x.at.this }))
        (Has-front g (packed c.me x.at.this.effects.asks) (filter_map (repair_for c.me x.at.before) x.at.this.effects.fixes) r.has)) in
        hears c.me r.mask r.first (time_of p m x.at.this) (time_of p m x.at.this + p.emptying + p.delay) (omega arith) (omega arith) r.asks
        (handed_reaches t p from to (requests n) m k o goes reaches.sent (record { before = x.at.before; this = x.at.this; after = x.at.after; split = x.at.split; not_before = omega arith; not_after = omega arith })
        (tick_moves c o.start.made x.at.before x.at.this right (ask_ticks c o.start.made x.at.before x.at.this n right a)) (due_item (shown x.at.before) g) item (is_for c.me r.mask r.first r.asks) (omega arith))
