-- The entry of a draw, and what it leaves.
use Rattle.std.proofs.Common.{◌≡◌, ◌≢◌, ℕ, ◌+◌, ◌≤◌, max, Bool, true, false, not, ◌&&◌, ◌||◌, List, [], ◌∷◌, ◌++◌, map, length, refl, ap, sym, ◌∙◌, subst, inl, inr, arith}
use Rattle.std.specs.Prelude.{◌⊎◌, ◌==◌, nat_lt, nat_le, filter, Option, Some, None, if◌then◌else◌, option_map, is_some, Ok, Err, IfSome}
use Rattle.std.specs.List.{flat_map, AllByRecursion}
use Rattle.std.proofs.Math.Nat.{max-zero}
use Rattle.std.proofs.Math.Bool.{or-false, or-true}
use Rattle.std.proofs.lemmas.Bool.{false≢true, cases_eq, eq-eqb, ne_eqb}
use Rattle.std.proofs.lemmas.Bool.Decides.{nat_tests}
use Rattle.std.proofs.lemmas.Option.{none-some, same_Some}
use Rattle.std.proofs.lemmas.List.{map-append, length-append}
use Rattle.std.proofs.lemmas.List.Elements.{filter-append}
use Rattle.srm_names.specs.declared.limits.TheConstants.{PAGES, DRAWOPS, LONGEST_BODY}
use Rattle.srm_names.specs.declared.page.Page.{Page}
use Rattle.srm_names.specs.declared.stream.Stream.{Stream}
use Rattle.srm_names.specs.declared.drawop.Drawop.{Drawop}
use Rattle.srm_names.specs.FullName.{FullName}
use Rattle.srm_names.specs.Histories.{steps, greatest, firsts, first_of}
use Rattle.srm_names.specs.Names.{first_page, same_page, same_stream, named, stream_on}
use Rattle.srm_names.proofs.Same.{same_page-is, same_page-itself, same_stream-is, same_stream-itself}
use Rattle.srm_names.proofs.Lists.{Has, Has-append, Has-front, Has-back, Has-map, map-Has, AllByRecursion-snoc}
use Rattle.srm_names.proofs.Snoc.{along, first_of-snoc, or_else-none, flat_map-snoc}
use Rattle.srm_codec.specs.declared.datagram.Datagram.{Datagram}
use Rattle.srm_codec.specs.declared.datagram.Datagram.TheVariants.{Data}
use Rattle.srm_codec.specs.Spelling.{is_drawop, length_of, sender_of, is_session}
use Rattle.srm_store.specs.Held.{page_of_drawop, page_of_name, pages_named, outgrow}
use Rattle.srm_store.specs.PageTables.{is_in, with_page}
use Rattle.srm_store.specs.Finals.{Settling}
use Rattle.srm_store.specs.Fits.{StoreStays, StoreFits}
use Rattle.srm_store.proofs.Pages.{length-included, each_once-firsts, is_in-firsts}
use Rattle.srm_bucket.specs.declared.class.Class.TheVariants.{New}
use Rattle.srm_bucket.specs.declared.item.Item.{Item}
use Rattle.srm_bucket.specs.Calls.{Classed, Handed}
use Rattle.srm_bucket.specs.Mapping.{read_call}
use Rattle.srm_bucket.specs.Content.{BucketContent}
use Rattle.srm_bucket.specs.Fits.{BucketAdds, BucketStays}
use Rattle.srm_entries.specs.declared.state.AgentState.{AgentState}
use Rattle.srm_entries.specs.declared.fault.AgentFault.{AgentFault}
use Rattle.srm_entries.specs.declared.fault.AgentFault.TheVariants as faults
use Rattle.srm_entries.specs.declared.entry.Entry.{Entry}
use Rattle.srm_entries.specs.declared.entry.Input.TheVariants.{Drew}
use Rattle.srm_entries.specs.declared.entry.Verdict.{Verdict}
use Rattle.srm_entries.specs.declared.entry.Verdict.TheVariants.{Done, Refused}
use Rattle.srm_outbox.specs.declared.out.Outgoing.{Outgoing}
use Rattle.srm_entries.specs.Configs.{Config}
use Rattle.srm_entries.specs.Entries.{done, held, evidence_by, evidence_in, drawn, is_held, is_missing, known, slots, pages_in, state, is_gone, is_leaving, last_moment}
use Rattle.srm_entries.specs.Timers.{last_ask, fix_running, held_off, asker, basis_of, fix_basis_of, ask_basis_of, ask_exponent, ArmsRight, TimersRight, only_if}
use Rattle.srm_entries.specs.Verdicts.{first_cause, verdict_of, lacks_slots_for, drawn_in, settlings}
use Rattle.srm_entries.specs.Bucket.{Going, GoesAsCharged, bucket_calls, classed}
use Rattle.srm_entries.specs.Runs.{EntryRight}
use Rattle.srm_agent_state.specs.TimersKept.{TimersContent, TimersFit}
use Rattle.srm_agent.specs.Contents.{AgentContent}
use Rattle.srm_agent.specs.Fits.{AgentFits, EachProgressFits, BucketFitsPast}
use Rattle.srm_outbox.specs.Outs.{datagram_of, IsOwn}
use Rattle.srm_entries.specs.Still.{entry_without_effects}
use Rattle.srm_agent.specs.Noting.{HasEntry, IsAllowed, IsDrawnName, Enters, AgentStays}
use Rattle.srm_agent.specs.declared.agent.drafting.Draft.{Draft}
use Rattle.srm_agent.specs.Drawing.{refusals, name_after, drawn_entry, IsDraftOf}
use Rattle.srm_agent_state.specs.Growth.{HoldsToo}
use Rattle.srm_entries.proofs.Adding.{known-snoc, is_missing-snoc, last_ask-snoc, fix_running-snoc, held_off-snoc}
use Rattle.srm_entries.proofs.Showing.{kind, shown_drawing, shown_hearing, shown_quiet, shown-snoc, held-snoc, drawn-snoc, state-snoc, held_is_shown, refused_is_not_done}
use Rattle.srm_entries.proofs.Quiet.{same_settlings, same_distances}
use Rattle.srm_entries.proofs.Running.{steps_more, last_moment-snoc, shown-page-snoc}
use Rattle.srm_agent_state.proofs.Midway.{if_none}
use Rattle.srm_agent.proofs.Slotted.{slots_lack, slots-one}
use Rattle.srm_entries.proofs.Arming.{ask_at}
use Rattle.srm_entries.proofs.Marking.{bucket_calls-snoc, entries-snoc}
use Rattle.srm_agent.proofs.Quiet.{same_due}
use Rattle.srm_agent.proofs.Still.{same_progress}
use Rattle.srm_agent.proofs.Fitting.{refit, roomy}
use Rattle.srm_agent.proofs.Entering.{later, moves_on, refused_enters}

-- the pages of all that was shown to exist are in the table

abbrev pages_heard : List Entry → List Page
pages_heard es = flat_map (λ (e : Entry). pages_in (done e)) es

pages_there : (c : Config) (made : ℕ) (es : List Entry) → AllByRecursion (EntryRight c made) (steps es) → (n : FullName) → Has n (evidence_in es) → Has n.stream.page (pages_heard es)
pages_there c made es all = along (EntryRight c made) (λ xs. (n : FullName) → Has n (evidence_in xs) → Has n.stream.page (pages_heard xs))
    (λ before e p right n h. subst (λ ps. Has n.stream.page ps) (sym (flat_map-snoc (λ (x : Entry). pages_in (done x)) before e))
    (elim (Has-append n (evidence_in before) (evidence_by e) (subst (λ ns. Has n ns) (shown-snoc before e) h)) [
      | inl l ↦ Has-front n.stream.page (pages_heard before) (pages_in (done e)) (p n l)
      | inr r ↦ Has-back n.stream.page (pages_heard before) (pages_in (done e)) (here before e right n r)
    ])) [] es (λ n h. absurd h) all
  where
    here : (before : List Entry) (e : Entry) → EntryRight c made (record { before = before; this = e }) → (n : FullName) → Has n (evidence_by e) → Has n.stream.page (pages_in (done e))
    here before e right n h = elim (kind c made before e right) [
      | inl drew ↦ elim (subst (λ ns. Has n ns) (shown_drawing c before e drew) h) [
        | inl q ↦ subst (λ o. Has n.stream.page (pages_in o)) (sym drew.2) (inl (ap (λ (m : FullName). m.stream.page) q))
        | inr q ↦ absurd q
      ]
      | inr k ↦ elim k [
        | inl hears ↦ subst (λ o. Has n.stream.page (pages_in o)) (sym hears.1) (map-Has (λ (m : FullName). m.stream.page) n _ (subst (λ ns. Has n ns) (shown_hearing e hears) h))
        | inr quiet ↦ absurd (subst (λ ns. Has n ns) (shown_quiet e quiet) h)
      ]
    ]

in_has : (ps : List Page) (p : Page) → is_in ps p ≡ true → Has p ps
in_has [] p h = absurd (false≢true h)
in_has (q ∷ ps) p h = go (same_page q p) refl h (in_has ps p)
  where
    go : (b : Bool) → same_page q p ≡ b → (b || is_in ps p) ≡ true → (is_in ps p ≡ true → Has p ps) → Has p (q ∷ ps)
    go true e h rest = inl (sym (same_page-is q p e))
    go false e h rest = inr (rest h)

has_in : (ps : List Page) (p : Page) → Has p ps → is_in ps p ≡ true
has_in [] p h = absurd h
has_in (q ∷ ps) p (inl e) = ap (λ b. b || is_in ps p) (ap (λ r. same_page r p) (sym e) ∙ same_page-itself p)
has_in (q ∷ ps) p (inr h) = rw (has_in ps p h) (or-true (same_page q p))

-- so where the page table has room for pages, the store has slots for them
named_there : (c : Config) (made : ℕ) (es : List Entry) → AllByRecursion (EntryRight c made) (steps es) → (q : Page) → is_in (pages_named (held es) (evidence_in es)) q ≡ true → is_in (slots es) q ≡ true
named_there c made es all q h = is_in-firsts (first_page ∷ pages_heard es) q ∙ has_in (first_page ∷ pages_heard es) q (there (in_has (pages_named (held es) (evidence_in es)) q h))
  where
    there : Has q (pages_named (held es) (evidence_in es)) → Has q (first_page ∷ pages_heard es)
    there (inl e) = inl e
    there (inr r) = inr (elim (Has-append q (map page_of_drawop (held es)) (map page_of_name (evidence_in es)) r) [
      | inl l ↦ let (d, in_held, e) = Has-map page_of_drawop q (held es) l in subst (λ p. Has p (pages_heard es)) (sym e) (pages_there c made es all d.name (held_is_shown es d in_held))
      | inr s ↦ let (n, in_shown, e) = Has-map page_of_name q (evidence_in es) s in subst (λ p. Has p (pages_heard es)) (sym e) (pages_there c made es all n in_shown)
    ])

in_append : (q : Page) (xs ys zs : List Page) → (is_in xs q ≡ true → is_in ys q ≡ true) → is_in (xs ++ zs) q ≡ true → is_in (ys ++ zs) q ≡ true
in_append q xs ys zs more h = elim (Has-append q xs zs (in_has (xs ++ zs) q h)) [
  | inl l ↦ has_in (ys ++ zs) q (Has-front q ys zs (in_has ys q (more (has_in xs q l))))
  | inr r ↦ has_in (ys ++ zs) q (Has-back q ys zs r)
]

pub slots_suffice : (c : Config) (made : ℕ) (es : List Entry) (pages : List Page) → AllByRecursion (EntryRight c made) (steps es) → lacks_slots_for es pages ≡ false → outgrow (held es) (evidence_in es) pages ≡ false
slots_suffice c made es pages all fine =
    let named : List Page = pages_named (held es) (evidence_in es) ++ pages in
    let table : List Page = slots es ++ pages in
    let fewer = length-included (firsts same_page named) (firsts same_page table) (each_once-firsts named)
    (λ q h. is_in-firsts table q ∙ in_append q (pages_named (held es) (evidence_in es)) (slots es) pages (named_there c made es all q) (sym (is_in-firsts named q) ∙ h)) in
    let few : nat_lt PAGES (length (firsts same_page table)) ≡ false = fine in
    within (length (firsts same_page named)) (length (firsts same_page table)) fewer few
  where
    within : (m n : ℕ) → m ≤ n → nat_lt PAGES n ≡ false → nat_lt PAGES m ≡ false
    within m n le e = grind (arith, nat_tests)

-- the drawop that is drawn is held at once, so nothing comes to be missing

-- of a number, whether it is missing, by how far is known and whether it is held
abbrev missing_at : ℕ → ℕ → Bool → Bool
missing_at number known held = nat_le 1 number && nat_le number known && not held

next_held : (m k : ℕ) (h : Bool) → missing_at m (max k (max (k + 1) 0)) (h || ((k + 1 == m) || false)) ≡ missing_at m k h
next_held m k h = go (cases_eq (k + 1) m)
  where
    wider : m ≢ k + 1 → nat_le m (max k (max (k + 1) 0)) ≡ nat_le m k
    wider other = let most : max k (max (k + 1) 0) ≡ k + 1 = omega arith in ap (nat_le m) most ∙ grind (arith, nat_tests)

    never : (a b c : Bool) → b ≡ false → (a && b && c) ≡ false
    never true false c e = refl
    never false b c e = refl
    never true true c e = absurd (false≢true (sym e))

    gone : (a b : Bool) → (a && b && not (h || true)) ≡ false
    gone true true = ap not (or-true h)
    gone true false = refl
    gone false b = refl

    go : ((k + 1 ≡ m) ⊎ (k + 1 ≢ m)) → missing_at m (max k (max (k + 1) 0)) (h || ((k + 1 == m) || false)) ≡ missing_at m k h
    go (inl at) =
        let beyond : nat_le m k ≡ false = grind (arith, nat_tests) in
        ap (λ b. nat_le 1 m && nat_le m (max k (max (k + 1) 0)) && not (h || (b || false))) (eq-eqb (k + 1) m at)
        ∙ gone (nat_le 1 m) (nat_le m (max k (max (k + 1) 0))) ∙ sym (never (nat_le 1 m) (nat_le m k) (not h) beyond)
    go (inr other) =
        ap (λ b. nat_le 1 m && nat_le m (max k (max (k + 1) 0)) && not (h || (b || false))) (ne_eqb (k + 1) m other)
        ∙ ap (λ b. nat_le 1 m && nat_le m (max k (max (k + 1) 0)) && not b) (or-false h)
        ∙ ap (λ b. nat_le 1 m && b && not h) (wider (λ at. other (sym at)))

apart : (a b : Stream) → same_stream a b ≡ false → same_stream b a ≡ false
apart a b e = go (same_stream b a) refl
  where
    go : (t : Bool) → same_stream b a ≡ t → t ≡ false
    go false f = refl
    go true f = absurd (false≢true (sym e ∙ ap (λ s. same_stream s b) (sym (same_stream-is b a f)) ∙ same_stream-itself b))

module _ (me moment : ℕ) (page : Page) (body : List ℕ) (stamp : ℕ) (after : AgentState) (past : List Entry) where
  abbrev own : Stream
  own = stream_on me page

  abbrev d : Drawop
  d = record { name = named own (known past own + 1); stamp = stamp; body = body }

  abbrev e : Entry
  e = drawn_entry me moment page body d after

  drawn_missing : (n : FullName) → is_missing (past ++ e ∷ []) n ≡ is_missing past n
  drawn_missing n = is_missing-snoc past e n ∙ go (same_stream n.stream own) refl
    where
      go : (b : Bool) → same_stream n.stream own ≡ b
          → nat_le 1 n.number && nat_le n.number (max (known past n.stream) (greatest ((if same_stream n.stream own then (known past own + 1) ∷ [] else []) ++ []))) && not (is_held past n || ((same_stream own n.stream && (known past own + 1 == n.number)) || false))
          ≡ missing_at n.number (known past n.stream) (is_held past n)
      go true s =
          let here : n.stream ≡ own = same_stream-is n.stream own s in
          rw s (subst (λ (t : Stream). nat_le 1 n.number && nat_le n.number (max (known past t) (max (known past own + 1) 0)) && not (is_held past n || ((same_stream own t && (known past own + 1 == n.number)) || false)) ≡ missing_at n.number (known past t) (is_held past n)) (sym here)
          (ap (λ b. nat_le 1 n.number && nat_le n.number (max (known past own) (max (known past own + 1) 0)) && not (is_held past n || ((b && (known past own + 1 == n.number)) || false))) (same_stream-itself own)
          ∙ next_held n.number (known past own) (is_held past n)))
      go false s = rw (s, apart n.stream own s) (ap (λ k. missing_at n.number k (is_held past n || false)) (max-zero (known past n.stream)) ∙ ap (missing_at n.number (known past n.stream)) (or-false (is_held past n)))

  drawn_arms : (c : Config) → ArmsRight c past e
  drawn_arms c = record { are = record { in_order = refl; exact = λ n. sym (none n (is_held past n) refl) }; waits = tt }
    where
      exponent : (n : FullName) (b : Bool) → is_missing past n ≡ b → ask_exponent past e n ≡ None
      exponent n true m = rw m refl
      exponent n false m = rw (m, drawn_missing n ∙ m) refl

      none : (n : FullName) (b : Bool) → is_held past n ≡ b → basis_of c past e n ≡ None
      none n true q = ap (λ (b : Bool). if b then fix_basis_of c past e n else ask_basis_of c past e n) q ∙ if_none (is_held past n && not (is_some (fix_running past n)) && not (held_off c past n moment)) None refl
      none n false q = ap (λ (b : Bool). if b then fix_basis_of c past e n else ask_basis_of c past e n) q ∙ ap (option_map (ask_at c (past ++ e ∷ []) n)) (exponent n (is_missing past n) refl)

  drawn_timers : TimersRight past e
  drawn_timers = record {
    asks = record { in_order = refl; exact = λ n. refl };
    fixes = record { in_order = refl; exact = λ n. refl };
  }

  -- the timers stay, and what waits gains the drawop
  timers_kept : (c : Config) (t : TimersContent) → TimersFit c past t → TimersFit c (past ++ e ∷ []) t
  timers_kept c t h = record {
    ask_calls = h.ask_calls;
    asks = h.asks;
    ask_timers = λ n. h.ask_timers n ∙ sym (ap (λ b. only_if b (last_ask (past ++ e ∷ []) n)) (drawn_missing n) ∙ ap (only_if (is_missing past n)) (last_ask-snoc past e n));
    fix_calls = h.fix_calls;
    fixes = h.fixes;
    fix_timers = λ n. h.fix_timers n ∙ sym (fix_running-snoc past e n);
    askers = λ n. h.askers n ∙ sym (first_of-snoc (asker n) past e ∙ or_else-none (first_of (asker n) past));
    hold_offs = λ n now. h.hold_offs n now ∙ sym (held_off-snoc c past e n now ∙ or-false (held_off c past n now));
  }

  abbrev going : Going
  going = record { entry = e; goes = [] }

  bucket_gains : (c : Config) (a b : BucketContent Outgoing) (item : Item Outgoing) → datagram_of item.value ≡ Data d → item.length ≡ length_of (Data d)
      → BucketAdds (Handed (record { class = New; item = item })) a b → BucketFitsPast c past a → BucketFitsPast c (past ++ e ∷ []) b
  bucket_gains c a b item is charged adds h = record {
    goings = h.goings ++ going ∷ [];
    entries = entries-snoc h.goings going ∙ ap (λ es. es ++ e ∷ []) h.entries;
    goes = steps_more GoesAsCharged h.goings going h.goes (record { same = refl; at_ticks = refl });
    calls = h.calls ++ Handed (record { class = New; item = item }) ∷ [];
    read =
        map-append (read_call datagram_of) h.calls (Handed (record { class = New; item = item }) ∷ [])
        ∙ ap (λ cs. cs ++ read_call datagram_of (Handed (record { class = New; item = item })) ∷ []) h.read
        ∙ ap (λ x. bucket_calls c.me h.goings ++ Handed x ∷ []) same
        ∙ sym (bucket_calls-snoc c.me h.goings going);
    fits = adds.fits c.rate c.depth h.calls h.fits;
  }
    where
      same : ◌≡◌ {A = Classed Datagram} (record { class = New; item = record { value = datagram_of item.value; length = item.length } }) (classed New (Data d))
      same = ap (λ v. let x : Classed Datagram = record { class = New; item = record { value = v; length = item.length } } in x) is
          ∙ ap (λ k. let x : Classed Datagram = record { class = New; item = record { value = Data d; length = k } } in x) charged

  -- what was drawn is what is known
  own_kept : (page2 : Page) → drawn_in past (stream_on me page2) ≡ known past (stream_on me page2) → drawn_in (past ++ e ∷ []) (stream_on me page2) ≡ known (past ++ e ∷ []) (stream_on me page2)
  own_kept page2 h = more ∙ go (same_stream (stream_on me page2) own) refl ∙ sym (known-snoc past e (stream_on me page2))
    where
      s : Stream
      s = stream_on me page2

      more : drawn_in (past ++ e ∷ []) s ≡ drawn_in past s + length (if same_stream s own then d ∷ [] else [])
      more = ap (λ ds. length (filter (λ (x : Drawop). same_stream s x.name.stream) ds)) (drawn-snoc past e)
          ∙ ap length (filter-append (λ (x : Drawop). same_stream s x.name.stream) (drawn past) (d ∷ []))
          ∙ length-append (filter (λ (x : Drawop). same_stream s x.name.stream) (drawn past)) (if same_stream s own then d ∷ [] else [])

      go : (b : Bool) → same_stream s own ≡ b → drawn_in past s + length (if same_stream s own then d ∷ [] else []) ≡ max (known past s) (greatest ((if same_stream s own then (known past own + 1) ∷ [] else []) ++ []))
      go true q = let same : known past own ≡ known past s = ap (known past) (sym (same_stream-is s own q)) in rw q (omega (arith, same, h))
      go false q = rw q (omega (arith, h))

-- the agent that fits a run fits it with the draw
module _ {W : Type 0} (c : Config) (made : ℕ) (past : List Entry) (a n : AgentContent W) (moment : ℕ) (page : Page) (body : List ℕ) (h : AgentFits c made past a) where
  abbrev made_drawop : Drawop
  made_drawop = d c.me moment page body moment a.state past

  abbrev entry : Entry
  entry = e c.me moment page body moment a.state past

  draw_right : last_moment made past ≤ moment → Done ≡ verdict_of c past (Drew page body) → EntryRight c made (record { before = past; this = entry })
  draw_right later right = record {
    member = refl;
    moment = later;
    verdict = right;
    drawn = ap (λ k. let x : Drawop = record { name = named (stream_on c.me page) (k + 1); stamp = moment; body = body } in Some x) (sym (h.own page));
    arms = drawn_arms c.me moment page body moment a.state past c;
    timers = drawn_timers c.me moment page body moment a.state past;
    senders = tt;
    spelled = tt;
    read = tt;
    session = refl;
    message = refl;
    state = h.state;
  }

  drawn_fits : (item : Item Outgoing) → last_moment made past ≤ moment → moment ≡ max a.last (max moment 0) → Done ≡ verdict_of c past (Drew page body)
      → n ≡ record a { last = moment; pages = with_page a.pages page; store = n.store; bucket = n.bucket } → HoldsToo made_drawop a.store n.store → is_drawop made_drawop
      → datagram_of item.value ≡ Data made_drawop → item.length ≡ length_of (Data made_drawop) → BucketAdds (Handed (record { class = New; item = item })) a.bucket n.bucket
      → AgentFits c made (past ++ entry ∷ []) n
  drawn_fits item later at right is keeps spellable sent charged adds = record {
    run = steps_more (EntryRight c made) past entry h.run (draw_right later right);
    config = ap (λ (x : AgentContent W). x.config) is ∙ h.config;
    state = ap (λ (x : AgentContent W). x.state) is ∙ sym (state-snoc past entry);
    last = ap (λ (x : AgentContent W). x.last) is ∙ at ∙ ap (λ k. max k (max moment 0)) h.last ∙ sym (last_moment-snoc made past entry);
    showing = ap (λ (x : AgentContent W). x.showing) is ∙ h.showing ∙ sym (shown-page-snoc past entry);
    pages = ap (λ (x : AgentContent W). x.pages) is ∙ ap (λ ps. with_page ps page) h.pages ∙ sym (slots-one past entry page refl);
    progress = subst (EachProgressFits (past ++ entry ∷ [])) (sym (ap (λ (x : AgentContent W). x.progress) is)) (same_progress past entry a.progress (λ j. refl) h.progress);
    store = rw (held-snoc past entry, shown-snoc past entry, same_settlings past entry refl) (keeps.each _ _ _ h.store);
    distances = rw (ap (λ (x : AgentContent W). x.distances) is, same_distances c.me past entry refl) h.distances;
    timers = subst (TimersFit c (past ++ entry ∷ [])) (sym (ap (λ (x : AgentContent W). x.timers) is)) (timers_kept c.me moment page body moment a.state past c a.timers h.timers);
    bucket = bucket_gains c.me moment page body moment a.state past c a.bucket n.bucket item sent charged adds h.bucket;
    due = ap (λ (x : AgentContent W). x.due) is ∙ h.due ∙ sym (same_due c made past entry refl);
    own = λ page2. own_kept c.me moment page body moment a.state past page2 (h.own page2);
    spelled = subst (AllByRecursion is_drawop) (sym (held-snoc past entry)) (AllByRecursion-snoc is_drawop (held past) made_drawop h.spelled spellable);
  }

-- what a draw is refused for

abbrev in_turn : Bool → Bool → Bool → Bool → List (Bool × Verdict) → List (Bool × Verdict)
in_turn gone leaving long full more = (gone, Refused faults.Gone) ∷ (leaving, Refused faults.Leaving) ∷ (long, Refused faults.BodyLong) ∷ (full, Refused faults.PageLimit) ∷ more

first_stays : (gone leaving long full : Bool) (more : List (Bool × Verdict)) (fault : AgentFault) → Refused fault ≡ first_cause (in_turn gone leaving long full []) → Refused fault ≡ first_cause (in_turn gone leaving long full more)
first_stays true leaving long full more fault r = r
first_stays false true long full more fault r = r
first_stays false false true full more fault r = r
first_stays false false false true more fault r = r
first_stays false false false false more fault r = absurd (refused_is_not_done fault r)

last_counts : (gone leaving long full : Bool) (more : List (Bool × Verdict)) → Done ≡ first_cause (in_turn gone leaving long full []) → first_cause more ≡ first_cause (in_turn gone leaving long full more)
last_counts true leaving long full more r = absurd (refused_is_not_done _ (sym r))
last_counts false true long full more r = absurd (refused_is_not_done _ (sym r))
last_counts false false true full more r = absurd (refused_is_not_done _ (sym r))
last_counts false false false true more r = absurd (refused_is_not_done _ (sym r))
last_counts false false false false more r = refl

abbrev full_last : Config → List Entry → Page → List (Bool × Verdict)
full_last c past page = (nat_le DRAWOPS (drawn_in past (stream_on c.me page)), Refused faults.StreamFull) ∷ []

-- the first four as the agent keeps them
kept_refusals : {W : Type 0} (c : Config) (made : ℕ) (past : List Entry) (a : AgentContent W) (page : Page) (body : List ℕ) (v : Verdict) → AgentFits c made past a
    → v ≡ first_cause (refusals a.state a.pages page (length body)) → v ≡ first_cause (in_turn (is_gone (state past)) (is_leaving (state past)) (nat_lt LONGEST_BODY (length body)) (lacks_slots_for past (page ∷ [])) [])
kept_refusals c made past a page body v h r = r ∙ ap (λ s. first_cause (refusals s a.pages page (length body))) h.state ∙ ap (λ ps. first_cause (refusals (state past) ps page (length body))) h.pages
    ∙ ap (λ full. first_cause (in_turn (is_gone (state past)) (is_leaving (state past)) (nat_lt LONGEST_BODY (length body)) full [])) (sym (slots_lack past (page ∷ [])))

pub draw_refused : {W : Type 0} (next_word : W → ℕ × W) (a : AgentContent W) (now moment : ℕ) (page : Page) (body : List ℕ) (fault : AgentFault) (x : Entry) → Refused fault ≡ first_cause (refusals a.state a.pages page (length body))
    → x ≡ entry_without_effects a.config.me moment (Drew page body) (Refused fault) None a.state → moment ≡ max now a.last → Enters next_word (Some now) (Drew page body) a a x
draw_refused next_word a now moment page body fault x refused is at =
    refused_enters next_word a now moment (Drew page body) fault x is at refl refl (λ j. refl) (λ c past. refl)
    (λ c made past h. first_stays (is_gone (state past)) (is_leaving (state past)) (nat_lt LONGEST_BODY (length body)) (lacks_slots_for past (page ∷ [])) (full_last c past page) fault (kept_refusals c made past a page body (Refused fault) h refused))

full_name : (s : Stream) (k : ℕ) → None ≡ name_after s k → nat_le DRAWOPS k ≡ true
full_name s k none = go (nat_le DRAWOPS k) refl
  where
    go : (b : Bool) → nat_le DRAWOPS k ≡ b → b ≡ true
    go true q = refl
    go false q = absurd (none-some _ (none ∙ ap (λ (b : Bool). if b then None else Some (named s (k + 1))) q))

next_of_name : (s : Stream) (k : ℕ) (n : FullName) → Some n ≡ name_after s k → (nat_le DRAWOPS k ≡ false) × (n ≡ named s (k + 1))
next_of_name s k n some = go (nat_le DRAWOPS k) refl
  where
    go : (b : Bool) → nat_le DRAWOPS k ≡ b → (b ≡ false) × (n ≡ named s (k + 1))
    go true q = absurd (none-some n (sym (some ∙ ap (λ (b : Bool). if b then None else Some (named s (k + 1))) q)))
    go false q = (refl, same_Some n (named s (k + 1)) (some ∙ ap (λ (b : Bool). if b then None else Some (named s (k + 1))) q))

-- the next name of this member on the page, over whatever run the agent fits
abbrev pub Names : {W : Type 0} → AgentContent W → Page → Option FullName → Type 0
Names a page o = (c : Config) (made : ℕ) (past : List Entry) → AgentFits c made past a → o ≡ name_after (stream_on c.me page) (known past (stream_on c.me page))

fullness : {W : Type 0} (c : Config) (made : ℕ) (past : List Entry) (a : AgentContent W) (page : Page) (b : Bool) → AgentFits c made past a → nat_le DRAWOPS (known past (stream_on c.me page)) ≡ b
    → (if b then Refused faults.StreamFull else Done) ≡ first_cause (full_last c past page)
fullness c made past a page b h q = ap (λ (x : Bool). if x then Refused faults.StreamFull else Done) (sym q ∙ ap (nat_le DRAWOPS) (sym (h.own page)))

pub draw_full : {W : Type 0} (next_word : W → ℕ × W) (a : AgentContent W) (now moment : ℕ) (page : Page) (body : List ℕ) (x : Entry) → Done ≡ first_cause (refusals a.state a.pages page (length body))
    → Names a page None → x ≡ entry_without_effects a.config.me moment (Drew page body) (Refused faults.StreamFull) None a.state → moment ≡ max now a.last → Enters next_word (Some now) (Drew page body) a a x
draw_full next_word a now moment page body x fine none is at =
    refused_enters next_word a now moment (Drew page body) faults.StreamFull x is at refl refl (λ j. refl) (λ c past. refl)
    (λ c made past h.
    fullness c made past a page true h (full_name (stream_on c.me page) (known past (stream_on c.me page)) (none c made past h))
    ∙ last_counts (is_gone (state past)) (is_leaving (state past)) (nat_lt LONGEST_BODY (length body)) (lacks_slots_for past (page ∷ [])) (full_last c past page) (kept_refusals c made past a page body Done h fine))

four_fine : (gone leaving long full : Bool) → Done ≡ first_cause (in_turn gone leaving long full []) → full ≡ false
four_fine true leaving long full r = absurd (refused_is_not_done _ (sym r))
four_fine false true long full r = absurd (refused_is_not_done _ (sym r))
four_fine false false true full r = absurd (refused_is_not_done _ (sym r))
four_fine false false false true r = absurd (refused_is_not_done _ (sym r))
four_fine false false false false r = refl

-- the store has slots where the page table has
pub draw_unslotted : {W : Type 0} (next_word : W → ℕ × W) (a b : AgentContent W) (now moment : ℕ) (page : Page) (body : List ℕ) (name : FullName) (x : Entry) → Done ≡ first_cause (refusals a.state a.pages page (length body))
    → Names a page (Some name) → b ≡ a
    → ((inserted : List Drawop) (evidence : List FullName) (settled : List Settling) → StoreFits inserted evidence settled a.store → outgrow inserted evidence (name.stream.page ∷ []) ≡ true)
    → x ≡ entry_without_effects b.config.me moment (Drew page body) (Refused faults.PageLimit) None b.state → moment ≡ max now a.last → Enters next_word (Some now) (Drew page body) a b x
draw_unslotted next_word a b now moment page body name x fine some same full is at = subst (λ y. Enters next_word (Some now) (Drew page body) a y x) (sym same)
    (refused_enters next_word a now moment (Drew page body) faults.PageLimit x (subst (λ (y : AgentContent _). x ≡ entry_without_effects y.config.me moment (Drew page body) (Refused faults.PageLimit) None y.state) same is) at refl refl (λ j. refl) (λ c past. refl)
    (λ c made past h.
    let named_so = (next_of_name (stream_on c.me page) (known past (stream_on c.me page)) name (some c made past h)).1 in
    let room = four_fine (is_gone (state past)) (is_leaving (state past)) (nat_lt LONGEST_BODY (length body)) (lacks_slots_for past (page ∷ [])) (kept_refusals c made past a page body Done h fine) in
    let short = slots_suffice c made past (page ∷ []) h.run room in
    let long = full (held past) (evidence_in past) (settlings past) h.store in
    absurd (false≢true (sym short ∙ ap (λ (n : FullName). outgrow (held past) (evidence_in past) (n.stream.page ∷ [])) (sym named_so) ∙ long))))

-- after room was made, the agent still fits
roomy_fits : {W : Type 0} (a b : AgentContent W) → b ≡ record a { store = b.store; bucket = b.bucket } → StoreStays a.store b.store → BucketStays a.bucket b.bucket
    → (c : Config) (made : ℕ) (past : List Entry) → AgentFits c made past a → AgentFits c made past b
roomy_fits a b is still stays c made past h =
    subst (AgentFits c made past) (sym is) (refit c made past a b.store a.timers b.bucket a.words h (still.each (held past) (evidence_in past) (settlings past) h.store) h.timers (roomy c past a.bucket b.bucket stays h.bucket))

pub roomy_stays : {W : Type 0} (a b : AgentContent W) → b ≡ record a { store = b.store; bucket = b.bucket } → StoreStays a.store b.store → BucketStays a.bucket b.bucket → AgentStays a b
roomy_stays a b is still stays = record { fits = roomy_fits a b is still stays; words = ap (λ (x : AgentContent _). x.words) is }

-- the draft of a name of this member is its own
pub own_draft : {W : Type 0} (a b : AgentContent W) (name : FullName) (moment : ℕ) (body : List ℕ) (draft : Draft) (o : Option FullName) → b ≡ record a { store = b.store; bucket = b.bucket }
    → IsDraftOf a.config.session (record { name = name; stamp = moment; body = body }) draft → o ≡ Some name → IfSome o (λ (n : FullName). n.stream.source ≡ a.config.me) → IsOwn b.config.me b.config.session draft.going.value
own_draft {W = W} a b name moment body draft o is made named own = subst (λ (x : AgentContent W). IsOwn x.config.me x.config.session draft.going.value) (sym is) (record {
  spelled = made.going.is;
  sender = ap sender_of made.going.of ∙ subst (λ p. IfSome p (λ (n : FullName). n.stream.source ≡ a.config.me)) named own;
  charged = ap is_session made.going.of;
})

-- a draw that no cause refuses is done
judged_done : {W : Type 0} (c : Config) (made : ℕ) (past : List Entry) (a : AgentContent W) (page : Page) (body : List ℕ) (name : FullName)
    → Done ≡ first_cause (refusals a.state a.pages page (length body)) → Names a page (Some name) → AgentFits c made past a → Done ≡ verdict_of c past (Drew page body)
judged_done c made past a page body name fine some h =
    fullness c made past a page false h (next_of_name (stream_on c.me page) (known past (stream_on c.me page)) name (some c made past h)).0
    ∙ last_counts (is_gone (state past)) (is_leaving (state past)) (nat_lt LONGEST_BODY (length body)) (lacks_slots_for past (page ∷ [])) (full_last c past page) (kept_refusals c made past a page body Done h fine)

pub draw_allowed : {W : Type 0} (a : AgentContent W) (page : Page) (body : List ℕ) (name : FullName) → Done ≡ first_cause (refusals a.state a.pages page (length body)) → Names a page (Some name) → IsAllowed (Drew page body) a
draw_allowed a page body name fine some = record { each = λ c made past h. sym (judged_done c made past a page body name fine some h) }

pub draw_done : {W : Type 0} (next_word : W → ℕ × W) (a b n : AgentContent W) (now moment : ℕ) (page : Page) (body : List ℕ) (name : FullName) (draft : Draft) (x : Entry)
    → Done ≡ first_cause (refusals a.state a.pages page (length body)) → Names a page (Some name) → moment ≡ max now a.last
    → b ≡ record a { store = b.store; bucket = b.bucket } → StoreStays a.store b.store → BucketStays a.bucket b.bucket
    → IsDraftOf a.config.session (record { name = name; stamp = moment; body = body }) draft → is_drawop (record { name = name; stamp = moment; body = body })
    → n ≡ record b { last = moment; pages = with_page b.pages page; store = n.store; bucket = n.bucket } → HoldsToo draft.held b.store n.store
    → BucketAdds (Handed (record { class = New; item = draft.going })) b.bucket n.bucket
    → x ≡ drawn_entry b.config.me moment page body draft.held b.state → Enters next_word (Some now) (Drew page body) a n x
draw_done {W} next_word a b n now moment page body name draft x fine some at roomy still stays drafted spellable is keeps adds entry_is = record {
  input_is = ap (λ (y : Entry). y.input) entry_is;
  moment_is = ap (λ (y : Entry). y.moment) entry_is ∙ at;
  fits = fits;
  words = rw entry_is (ap (λ (y : AgentContent W). y.words) is ∙ ap (λ (y : AgentContent W). y.words) roomy);
}
  where
    fits : (c : Config) (made : ℕ) (past : List Entry) → AgentFits c made past a → AgentFits c made (past ++ x ∷ []) n
    fits c made past h =
        let own : Stream = stream_on c.me page in
        let next = next_of_name own (known past own) name (some c made past h) in
        let k = roomy_fits a b roomy still stays c made past h in
        let drawop_is : ◌≡◌ {A = Drawop} (record { name = name; stamp = moment; body = body }) (made_drawop c made past b n moment page body k) = ap (λ m. let y : Drawop = record { name = m; stamp = moment; body = body } in y) next.1 in
        let right : Done ≡ verdict_of c past (Drew page body) = judged_done c made past a page body name fine some h in
        let last_is : b.last ≡ a.last = ap (λ (y : AgentContent W). y.last) roomy in
        let same : x ≡ entry c made past b n moment page body k =
        entry_is ∙ ap (λ (s : Config). drawn_entry s.me moment page body draft.held b.state) k.config
        ∙ ap (λ y. drawn_entry c.me moment page body y b.state) (drafted.held ∙ drawop_is) in
        subst (λ y. AgentFits c made (past ++ y ∷ []) n) (sym same)
        (drawn_fits c made past b n moment page body k draft.going (later c made past a now moment h at) (moves_on now b.last moment (at ∙ ap (max now) (sym last_is))) right is
        (subst (λ y. HoldsToo y b.store n.store) (drafted.held ∙ drawop_is) keeps) (subst is_drawop drawop_is spellable) (drafted.going.of ∙ ap Data drawop_is) (drafted.length ∙ ap (λ y. length_of (Data y)) drawop_is) adds)

-- what a draw answers that is refused, and one that is done
pub draw_refuses : {W : Type 0} (next_word : W → ℕ × W) (a b : AgentContent W) (now moment : ℕ) (page : Page) (body : List ℕ) (fault : AgentFault) → Enters next_word (Some now) (Drew page body) a b (entry_without_effects a.config.me moment (Drew page body) (Refused fault) None a.state)
    → HasEntry next_word (Some now) (Drew page body) IsDrawnName a b (Err fault)
draw_refuses next_word a b now moment page body fault enters = (entry_without_effects a.config.me moment (Drew page body) (Refused fault) None a.state, enters, refl)

pub draw_names : {W : Type 0} (next_word : W → ℕ × W) (a b n : AgentContent W) (now moment : ℕ) (page : Page) (body : List ℕ) (name : FullName) (draft : Draft) → IsDraftOf a.config.session (record { name = name; stamp = moment; body = body }) draft
    → Enters next_word (Some now) (Drew page body) a n (drawn_entry b.config.me moment page body draft.held b.state) → HasEntry next_word (Some now) (Drew page body) IsDrawnName a n (Ok name)
draw_names next_word a b n now moment page body name draft drafted enters = (drawn_entry b.config.me moment page body draft.held b.state, enters, ap (λ (d : Drawop). Some d.name) drafted.held)
