-- An agent after it heard and accepted a datagram.
use Rattle.std.proofs.Common.{◌≡◌, ℕ, ◌≤◌, ◌==◌, max, Bool, true, false, ◌&&◌, List, [], ◌∷◌, ◌++◌, length, refl, ap, sym, ◌∙◌, subst, arith}
use Rattle.std.specs.Prelude.{Some, filter, nat_lt, if◌then◌else◌}
use Rattle.std.specs.List.{flat_map, list_any, AllByRecursion, cons_option}
use Rattle.std.proofs.lemmas.List.{append-nil}
use Rattle.std.proofs.lemmas.List.Elements.{filter_map-append}
use Rattle.std.proofs.lemmas.Bool.{or_parts, ltb-false, eq-eqb}
use Rattle.srm_names.specs.declared.page.Page.{Page}
use Rattle.srm_names.specs.declared.stream.Stream.{Stream}
use Rattle.srm_names.specs.declared.drawop.Drawop.{Drawop}
use Rattle.srm_names.specs.FullName.{FullName}
use Rattle.srm_names.specs.Histories.{greatest}
use Rattle.srm_names.specs.Names.{same_stream, stream_on}
use Rattle.srm_names.proofs.Same.{same_stream-is}
use Rattle.srm_names.proofs.Lists.{AllByRecursion-append}
use Rattle.srm_names.proofs.Snoc.{flat_map-snoc}
use Rattle.srm_codec.specs.declared.datagram.Datagram.{Datagram}
use Rattle.srm_codec.specs.declared.datagram.Datagram.TheVariants.{Data, Request, Repair, Session}
use Rattle.srm_codec.specs.Spelling.{names_in, is_drawop, IsSpellable}
use Rattle.srm_store.specs.Held.{number_in}
use Rattle.srm_store.specs.Fits.{StoreFits}
use Rattle.srm_distance.specs.Fits.{DistancesFit}
use Rattle.srm_timers.specs.declared.arm.Arm.{Arm}
use Rattle.srm_entries.specs.declared.entry.Entry.{Entry}
use Rattle.srm_entries.specs.declared.entry.Input.TheVariants.{Heard}
use Rattle.srm_entries.specs.declared.entry.Verdict.TheVariants.{Done}
use Rattle.srm_entries.specs.declared.state.AgentState.{AgentState}
use Rattle.srm_entries.specs.Configs.{Config}
use Rattle.srm_entries.specs.Entries.{accepted, is_gone, state, last_moment, held, evidence_in, known, drawn, drawops_in}
use Rattle.srm_entries.specs.Distances.{distance_calls, calls_in, calls_of}
use Rattle.srm_agent_state.specs.TimerCalls.{HearsWith, TimersAdd, WaitsAreChosen}
use Rattle.srm_agent_state.specs.TimersKept.{HaveSettings}
use Rattle.srm_store.specs.PageTables.{with_pages_of}
use Rattle.srm_entries.specs.Verdicts.{verdict_of, settlings, settling_of, drawn_in, exceeds, is_beyond, final}
use Rattle.srm_entries.specs.Runs.{EntryRight}
use Rattle.srm_agent.specs.Contents.{AgentContent}
use Rattle.srm_agent.specs.Fits.{AgentFits}
use Rattle.srm_agent.specs.Heeding.{heard_entry}
use Rattle.srm_agent.specs.Noting.{Enters, IsAllowed}
use Rattle.srm_entries.proofs.Adding.{known-snoc}
use Rattle.srm_entries.proofs.Showing.{state-snoc, held-snoc, shown-snoc, drawn-snoc, hearing_fine}
use Rattle.srm_entries.proofs.Running.{steps_more, last_moment-snoc, shown-page-snoc}
use Rattle.srm_agent.proofs.Slotted.{slots-all}
use Rattle.srm_agent.proofs.Entering.{of_member, max_above}
use Rattle.srm_agent.proofs.Quiet.{bucket_stays, same_due, no_timers}
use Rattle.srm_agent.proofs.Still.{same_progress}

-- all but the last moment, the generator, the pages, the store, the distances and the timers is as it was
pub record Goes {W : Type 0} (a b : AgentContent W) (moment : ℕ) : Type 0 where
  pub last : b.last ≡ moment
  pub config : b.config ≡ a.config
  pub state : b.state ≡ a.state
  pub showing : b.showing ≡ a.showing
  pub progress : b.progress ≡ a.progress
  pub bucket : b.bucket ≡ a.bucket
  pub due : b.due ≡ a.due

-- what an agent keeps of a datagram that was heard and accepted; its entry is e
pub record Heeds {W : Type 0} (c : Config) (made : ℕ) (past : List Entry) (a b : AgentContent W) (moment : ℕ) (g : Datagram) (e : Entry) : Type 0 where
  pub fits : AgentFits c made past a
  pub later : last_moment made past ≤ moment
  pub here : is_gone (state past) ≡ false
  pub accepted : Done ≡ verdict_of c past (Heard g)
  pub spellable : IsSpellable g
  pub timers : TimersAdd c past e b.timers
  pub store : StoreFits (held past ++ drawops_in (Some g)) (evidence_in past ++ names_in g) (settlings past ++ cons_option (settling_of (Some g)) []) b.store
  pub distances : DistancesFit c.least_distance c.me (distance_calls c.me past ++ calls_of c.me moment (Some g)) b.distances
  pub pages : b.pages ≡ with_pages_of a.pages (names_in g)
  pub goes : Goes a b moment

-- the entry hears the datagram, and does nothing else
pub heard_with : (me moment : ℕ) (g : Datagram) (arms : List Arm) (s : AgentState) → IsSpellable g → HearsWith g moment arms (heard_entry me moment g arms s)
heard_with me moment g arms s spellable = record { heard = refl; read = spellable; moment = refl; drawn = refl; arms = refl; asks = refl; fixes = refl }

-- the kinds of datagram differ in what timers, store, distances and pages become
pub heeds_by : {W : Type 0} (c : Config) (made : ℕ) (past : List Entry) (a b : AgentContent W) (moment : ℕ) (g : Datagram) (arms : List Arm) → AgentFits c made past a → a.last ≤ moment → is_gone a.state ≡ false → IsSpellable g → IsAllowed (Heard g) a
    → TimersAdd c past (heard_entry c.me moment g arms a.state) b.timers
    → StoreFits (held past ++ drawops_in (Some g)) (evidence_in past ++ names_in g) (settlings past ++ cons_option (settling_of (Some g)) []) b.store
    → DistancesFit c.least_distance c.me (distance_calls c.me past ++ calls_of c.me moment (Some g)) b.distances
    → b.pages ≡ with_pages_of a.pages (names_in g) → Goes a b moment → Heeds c made past a b moment g (heard_entry c.me moment g arms a.state)
heeds_by c made past a b moment g arms h late here spellable allowed add keeps calls pages goes = record {
  fits = h;
  later = subst (λ n. n ≤ moment) h.last late;
  here = ap is_gone (sym h.state) ∙ here;
  accepted = sym (allowed.each c made past h);
  spellable = spellable;
  timers = add;
  store = keeps;
  distances = calls;
  pages = pages;
  goes = goes;
}

-- the entry is one that those before it allow

pub heard_right : {W : Type 0} (c : Config) (made : ℕ) (past : List Entry) (a b : AgentContent W) (moment : ℕ) (g : Datagram) (arms : List Arm)
    → Heeds c made past a b moment g (heard_entry c.me moment g arms a.state) → EntryRight c made (record { before = past; this = heard_entry c.me moment g arms a.state })
heard_right c made past a b moment g arms h = record {
  member = refl;
  moment = h.later;
  verdict = (h.here, h.accepted);
  drawn = refl;
  arms = h.timers.arms;
  timers = no_timers past (heard_entry c.me moment g arms a.state) refl refl (record { rests = refl; outs = refl });
  senders = tt;
  spelled = tt;
  read = h.spellable;
  session = refl;
  message = refl;
  state = h.fits.state;
}

-- of this member's own streams no more is known than it drew
own_within : (me : ℕ) (past : List Entry) (s : Stream) (k : ℕ) → s.source ≡ me → drawn_in past s ≡ k → (ns : List FullName) → list_any (is_beyond me past) ns ≡ false → greatest (flat_map (number_in s) ns) ≤ k
own_within me past s k own drew [] none = omega arith
own_within me past s k own drew (n ∷ ns) none =
    let parts = or_parts (is_beyond me past n) (list_any (is_beyond me past) ns) none in
    go (same_stream s n.stream) refl (own_within me past s k own drew ns parts.1) (or_parts (exceeds n.number (final past n.stream)) ((n.stream.source == me) && nat_lt (drawn_in past n.stream) n.number) parts.0).1
  where
    go : (b : Bool) → same_stream s n.stream ≡ b → greatest (flat_map (number_in s) ns) ≤ k → ((n.stream.source == me) && nat_lt (drawn_in past n.stream) n.number) ≡ false
        → greatest ((if b then n.number ∷ [] else []) ++ flat_map (number_in s) ns) ≤ k
    go true e more within =
        let same : n.stream ≡ s = sym (same_stream-is s n.stream e) in
        let mine : (n.stream.source == me) ≡ true = eq-eqb n.stream.source me (ap (λ (t : Stream). t.source) same ∙ own) in
        let l : nat_lt (drawn_in past n.stream) n.number ≡ false = sym (ap (λ b. b && nat_lt (drawn_in past n.stream) n.number) mine) ∙ within in
        let m : n.number ≤ drawn_in past n.stream = ltb-false (drawn_in past n.stream) n.number l in
        let d : drawn_in past n.stream ≡ k = ap (drawn_in past) same ∙ drew in
        omega (arith, m, d, more)
    go false e more within = more

same_own : {W : Type 0} (c : Config) (made : ℕ) (past : List Entry) (a b : AgentContent W) (moment : ℕ) (g : Datagram) (arms : List Arm) → Heeds c made past a b moment g (heard_entry c.me moment g arms a.state)
    → (page : Page) → drawn_in (past ++ heard_entry c.me moment g arms a.state ∷ []) (stream_on c.me page) ≡ known (past ++ heard_entry c.me moment g arms a.state ∷ []) (stream_on c.me page)
same_own c made past a b moment g arms h page =
    let e : Entry = heard_entry c.me moment g arms a.state in
    let none : list_any (is_beyond c.me past) (names_in g) ≡ false = (hearing_fine c made past e g (heard_right c made past a b moment g arms h) refl).not_beyond in
    let drew : drawn_in past (stream_on c.me page) ≡ known past (stream_on c.me page) = h.fits.own page in
    let less = own_within c.me past (stream_on c.me page) (known past (stream_on c.me page)) refl drew (names_in g) none in
    let undrawn : drawn (past ++ e ∷ []) ≡ drawn past = drawn-snoc past e ∙ append-nil (drawn past) in
    ap (λ ds. length (filter (λ (d : Drawop). same_stream (stream_on c.me page) d.name.stream) ds)) undrawn ∙ drew
    ∙ sym (known-snoc past e (stream_on c.me page) ∙ ap (λ ns. max (known past (stream_on c.me page)) (greatest (flat_map (number_in (stream_on c.me page)) ns))) (append-nil (names_in g))
    ∙ sym (max_above (greatest (flat_map (number_in (stream_on c.me page)) (names_in g))) (known past (stream_on c.me page)) less))

drawops_spelled : (g : Datagram) → IsSpellable g → AllByRecursion is_drawop (drawops_in (Some g))
drawops_spelled (Data d) h = (h, tt)
drawops_spelled (Repair s d) h = (h.1, tt)
drawops_spelled (Request s n m) h = tt
drawops_spelled (Session a b f p r x) h = tt

pub heard_fits : {W : Type 0} (c : Config) (made : ℕ) (past : List Entry) (a b : AgentContent W) (moment : ℕ) (g : Datagram) (arms : List Arm)
    → Heeds c made past a b moment g (heard_entry c.me moment g arms a.state) → AgentFits c made (past ++ heard_entry c.me moment g arms a.state ∷ []) b
heard_fits c made past a b moment g arms h =
    let e : Entry = heard_entry c.me moment g arms a.state in
    record {
      run = steps_more (EntryRight c made) past e h.fits.run (heard_right c made past a b moment g arms h);
      config = h.goes.config ∙ h.fits.config;
      state = h.goes.state ∙ sym (state-snoc past e);
      last = h.goes.last ∙ sym (last_moment-snoc made past e ∙ clock (last_moment made past) moment h.later);
      showing = h.goes.showing ∙ h.fits.showing ∙ sym (shown-page-snoc past e);
      pages = h.pages ∙ ap (λ ps. with_pages_of ps (names_in g)) h.fits.pages ∙ sym (slots-all past e);
      progress = rw h.goes.progress (same_progress past e a.progress (λ j. refl) h.fits.progress);
      store = rw (held-snoc past e, shown-snoc past e, filter_map-append (λ (x : Entry). settling_of (accepted x)) past (e ∷ [])) h.store;
      distances = rw (flat_map-snoc (calls_in c.me) past e) h.distances;
      timers = h.timers.fits;
      bucket = rw h.goes.bucket (bucket_stays c past e a.bucket refl refl refl (record { rests = refl; outs = refl }) h.fits.bucket);
      due = h.goes.due ∙ h.fits.due ∙ sym (same_due c made past e refl);
      own = same_own c made past a b moment g arms h;
      spelled = rw (held-snoc past e) (AllByRecursion-append is_drawop (held past) (drawops_in (Some g)) h.fits.spelled (drawops_spelled g h.spellable));
    }
  where
    clock : (l m : ℕ) → l ≤ m → max l (max m 0) ≡ m
    clock l m k = omega (arith, k)

-- the entry is of the datagram, at the moment, and the generator's next numbers chose its waits
pub heard_enters : {W : Type 0} (next_word : W → ℕ × W) (a b : AgentContent W) (moment : ℕ) (g : Datagram) (arms : List Arm) (e : Entry) → a.last ≤ moment → HaveSettings a.config a.timers → WaitsAreChosen next_word a.timers a.words arms b.words
    → e ≡ heard_entry a.config.me moment g arms a.state → ((c : Config) (made : ℕ) (past : List Entry) → AgentFits c made past a → Heeds c made past a b moment g (heard_entry c.me moment g arms a.state)) → Enters next_word (Some moment) (Heard g) a b e
heard_enters next_word a b moment g arms e late settings drawn e_is heeds = record {
  input_is = ap (λ (x : Entry). x.input) e_is;
  moment_is = ap (λ (x : Entry). x.moment) e_is ∙ max_above a.last moment late;
  words = rw e_is (drawn.each a.config settings);
  fits = λ c made past h. of_member c made past a b e (λ me. heard_entry me moment g arms a.state) h e_is (heard_fits c made past a b moment g arms (heeds c made past h));
}
