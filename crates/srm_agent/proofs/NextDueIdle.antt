-- If no timer expires, nothing that waits may go and no session message is due, a tick's entry without effects is right.
use Rattle.std.proofs.Common.{◌≡◌, ℕ, ◌+◌, ◌<◌, ◌≤◌, ◌==◌, Bool, true, false, not, ◌&&◌, List, [], ◌∷◌, ◌++◌, length, map, refl, ap, sym, ◌∙◌, subst, arith}
use Rattle.std.specs.Prelude.{Option, Some, None, option_to_list, nat_le, count_by, cond, if◌then◌else◌, MatchOption}
use Rattle.std.specs.Bool.{OnTrue}
use Rattle.std.specs.List.{AllByRecursion}
use Rattle.std.proofs.Math.Bool.{not-not}
use Rattle.std.proofs.lemmas.List.{append-nil, map-append}
use Rattle.std.proofs.lemmas.Bool.{and_right}
use Rattle.std.proofs.lemmas.Bool.Decides.{nat_tests}
use Rattle.std.proofs.lemmas.List.Sums.{sum_by-append}
use Rattle.srm_names.specs.Histories.{steps}
use Rattle.srm_names.proofs.Snoc.{flat_map-snoc}
use Rattle.srm_timers.specs.declared.arm.Armed.{Armed}
use Rattle.srm_timers.specs.Arms.{ran_out}
use Rattle.srm_deadlines.specs.Least.{lesser}
use Rattle.srm_bucket.specs.declared.class.Class.TheVariants.{New}
use Rattle.srm_bucket.specs.Calls.{BucketCall, Popped}
use Rattle.srm_bucket.specs.Classes.{next_queued}
use Rattle.srm_bucket.specs.Content.{BucketContent}
use Rattle.srm_bucket.specs.Fits.{IsNextDeparture}
use Rattle.srm_bucket.specs.Law.{BucketLaw, IsFirstToGo, level_at, covered, may_go}
use Rattle.srm_bucket.specs.Mapping.{read_call}
use Rattle.srm_bucket.specs.Ticks.{last_moment as last_of_calls}
use Rattle.srm_bucket.specs.Waiting.{queue}
use Rattle.srm_bucket.proofs.Mapping.{law-read, last_moment-read}
use Rattle.srm_bucket.proofs.Pausing.{law-paused}
use Rattle.srm_entries.specs.declared.entry.Entry.{Entry}
use Rattle.srm_entries.specs.declared.state.AgentState.{AgentState}
use Rattle.srm_entries.specs.declared.state.AgentState.TheVariants.{Active, Leaving, Gone}
use Rattle.srm_entries.specs.Configs.{Config}
use Rattle.srm_agent.specs.Contents.{AgentContent}
use Rattle.srm_entries.specs.Entries.{state, is_gone, is_leaving, ticked, last_moment, is_missing, drawn, sent}
use Rattle.srm_entries.specs.Timers.{last_ask, fix_running, ArmsRight, TimersRight, only_if}
use Rattle.srm_codec.specs.Spelling.{is_data}
use Rattle.srm_entries.specs.Sessions.{charged, all_data_sent, session_message_due}
use Rattle.srm_entries.specs.Bucket.{Going, GoesAsCharged, BucketRight, entries_of, calls_by, bucket_calls}
use Rattle.srm_entries.specs.Runs.{EntryRight}
use Rattle.srm_agent.specs.Fits.{AgentFits, BucketFitsPast}
use Rattle.srm_outbox.specs.Outs.{datagram_of}
use Rattle.srm_entries.specs.Promises.{MayDoNothing}
use Rattle.srm_agent_state.specs.TimerCalls.{FirstOfBothRunsOut, IsBefore}
use Rattle.srm_outbox.specs.declared.out.Outgoing.{Outgoing}
use Rattle.srm_agent_state.proofs.Midway.{before_first, before_second}
use Rattle.srm_agent.specs.Ticking.{tick_entry}
use Rattle.srm_outbox.specs.Outbox.{Passes}
use Rattle.srm_agent.specs.Waking.{IsEarly, session_message_next, sooner_of}
use Rattle.srm_entries.proofs.Ending.{ending_of, ending_is}
use Rattle.srm_entries.proofs.Marking.{bucket_calls-snoc, entries-snoc, went_length}
use Rattle.srm_agent.proofs.Quiet.{no_arms}
use Rattle.srm_entries.proofs.Running.{steps_more}
use Rattle.srm_entries.proofs.Showing.{drawn-snoc}
use Rattle.srm_entries.proofs.Spending.{Charged, charged_along, charged_start}
use Rattle.srm_agent.proofs.Ticks.{TickRight, tick_right}
use Rattle.srm_agent.proofs.Unsent.{all_sent, kept_data}

-- a tick without effects
abbrev pub idle_at : Config → List Entry → ℕ → Entry
idle_at c past u = tick_entry c.me u [] [] [] [] (state past)

-- arms

idle_arms : (c : Config) (past : List Entry) (u : ℕ) → ArmsRight c past (idle_at c past u)
idle_arms c past u = no_arms c past (idle_at c past u) (record { unheard = refl; drawn = refl; arms = refl; asks = refl; fixes = refl })

-- timers

not_asked : (u : ℕ) (b m : Bool) (o : Option Armed) → ran_out u (only_if m o) ≡ false → false ≡ (b && m && ran_out u o)
not_asked u b true o e = sym (ap (λ x. b && true && x) e ∙ no b)
  where
    no : (b : Bool) → (b && true && false) ≡ false
    no true = refl
    no false = refl
not_asked u b false o e = sym (no b (ran_out u o))
  where
    no : (b x : Bool) → (b && false && x) ≡ false
    no true x = refl
    no false x = refl

idle_timers : (c : Config) (past : List Entry) (moment : Option ℕ) (u : ℕ) → FirstOfBothRunsOut past moment → IsBefore u moment → TimersRight past (idle_at c past u)
idle_timers c past moment u first before = record {
  asks = record { in_order = refl; exact = λ n. not_asked u (not (is_gone (state past))) (is_missing past n) (last_ask past n) (first.no_ask u before n) };
  fixes = record { in_order = refl; exact = λ n. sym (and_right (not (is_gone (state past))) (ran_out u (fix_running past n)) (first.no_fix u before n)) };
}

-- the session message

-- an entry that charges and draws nothing leaves waiting what waits
pub unsent_stays : (past : List Entry) (e : Entry) → charged e ≡ [] → e.effects.drawn ≡ None → all_data_sent (past ++ e ∷ []) ≡ all_data_sent past
unsent_stays past e uncharged none =
    ap (λ ds. nat_le (length ds) (count_by is_data (sent (past ++ e ∷ [])))) (drawn-snoc past e ∙ ap (λ o. drawn past ++ option_to_list o) none ∙ append-nil (drawn past))
    ∙ ap (nat_le (length (drawn past)))
    (ap (count_by is_data) (flat_map-snoc (λ (x : Entry). x.effects.outs) past e) ∙ sum_by-append (λ g. cond (is_data g) 1 0) (sent past) e.effects.outs
    ∙ ap (λ n. count_by is_data (sent past) + n) (sym (kept_data e.effects.outs) ∙ ap (count_by is_data) uncharged) ∙ still (count_by is_data (sent past)))
  where
    still : (n : ℕ) → n + 0 ≡ n
    still n = omega arith

-- what such a tick ends with
pub ends_by : {W : Type 0} (c : Config) (made : ℕ) (past : List Entry) (a : AgentContent W) (e : Entry) → AgentFits c made past a → ticked e ≡ true → charged e ≡ [] → e.effects.drawn ≡ None
    → session_message_due c made past e ≡ ending_of a.state (not (length (queue a.bucket.waiting New) == 0)) (nat_le a.due e.moment)
ends_by c made past a e h t uncharged none =
    ending_is c made past e a.state (not (length (queue a.bucket.waiting New) == 0)) (nat_le a.due e.moment) t h.state
    (not-not (length (queue a.bucket.waiting New) == 0) ∙ sym (unsent_stays past e uncharged none ∙ all_sent c past a.bucket h.bucket)) (ap (λ n. nat_le n e.moment) h.due)

ends_not : (old : AgentState) (sent_all : Bool) (last due u : ℕ) → last ≤ u → u < (if is_leaving old && sent_all then last else due) → ending_of old (not sent_all) (nat_le due u) ≡ None
ends_not Gone b last due u l m = refl
ends_not Active b last due u l m = let later : nat_le due u ≡ false = grind (arith, nat_tests) in ap (λ (x : Bool). if x then Some false else None) later
ends_not Leaving true last due u l m = absurd (omega (arith, l, m))
ends_not Leaving false last due u l m = let later : nat_le due u ≡ false = grind (arith, nat_tests) in ap (λ (x : Bool). if x then Some false else None) later

-- the bucket

nothing_goes : {T : Type 0} (rate depth : ℕ) (calls : List (BucketCall T)) (answer : Option ℕ) (u : ℕ) → MatchOption answer (next_queued calls ≡ None) (IsFirstToGo rate depth calls) → last_of_calls calls ≤ u → IsBefore u answer
    → may_go rate depth calls u ≡ None
nothing_goes rate depth calls None u until l before = ap (covered (level_at rate depth calls u)) until
nothing_goes rate depth calls (Some t) u until l before = until.no_sooner u l before

-- the bucket's last moment isn't after the member's
pub calls_before : {W : Type 0} (c : Config) (made : ℕ) (past : List Entry) (a : AgentContent W) (h : AgentFits c made past a) → last_of_calls h.bucket.calls ≤ last_moment made past
calls_before c made past a h =
    let law : BucketLaw c.rate c.depth (bucket_calls c.me h.bucket.goings) = subst (BucketLaw c.rate c.depth) h.bucket.read (law-read datagram_of c.rate c.depth h.bucket.calls h.bucket.fits.law) in
    let all : Charged c made h.bucket.goings = charged_along c made [] h.bucket.goings (charged_start c made) h.bucket.goes (subst (λ ys. AllByRecursion (EntryRight c made) (steps ys)) (sym h.bucket.entries) h.run) (went_length c h.bucket.goings h.bucket.goes law) law in
    subst (λ n. n ≤ last_moment made past) (ap last_of_calls (sym h.bucket.read) ∙ last_moment-read datagram_of h.bucket.calls)
    (subst (λ ys. last_of_calls (bucket_calls c.me h.bucket.goings) ≤ last_moment made ys) h.bucket.entries all.last)

-- in the calls of such a tick nothing goes
pub pauses : (me : ℕ) (gs : List Going) (past : List Entry) (e : Entry) → entries_of gs ≡ past → is_gone (state past) ≡ false → ticked e ≡ true → e.effects.drawn ≡ None → e.effects.asks ≡ [] → e.effects.fixes ≡ []
    → calls_by me (record { before = gs; this = record { entry = e; goes = [] } }) ≡ Popped e.moment None ∷ []
pauses me gs past e same here t none asks fixes = rw (none, asks, fixes, t, same, here) refl

-- such a tick, as the bucket sees it
abbrev idle_going : Config → List Entry → ℕ → Going
idle_going c past u = record { entry = idle_at c past u; goes = [] }

-- nothing may go
may_not : {W : Type 0} (c : Config) (made : ℕ) (past : List Entry) (a : AgentContent W) (answer : Option ℕ) (u : ℕ) (h : AgentFits c made past a) → IsNextDeparture a.bucket answer → last_moment made past ≤ u → IsBefore u answer
    → may_go c.rate c.depth h.bucket.calls u ≡ None
may_not c made past a answer u h waits l before =
    let k : last_of_calls h.bucket.calls ≤ last_moment made past = calls_before c made past a h in
    nothing_goes c.rate c.depth h.bucket.calls answer u (waits.until c.rate c.depth h.bucket.calls h.bucket.fits) (omega (arith, k, l)) before

module _ (c : Config) (past : List Entry) (u : ℕ) {b : BucketContent Outgoing} (h : BucketFitsPast c past b) where
  idle_entries : entries_of (h.goings ++ idle_going c past u ∷ []) ≡ past ++ idle_at c past u ∷ []
  idle_entries = entries-snoc h.goings (idle_going c past u) ∙ ap (λ es. es ++ idle_at c past u ∷ []) h.entries

  idle_goes : AllByRecursion GoesAsCharged (steps (h.goings ++ idle_going c past u ∷ []))
  idle_goes = steps_more GoesAsCharged h.goings (idle_going c past u) h.goes (record { same = refl; at_ticks = whenever _ })
    where
      whenever : (b : Bool) → OnTrue b ((idle_going c past u).goes ≡ [])
      whenever true = refl
      whenever false = tt

  idle_calls : is_gone (state past) ≡ false → map (read_call datagram_of) (h.calls ++ Popped u None ∷ []) ≡ bucket_calls c.me (h.goings ++ idle_going c past u ∷ [])
  idle_calls here = sym (
      bucket_calls-snoc c.me h.goings (idle_going c past u) ∙ ap (λ cs. bucket_calls c.me h.goings ++ cs) (pauses c.me h.goings past (idle_at c past u) h.entries here refl refl refl refl)
      ∙ ap (λ cs. cs ++ Popped u None ∷ []) (sym h.read) ∙ sym (map-append (read_call datagram_of) h.calls (Popped u None ∷ [])))

idle_bucket : {W : Type 0} (c : Config) (made : ℕ) (past : List Entry) (a : AgentContent W) (answer : Option ℕ) (u : ℕ) → AgentFits c made past a → is_gone (state past) ≡ false → IsNextDeparture a.bucket answer
    → last_moment made past ≤ u → IsBefore u answer → BucketRight c (past ++ idle_at c past u ∷ [])
idle_bucket c made past a answer u h here waits l before = (
  h.bucket.goings ++ idle_going c past u ∷ [],
  idle_entries c past u h.bucket,
  idle_goes c past u h.bucket,
  subst (BucketLaw c.rate c.depth) (idle_calls c past u h.bucket here)
      (law-read datagram_of c.rate c.depth (h.bucket.calls ++ Popped u None ∷ []) (law-paused c.rate c.depth h.bucket.calls a.bucket u h.bucket.fits (may_not c made past a answer u h waits l before))),
)

-- before the sooner of two moments it is before both
before_one : (u : ℕ) (o : Option ℕ) (r : ℕ) → u < sooner_of o r → IsBefore u o
before_one u None r l = tt
before_one u (Some t) r l = omega (arith, l)

before_other : (u : ℕ) (o : Option ℕ) (r : ℕ) → u < sooner_of o r → u < r
before_other u None r l = l
before_other u (Some t) r l = omega (arith, l)

-- what is due next is to come
pub record IsToCome {W : Type 0} (a : AgentContent W) (u : ℕ) (at : IsEarly a u) : Type 0 where
  pub timer : IsBefore u at.1.timers
  pub item : IsBefore u at.1.waiting
  pub session_message : u < session_message_next a

pub to_come : {W : Type 0} (a : AgentContent W) (u : ℕ) (at : IsEarly a u) → IsToCome a u at
to_come a u (next, n, before) =
    let sooner : u < sooner_of (lesser n.timers n.waiting) (session_message_next a) = subst (λ m. u < m) n.is before in
    let both : IsBefore u (lesser n.timers n.waiting) = before_one u (lesser n.timers n.waiting) (session_message_next a) sooner in
    record {
      timer = before_first u n.timers n.waiting both;
      item = before_second u n.timers n.waiting both;
      session_message = before_other u (lesser n.timers n.waiting) (session_message_next a) sooner;
    }

-- at a moment before all that is due
module _ {W : Type 0} (c : Config) (made : ℕ) (past : List Entry) (a : AgentContent W) (u : ℕ) (h : AgentFits c made past a) (here : is_gone (state past) ≡ false) (at : IsEarly a u) (l : last_moment made past ≤ u) where
  pub idle_right : TickRight c made past (idle_at c past u) None [] None
  idle_right =
      let come = to_come a u at in
      record {
        moment = l;
        arms = idle_arms c past u;
        timers = idle_timers c past at.1.timers u (at.1.runs.each c past h.timers) come.timer;
        outs = refl;
        each = tt;
        charged = tt;
        last = tt;
        ending = ends_by c made past a (idle_at c past u) h refl refl refl ∙ ends_not a.state (length (queue a.bucket.waiting New) == 0) a.last a.due u (subst (λ n. n ≤ u) (sym h.last) l) come.session_message;
        ends = tt;
        state = same (state past);
      }
    where
      same : (s : AgentState) → s ≡ s
      same s = refl

  pub idle_before : MayDoNothing c made past u
  idle_before = (
    idle_at c past u,
    refl,
    refl,
    record { asks = refl; fixes = refl; outs = refl },
    record {
      each = steps_more (EntryRight c made) past (idle_at c past u) h.run (tick_right c made u past [] [] [] [] (state past) None [] None idle_right);
      bucket = idle_bucket c made past a at.1.waiting u h here at.1.waits l (to_come a u at).item;
    },
  )

  -- the bucket after it
  pub idle_fits : (new : BucketContent Outgoing) → Passes u a.bucket new → BucketFitsPast c (past ++ idle_at c past u ∷ []) new
  idle_fits new passes = record {
    goings = h.bucket.goings ++ idle_going c past u ∷ [];
    entries = idle_entries c past u h.bucket;
    goes = idle_goes c past u h.bucket;
    calls = h.bucket.calls ++ Popped u None ∷ [];
    read = idle_calls c past u h.bucket here;
    fits = passes.fits c.rate c.depth h.bucket.calls h.bucket.fits (may_not c made past a at.1.waiting u h at.1.waits l (to_come a u at).item);
  }
