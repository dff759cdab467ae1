-- If a timer has expired, something that waits may go or a session message is due, a tick does something.
use Rattle.std.proofs.Common.{◌≡◌, ℕ, ◌≤◌, ◌==◌, Bool, true, false, not, ◌&&◌, List, [], ◌∷◌, ◌++◌, length, refl, ap, sym, ◌∙◌, subst, arith}
use Rattle.std.specs.Prelude.{Option, Some, None, option_map, nat_le, if◌then◌else◌, filter, IsSome}
use Rattle.std.specs.List.{AllByRecursion}
use Rattle.std.proofs.lemmas.Bool.Decides.{nat_tests}
use Rattle.srm_names.specs.FullName.{FullName}
use Rattle.srm_names.specs.Histories.{steps, steps_after}
use Rattle.srm_names.specs.Names.{among}
use Rattle.srm_names.proofs.Lists.{at_parts, map-split}
use Rattle.srm_timers.specs.declared.arm.Armed.{Armed}
use Rattle.srm_timers.specs.Arms.{ran_out}
use Rattle.srm_bucket.specs.declared.class.Class.TheVariants.{New}
use Rattle.srm_bucket.specs.Calls.{Classed, Popped}
use Rattle.srm_bucket.specs.Law.{BucketLaw, may_go}
use Rattle.srm_bucket.specs.Mapping.{read_classed}
use Rattle.srm_bucket.specs.Waiting.{queue}
use Rattle.srm_bucket.proofs.Mapping.{law-read, may_go-read}
use Rattle.srm_bucket.proofs.Pausing.{paused-none, none-before}
use Rattle.srm_codec.specs.declared.datagram.Datagram.{Datagram}
use Rattle.srm_entries.specs.declared.entry.Entry.{Entry}
use Rattle.srm_outbox.specs.declared.out.Outgoing.{Outgoing}
use Rattle.srm_entries.specs.declared.entry.Input.TheVariants.{Ticked}
use Rattle.srm_entries.specs.declared.state.AgentState.{AgentState}
use Rattle.srm_entries.specs.declared.state.AgentState.TheVariants.{Active, Leaving, Gone}
use Rattle.srm_entries.specs.Configs.{Config}
use Rattle.srm_agent.specs.Contents.{AgentContent}
use Rattle.srm_entries.specs.Entries.{state, is_gone, is_leaving, is_tick, ticked, is_missing}
use Rattle.srm_entries.specs.Timers.{last_ask, fix_running, ask_running, only_if}
use Rattle.srm_codec.specs.Spelling.{is_session}
use Rattle.srm_entries.specs.Sessions.{charged, session_message_due, EndsWith}
use Rattle.srm_entries.specs.Bucket.{Going, GoesAsCharged, entries_of, datagrams_of, bucket_calls}
use Rattle.srm_entries.specs.Runs.{EntryRight, IsMemberRun}
use Rattle.srm_agent.specs.Fits.{AgentFits}
use Rattle.srm_outbox.specs.Outs.{datagram_of}
use Rattle.srm_entries.specs.Promises.{MayDoNothing}
use Rattle.srm_agent.specs.Waking.{session_message_next}
use Rattle.srm_entries.proofs.Charging.{law_at}
use Rattle.srm_entries.proofs.Ending.{ending_of}
use Rattle.srm_entries.proofs.Marking.{bucket_calls-snoc}
use Rattle.srm_entries.proofs.Marks.{marks_same}
use Rattle.srm_agent.proofs.NextDueIdle.{ends_by, pauses}
use Rattle.srm_entries.proofs.Parting.{tick_draws_nothing}
use Rattle.srm_entries.proofs.Rating.{not_nil}
use Rattle.srm_entries.proofs.Spending.{law_to}

-- a tick that may come, at a moment
pub record MayCome (c : Config) (made : ℕ) (past : List Entry) (now : ℕ) (e : Entry) : Type 0 where
  pub ticks : ticked e ≡ true
  pub moment : e.moment ≡ now
  pub drawn : e.effects.drawn ≡ None
  pub right : EntryRight c made (record { before = past; this = e })
  pub run : IsMemberRun c made (past ++ e ∷ [])

pub may_come : (c : Config) (made : ℕ) (past : List Entry) (now : ℕ) (e : Entry) → e.input ≡ Ticked → e.moment ≡ now → IsMemberRun c made (past ++ e ∷ []) → MayCome c made past now e
may_come c made past now e input moment run =
    let right : EntryRight c made (record { before = past; this = e }) = (at_parts (EntryRight c made) past (e ∷ []) run.each).1.0 in
    record { ticks = ap is_tick input; moment = moment; drawn = tick_draws_nothing c made past e right (ap is_tick input); right = right; run = run }

-- one that does nothing
pub record DidNothing (c : Config) (made : ℕ) (past : List Entry) (now : ℕ) (e : Entry) : Type 0 where
  pub comes : MayCome c made past now e
  pub asks : e.effects.asks ≡ []
  pub fixes : e.effects.fixes ≡ []
  pub outs : e.effects.outs ≡ []

pub did_nothing : (c : Config) (made : ℕ) (past : List Entry) (now : ℕ) (i : MayDoNothing c made past now) → DidNothing c made past now i.0
did_nothing c made past now (e, input, moment, nothing, run) = record { comes = may_come c made past now e input moment run; asks = nothing.asks; fixes = nothing.fixes; outs = nothing.outs }

-- timers

runs_and_missing : (now : ℕ) (m : Bool) (o : Option Armed) → ran_out now (only_if m o) ≡ true → (m ≡ true) × (ran_out now o ≡ true)
runs_and_missing now true o e = (refl, e)
runs_and_missing now false o e = absurd (cc)

pub asks_then : (c : Config) (made : ℕ) (past : List Entry) (now : ℕ) (e : Entry) (n : FullName) → DidNothing c made past now e → is_gone (state past) ≡ false → ran_out now (ask_running past n) ≡ true → ⊥
asks_then c made past now e n d here out =
    let both = runs_and_missing now (is_missing past n) (last_ask past n) out in
    let due : (ticked e && (not (is_gone (state past)) && is_missing past n && ran_out e.moment (last_ask past n))) ≡ true = rw (d.comes.ticks, here, both.0, d.comes.moment, both.1) refl in
    let none : false ≡ (ticked e && (not (is_gone (state past)) && is_missing past n && ran_out e.moment (last_ask past n))) = sym (ap (λ ns. among ns n) d.asks) ∙ d.comes.right.timers.asks.exact n in
    absurd (cc)

pub fixes_then : (c : Config) (made : ℕ) (past : List Entry) (now : ℕ) (e : Entry) (n : FullName) → DidNothing c made past now e → is_gone (state past) ≡ false → ran_out now (fix_running past n) ≡ true → ⊥
fixes_then c made past now e n d here out =
    let due : (ticked e && (not (is_gone (state past)) && ran_out e.moment (fix_running past n))) ≡ true = rw (d.comes.ticks, here, d.comes.moment, out) refl in
    let none : false ≡ (ticked e && (not (is_gone (state past)) && ran_out e.moment (fix_running past n))) = sym (ap (λ ns. among ns n) d.fixes) ∙ d.comes.right.timers.fixes.exact n in
    absurd (cc)

-- the session message

ends_with_some : (old : AgentState) (sent_all : Bool) (last due now : ℕ) → is_gone old ≡ false → (if is_leaving old && sent_all then last else due) ≤ now → (f : Bool) × (ending_of old (not sent_all) (nat_le due now) ≡ Some f)
ends_with_some Gone b last due now here l = absurd (cc)
ends_with_some Active b last due now here l = let come : nat_le due now ≡ true = grind (arith, nat_tests) in (false, ap (λ (x : Bool). if x then Some false else None) come)
ends_with_some Leaving true last due now here l = (true, refl)
ends_with_some Leaving false last due now here l = let come : nat_le due now ≡ true = grind (arith, nat_tests) in (false, ap (λ (x : Bool). if x then Some false else None) come)

pub sends_then : {W : Type 0} (c : Config) (made : ℕ) (past : List Entry) (a : AgentContent W) (now : ℕ) (e : Entry) → AgentFits c made past a → DidNothing c made past now e → is_gone (state past) ≡ false → session_message_next a ≤ now → ⊥
sends_then c made past a now e h d here l =
    let (f, some) = ends_with_some a.state (length (queue a.bucket.waiting New) == 0) a.last a.due now (ap is_gone h.state ∙ here) l in
    let ends : session_message_due c made past e ≡ Some f = ends_by c made past a e h d.comes.ticks (ap (filter (λ g. not (is_session g))) d.outs) d.comes.drawn ∙ ap (λ m. ending_of a.state (not (length (queue a.bucket.waiting New) == 0)) (nat_le a.due m)) d.comes.moment ∙ some in
    let (g, is, message) = subst (λ o. EndsWith c past e o) ends d.comes.right.session in
    not_nil (charged e) [] g (sym d.outs ∙ is)

-- the bucket

pub nothing_went : (goes : List (Classed Datagram)) → datagrams_of goes ≡ [] → goes ≡ []
nothing_went [] e = refl
nothing_went (i ∷ goes) e = absurd (cc)

-- the entries of such a run can be marked in one way alone: with what went before, and nothing in the tick
marked_so : (c : Config) (gs hs : List Going) (past : List Entry) (e : Entry) → entries_of gs ≡ past ++ e ∷ [] → AllByRecursion GoesAsCharged (steps gs) → BucketLaw c.rate c.depth (bucket_calls c.me gs)
    → entries_of hs ≡ past → AllByRecursion GoesAsCharged (steps hs) → BucketLaw c.rate c.depth (bucket_calls c.me hs) → e.effects.outs ≡ [] → gs ≡ hs ++ record { entry = e; goes = [] } ∷ []
marked_so c gs hs past e q all law same also other outs =
    let (us, vs, p, earlier, later) = map-split (λ (g : Going). g.entry) gs past (e ∷ []) q in
    let parts = at_parts GoesAsCharged us vs (subst (λ w. AllByRecursion GoesAsCharged (steps w)) p all) in
    let front : us ≡ hs = marks_same c us hs (earlier ∙ sym same) parts.0 also (law_to c us vs (subst (λ w. BucketLaw c.rate c.depth (bucket_calls c.me w)) p law)) other in
    p ∙ ap (λ w. w ++ vs) front ∙ ap (λ w. hs ++ w) (last_one us vs later parts.1)
  where
    last_one : (us vs : List Going) → entries_of vs ≡ e ∷ [] → AllByRecursion GoesAsCharged (steps_after us vs) → vs ≡ record { entry = e; goes = [] } ∷ []
    last_one us [] r right = absurd (cc)
    last_one us (x ∷ y ∷ vs) r right = absurd (cc)
    last_one us (x ∷ []) r right =
        let here : x.entry ≡ e = cc in
        let none : x.goes ≡ [] = nothing_went x.goes (right.0.same ∙ ap charged here ∙ ap (filter (λ g. not (is_session g))) outs) in
        ap (λ en. let z : Going = record { entry = en; goes = x.goes } in z ∷ []) here ∙ ap (λ goes. let z : Going = record { entry = e; goes = goes } in z ∷ []) none

pub nothing_may_go : {W : Type 0} (c : Config) (made : ℕ) (past : List Entry) (a : AgentContent W) (now : ℕ) (e : Entry) (h : AgentFits c made past a) → DidNothing c made past now e → is_gone (state past) ≡ false
    → may_go c.rate c.depth h.bucket.calls now ≡ None
nothing_may_go c made past a now e h d here =
    let (gs, q, all, law) = d.comes.run.bucket in
    let so_far : BucketLaw c.rate c.depth (bucket_calls c.me h.bucket.goings) = subst (BucketLaw c.rate c.depth) h.bucket.read (law-read datagram_of c.rate c.depth h.bucket.calls h.bucket.fits.law) in
    let marks = marked_so c gs h.bucket.goings past e q all law h.bucket.entries h.bucket.goes so_far d.outs in
    let calls : bucket_calls c.me gs ≡ bucket_calls c.me h.bucket.goings ++ Popped e.moment None ∷ [] =
    ap (bucket_calls c.me) marks ∙ bucket_calls-snoc c.me h.bucket.goings (record { entry = e; goes = [] })
    ∙ ap (λ cs. bucket_calls c.me h.bucket.goings ++ cs) (pauses c.me h.bucket.goings past e h.bucket.entries here d.comes.ticks d.comes.drawn d.asks d.fixes) in
    let right = law_at c.rate c.depth (bucket_calls c.me h.bucket.goings) [] (Popped e.moment None) (subst (BucketLaw c.rate c.depth) calls law) in
    unread (may_go c.rate c.depth h.bucket.calls now)
    (sym (may_go-read datagram_of c.rate c.depth h.bucket.calls now) ∙ ap (λ cs. may_go c.rate c.depth cs now) h.bucket.read ∙ ap (may_go c.rate c.depth (bucket_calls c.me h.bucket.goings)) (sym d.comes.moment)
    ∙ paused-none c.rate c.depth (bucket_calls c.me h.bucket.goings) e.moment right)
  where
    unread : (o : Option (Classed Outgoing)) → option_map (read_classed datagram_of) o ≡ None → o ≡ None
    unread None q = refl
    unread (Some i) q = absurd (cc)

pub goes_then : {W : Type 0} (c : Config) (made : ℕ) (past : List Entry) (a : AgentContent W) (now moment : ℕ) (e : Entry) (h : AgentFits c made past a) → DidNothing c made past now e → is_gone (state past) ≡ false
    → IsSome (may_go c.rate c.depth h.bucket.calls moment) → moment ≤ now → ⊥
goes_then c made past a now moment e h d here some l =
    contrary (may_go c.rate c.depth h.bucket.calls moment) some (none-before c.rate c.depth h.bucket.calls moment now h.bucket.fits.within l (nothing_may_go c made past a now e h d here))
  where
    contrary : (o : Option (Classed Outgoing)) → IsSome o → o ≡ None → ⊥
    contrary None s q = absurd (cc)
    contrary (Some i) s q = absurd (cc)
