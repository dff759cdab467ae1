-- A tick of a member that isn't gone, from what is due to its entry.
use Rattle.std.proofs.Common.{◌≡◌, ℕ, ◌+◌, ◌==◌, ◌<◌, ◌≤◌, Bool, true, false, ◌||◌, List, [], ◌∷◌, ◌++◌, map, length, refl, ap, sym, ◌∙◌, subst, arith}
use Rattle.std.specs.Prelude.{Option, Some, None, option_map, option_to_list, nat_le, IfSome, if◌then◌else◌}
use Rattle.std.specs.List.{list_any, AllByRecursion}
use Rattle.std.proofs.Math.Bool.{not-not}
use Rattle.std.proofs.lemmas.List.{map-append}
use Rattle.srm_names.proofs.Lists.{AllByRecursion-append}
use Rattle.srm_codec.specs.declared.datagram.Datagram.{Datagram}
use Rattle.srm_codec.specs.declared.datagram.Datagram.TheVariants.{Data, Request, Repair, Session}
use Rattle.srm_timers.specs.declared.arm.Arm.{Arm}
use Rattle.srm_timers.specs.Arms.{AreChosen}
use Rattle.srm_bucket.specs.declared.class.Class.TheVariants.{Shown, New, Other}
use Rattle.srm_bucket.specs.Fits.{BucketStays}
use Rattle.srm_bucket.specs.Waiting.{Waiting, SameQueues, queue, count_of}
use Rattle.srm_agent.specs.declared.agent.due.Due.{Due}
use Rattle.srm_agent.specs.declared.agent.due.DueSessionMessage.{DueSessionMessage}
use Rattle.srm_outbox.specs.declared.due_items.DueItem.{DueItem}
use Rattle.srm_entries.specs.declared.entry.Entry.{Entry}
use Rattle.srm_entries.specs.declared.entry.Input.TheVariants.{Ticked}
use Rattle.srm_outbox.specs.declared.out.Out.{Out}
use Rattle.srm_outbox.specs.declared.out.Outgoing.{Outgoing}
use Rattle.srm_entries.specs.declared.state.AgentState.{AgentState}
use Rattle.srm_entries.specs.declared.state.AgentState.TheVariants.{Active, Leaving, Gone}
use Rattle.srm_entries.specs.Configs.{Config}
use Rattle.srm_agent.specs.Contents.{AgentContent}
use Rattle.srm_entries.specs.Entries.{state, is_gone, is_leaving}
use Rattle.srm_entries.specs.Timers.{low_of, high_of, TimersRight}
use Rattle.srm_codec.specs.Spelling.{is_session, is_farewell}
use Rattle.srm_entries.specs.Sessions.{session_interval, IsSessionMessage, session_message_due}
use Rattle.srm_entries.specs.Runs.{expected_state}
use Rattle.srm_agent.specs.Fits.{AgentFits, BucketFitsPast}
use Rattle.srm_agent_state.specs.TimersKept.{TimersFit}
use Rattle.srm_outbox.specs.Outs.{IsOut, IsOutgoing, IsOwn, AreOwn, datagrams_of}
use Rattle.srm_agent_state.specs.TimerCalls.{TicksWith, TimersAdd, TimersStay}
use Rattle.srm_outbox.specs.DueItems.{AreDueItems}
use Rattle.srm_outbox.specs.Outbox.{WentContent}
use Rattle.srm_agent.specs.Noting.{AgentStays}
use Rattle.srm_agent.specs.Ticking.{TicksAs, tick_entry, IsSessionMessageAt, IsSessionMessageIf, IsDue, HandsOut, SendsAll, data_waits, session_message_at_end, state_after, due_then}
use Rattle.srm_entries.proofs.Ending.{ending_of, ending_is, EndsIn, NoSessions, charged_is, due_by}
use Rattle.srm_agent.proofs.Entering.{max_above}
use Rattle.srm_agent.proofs.Fitting.{refit, roomy}
use Rattle.srm_agent.proofs.Sent.{bucket_ticks}
use Rattle.srm_agent.proofs.Ticks.{IsSent, TickKeeps, TickRight, tick_fits}
use Rattle.srm_agent.proofs.Unsent.{all_sent}

-- room

-- as many wait where the queues are the same
pub count_same : {T : Type 0} (old new : Waiting T) → SameQueues old new → count_of new ≡ count_of old
count_same old new same = rw (same Shown, same New, same Other) refl

-- the message that ends a tick: for its answer, and for its entry
abbrev pub out_of : DueSessionMessage → Out
out_of r = r.outgoing.out

abbrev pub noted_of : DueSessionMessage → Datagram
noted_of r = r.outgoing.noted

-- out of memory: there is room in the bucket, the timers stay, and no random number was consumed
pub tick_stays : {W : Type 0} (a b d : AgentContent W) → b ≡ record a { bucket = b.bucket } → BucketStays a.bucket b.bucket → d ≡ record b { timers = d.timers; words = d.words }
    → TimersStay b.timers d.timers → d.words ≡ b.words → AgentStays a d
tick_stays a b d room bucket rest timers words = record {
  fits = λ c made past h. subst (AgentFits c made past) (sym rest) (subst (λ x. AgentFits c made past (record x { timers = d.timers; words = d.words })) (sym room) (refit c made past a a.store d.timers b.bucket d.words h h.store (timers.each c past (subst (TimersFit c past) (sym (ap (λ x. x.timers) room)) h.timers)) (roomy c past a.bucket b.bucket bucket h.bucket)));
  words = words ∙ ap (λ x. x.words) room;
}

-- all steps of a tick, from the agent as it was to the one after it
pub record Acts {W : Type 0} (next_word : W → ℕ × W) (a b d f z : AgentContent W) (moment : ℕ) (due : Due) (arms : List Arm) (went : WentContent) (last : Option DueSessionMessage) (outs : List Datagram) : Type 0 where
  pub here : is_gone a.state ≡ false
  pub later : a.last ≤ moment
  pub due_is : IsDue a moment due
  pub room : b ≡ record a { bucket = b.bucket }
  pub bucket : BucketStays a.bucket b.bucket
  pub handed_out : HandsOut next_word b due.handed_out moment arms d
  pub handed_rest : d ≡ record b { timers = d.timers; words = d.words }
  pub waited : AreOwn d.config.me d.config.session d.bucket.waiting
  pub sent : SendsAll moment due.due_items.items d.bucket f.bucket went
  pub sent_rest : f ≡ record d { bucket = f.bucket }
  pub last_is : last ≡ session_message_at_end (data_waits f.bucket) due.farewell due.session_message
  pub ended : z ≡ record f { state = state_after (data_waits f.bucket) due.farewell f.state; last = moment; due = due_then last f.due }
  pub outs_are : outs ≡ went.noted ++ option_to_list (option_map noted_of last)

-- what goes under the rate

went_sent : (me session : ℕ) (items : List Outgoing) → AllByRecursion (IsOwn me session) items → AllByRecursion (IsSent me) (map (λ (o : Outgoing). o.noted) items)
went_sent me session [] own = tt
went_sent me session (o ∷ items) own =
    (subst (IsSent me) (sym own.0.spelled.noted) (record { sender = own.0.sender; spellable = own.0.spelled.out.spelled.spellable }), went_sent me session items own.1)

went_charged : (me session : ℕ) (items : List Outgoing) → AllByRecursion (IsOwn me session) items → NoSessions (map (λ (o : Outgoing). o.noted) items)
went_charged me session [] own = tt
went_charged me session (o ∷ items) own = (ap is_session own.0.spelled.noted ∙ own.0.charged, went_charged me session items own.1)

-- what ends a tick

each_last : (P : DueSessionMessage → Type 0) (waits : Bool) (farewell message : Option DueSessionMessage) → IfSome farewell P → IfSome message P → IfSome (session_message_at_end waits farewell message) P
each_last P true farewell message p q = q
each_last P false None message p q = q
each_last P false (Some r) message p q = p

if_some : {W : Type 0} (a : AgentContent W) (moment : ℕ) (farewell : Bool) (P : DueSessionMessage → Type 0) → ((r : DueSessionMessage) → IsSessionMessageAt a moment farewell r → P r) → (wanted : Bool) (o : Option DueSessionMessage) → IsSessionMessageIf wanted a moment farewell o → IfSome o P
if_some a moment farewell P each wanted None h = tt
if_some a moment farewell P each wanted (Some r) h = each r h.1

message_sent : {W : Type 0} (a : AgentContent W) (moment : ℕ) (farewell : Bool) (r : DueSessionMessage) → IsSessionMessageAt a moment farewell r → IsSent a.config.me r.outgoing.noted
message_sent a moment farewell r h = subst (IsSent a.config.me) (sym h.message.outgoing.noted) (record { sender = h.message.message.sender; spellable = h.message.message.spellable })

message_next : {W : Type 0} (c : Config) (made : ℕ) (past : List Entry) (a : AgentContent W) (moment : ℕ) (farewell : Bool) (r : DueSessionMessage) → AgentFits c made past a → IsSessionMessageAt a moment farewell r
    → r.next ≡ moment + session_interval c past r.outgoing.noted
message_next c made past a moment farewell r fits h = h.next c made past fits ∙ ap (λ g. moment + session_interval c past g) (sym h.message.outgoing.noted)

message_is : {W : Type 0} (c : Config) (made : ℕ) (past : List Entry) (a : AgentContent W) (moment : ℕ) (farewell : Bool) (r : DueSessionMessage) → AgentFits c made past a → IsSessionMessageAt a moment farewell r → IsSessionMessage c past moment farewell r.outgoing.noted
message_is c made past a moment farewell r fits h = subst (IsSessionMessage c past moment farewell) (sym h.message.outgoing.noted) (h.message.message.right c made past fits)

message_leaves : {W : Type 0} (a : AgentContent W) (moment : ℕ) (farewell : Bool) (r : DueSessionMessage) → IsSessionMessageAt a moment farewell r → is_farewell r.outgoing.noted ≡ farewell
message_leaves a moment farewell r h = ap is_farewell h.message.outgoing.noted ∙ h.message.message.farewell

message_ends : {W : Type 0} (c : Config) (made : ℕ) (past : List Entry) (a : AgentContent W) (moment : ℕ) → AgentFits c made past a → (is_due : Bool) (message : Option DueSessionMessage) → IsSessionMessageIf is_due a moment false message
    → EndsIn c past moment (if is_due then Some false else None) (option_map noted_of message)
message_ends c made past a moment fits false None h = tt
message_ends c made past a moment fits true None h = absurd (cc)
message_ends c made past a moment fits false (Some r) h = absurd (let k : false ≡ true = h.0 in cc)
message_ends c made past a moment fits true (Some r) h = message_is c made past a moment false r fits h.1

ends_in : {W : Type 0} (c : Config) (made : ℕ) (past : List Entry) (a : AgentContent W) (moment : ℕ) → AgentFits c made past a → (old : AgentState) (waits is_due : Bool) (farewell message : Option DueSessionMessage) → is_gone old ≡ false
    → IsSessionMessageIf (is_leaving old) a moment true farewell → IsSessionMessageIf is_due a moment false message → EndsIn c past moment (ending_of old waits is_due) (option_map noted_of (session_message_at_end waits farewell message))
ends_in c made past a moment fits Gone waits is_due farewell message here f r = absurd (cc)
ends_in c made past a moment fits Active true is_due farewell message here f r = message_ends c made past a moment fits is_due message r
ends_in c made past a moment fits Active false is_due None message here f r = message_ends c made past a moment fits is_due message r
ends_in c made past a moment fits Active false is_due (Some x) message here f r = absurd (let k : false ≡ true = f.0 in cc)
ends_in c made past a moment fits Leaving true is_due farewell message here f r = message_ends c made past a moment fits is_due message r
ends_in c made past a moment fits Leaving false is_due None message here f r = absurd (let k : true ≡ false = f in cc)
ends_in c made past a moment fits Leaving false is_due (Some x) message here f r = message_is c made past a moment true x fits f.1

due_is_by : (c : Config) (past : List Entry) (moment old : ℕ) (last : Option DueSessionMessage) → IfSome last (λ r. r.next ≡ moment + session_interval c past r.outgoing.noted)
    → due_then last old ≡ due_by c past moment old (option_map noted_of last)
due_is_by c past moment old None h = refl
due_is_by c past moment old (Some r) h = h

-- the state after it

no_farewell : (g : Datagram) → is_session g ≡ false → is_farewell g ≡ false
no_farewell (Data d) h = refl
no_farewell (Request s n m) h = refl
no_farewell (Repair s d) h = refl
no_farewell (Session s t f p r o) h = absurd (cc)

only_last : (went : List Datagram) (o : Option Datagram) → NoSessions went → list_any is_farewell (went ++ option_to_list o) ≡ list_any is_farewell (option_to_list o)
only_last [] o none = refl
only_last (g ∷ gs) o none = ap (λ b. b || list_any is_farewell (gs ++ option_to_list o)) (no_farewell g none.0) ∙ only_last gs o none.1

stays_here : (old : AgentState) → is_gone old ≡ false → old ≡ expected_state old false (Some Ticked)
stays_here Active h = refl
stays_here Leaving h = refl
stays_here Gone h = refl

message_state : {W : Type 0} (a : AgentContent W) (moment : ℕ) (old : AgentState) → is_gone old ≡ false → (is_due : Bool) (message : Option DueSessionMessage) → IsSessionMessageIf is_due a moment false message
    → old ≡ expected_state old (list_any is_farewell (option_to_list (option_map noted_of message))) (Some Ticked)
message_state a moment old here is_due None h = stays_here old here
message_state a moment old here is_due (Some r) h = stays_here old here ∙ ap (λ b. expected_state old (b || false) (Some Ticked)) (sym (message_leaves a moment false r h.1))

state_is : {W : Type 0} (a : AgentContent W) (moment : ℕ) (old : AgentState) (waits is_due : Bool) (farewell message : Option DueSessionMessage) → is_gone old ≡ false
    → IsSessionMessageIf (is_leaving old) a moment true farewell → IsSessionMessageIf is_due a moment false message
    → state_after waits farewell old ≡ expected_state old (list_any is_farewell (option_to_list (option_map noted_of (session_message_at_end waits farewell message)))) (Some Ticked)
state_is a moment old true is_due None message here f r = message_state a moment old here is_due message r
state_is a moment old true is_due (Some x) message here f r = message_state a moment old here is_due message r
state_is a moment old false is_due None message here f r = message_state a moment old here is_due message r
state_is a moment old false is_due (Some x) message here f r = ap (λ b. expected_state old (b || false) (Some Ticked)) (sym (message_leaves a moment true x f.1))

-- the run with the entry

acts_fits : {W : Type 0} (next_word : W → ℕ × W) (a b d f z : AgentContent W) (moment : ℕ) (due : Due) (arms : List Arm) (went : WentContent) (last : Option DueSessionMessage) (outs : List Datagram) (c : Config) (made : ℕ) (past : List Entry)
    → Acts next_word a b d f z moment due arms went last outs → AgentFits c made past a → AgentFits c made (past ++ tick_entry c.me moment due.handed_out.asks due.handed_out.fixes arms outs z.state ∷ []) z
acts_fits next_word a b d f z moment due arms went last outs c made past s h =
    tick_fits c made moment past due.handed_out.asks due.handed_out.fixes arms outs z.state wanted went.noted o a z h keeps right refl (ap (λ x. x.last) s.ended)
    (subst (TimersFit c (past ++ e ∷ [])) (sym same_timers) ticked.0.fits) (subst (BucketFitsPast c (past ++ e ∷ [])) (sym (ap (λ x. x.bucket) s.ended)) in_bucket) due_right
  where
    waits : Bool
    waits = data_waits f.bucket

    is_due : Bool
    is_due = nat_le a.due moment

    wanted : Option Bool
    wanted = ending_of a.state waits is_due

    o : Option Datagram
    o = option_map noted_of last

    e : Entry
    e = tick_entry c.me moment due.handed_out.asks due.handed_out.fixes arms outs z.state

    d_config : d.config ≡ a.config
    d_config = ap (λ x. x.config) s.handed_rest ∙ ap (λ x. x.config) s.room

    d_bucket : d.bucket ≡ b.bucket
    d_bucket = ap (λ x. x.bucket) s.handed_rest

    same_timers : z.timers ≡ d.timers
    same_timers = ap (λ x. x.timers) s.ended ∙ ap (λ x. x.timers) s.sent_rest

    here : is_gone (state past) ≡ false
    here = ap is_gone (sym h.state) ∙ s.here

    before : AgentFits c made past b
    before = subst (AgentFits c made past) (sym s.room) (refit c made past a a.store a.timers b.bucket a.words h h.store h.timers (roomy c past a.bucket b.bucket s.bucket h.bucket))

    keeps : TickKeeps a z
    keeps = record {
      config = ap (λ x. x.config) s.ended ∙ ap (λ x. x.config) s.sent_rest ∙ ap (λ x. x.config) s.handed_rest ∙ ap (λ x. x.config) s.room;
      showing = ap (λ x. x.showing) s.ended ∙ ap (λ x. x.showing) s.sent_rest ∙ ap (λ x. x.showing) s.handed_rest ∙ ap (λ x. x.showing) s.room;
      pages = ap (λ x. x.pages) s.ended ∙ ap (λ x. x.pages) s.sent_rest ∙ ap (λ x. x.pages) s.handed_rest ∙ ap (λ x. x.pages) s.room;
      progress = ap (λ x. x.progress) s.ended ∙ ap (λ x. x.progress) s.sent_rest ∙ ap (λ x. x.progress) s.handed_rest ∙ ap (λ x. x.progress) s.room;
      store = ap (λ x. x.store) s.ended ∙ ap (λ x. x.store) s.sent_rest ∙ ap (λ x. x.store) s.handed_rest ∙ ap (λ x. x.store) s.room;
      distances = ap (λ x. x.distances) s.ended ∙ ap (λ x. x.distances) s.sent_rest ∙ ap (λ x. x.distances) s.handed_rest ∙ ap (λ x. x.distances) s.room;
    }

    ticks_with : TicksWith due.handed_out.asks due.handed_out.fixes moment arms e
    ticks_with = record { ticked = refl; heard = refl; moment = refl; drawn = refl; arms = refl; asks = refl; fixes = refl }

    ticked : TimersAdd c past e d.timers × TimersRight past e
    ticked = s.handed_out.ticks.each c made past e before ticks_with here (s.due_is.handed_out.asks.each c past h.timers) (s.due_is.handed_out.fixes.each c past h.timers)

    own : AllByRecursion (IsOwn d.config.me d.config.session) s.sent.lets.items
    own = s.sent.lets.own d.config.me d.config.session (s.sent.hands.own d.config.me d.config.session s.waited
        (subst (λ k. AllByRecursion (λ x. IsOwn k.me k.session x.item.value) due.due_items.items) (sym d_config) s.due_is.due_items.spelled.own))

    me_is : d.config.me ≡ c.me
    me_is = ap (λ k. k.me) d_config ∙ ap (λ k. k.me) h.config

    each : AllByRecursion (IsSent c.me) went.noted
    each = subst (AllByRecursion (IsSent c.me)) (sym s.sent.lets.noted) (subst (λ m. AllByRecursion (IsSent m) (map (λ (x : Outgoing). x.noted) s.sent.lets.items)) me_is (went_sent d.config.me d.config.session s.sent.lets.items own))

    none : NoSessions went.noted
    none = subst NoSessions (sym s.sent.lets.noted) (went_charged d.config.me d.config.session s.sent.lets.items own)

    ends : EndsIn c past moment wanted o
    ends = subst (λ l. EndsIn c past moment wanted (option_map noted_of l)) (sym s.last_is) (ends_in c made past a moment h a.state waits is_due due.farewell due.session_message s.here s.due_is.farewell s.due_is.session_message)

    last_sent : AllByRecursion (IsSent c.me) (option_to_list o)
    last_sent = listed last (subst (λ l. IfSome l (λ r. IsSent c.me r.outgoing.noted)) (sym s.last_is) (each_last (λ r. IsSent c.me r.outgoing.noted) waits due.farewell due.session_message
        (if_some a moment true (λ r. IsSent c.me r.outgoing.noted) (λ r k. subst (λ m. IsSent m r.outgoing.noted) (ap (λ k. k.me) h.config) (message_sent a moment true r k)) (is_leaving a.state) due.farewell s.due_is.farewell)
        (if_some a moment false (λ r. IsSent c.me r.outgoing.noted) (λ r k. subst (λ m. IsSent m r.outgoing.noted) (ap (λ k. k.me) h.config) (message_sent a moment false r k)) is_due due.session_message s.due_is.session_message)))
      where
        listed : (l : Option DueSessionMessage) → IfSome l (λ r. IsSent c.me r.outgoing.noted) → AllByRecursion (IsSent c.me) (option_to_list (option_map noted_of l))
        listed None k = tt
        listed (Some r) k = (k, tt)

    due_right : z.due ≡ due_by c past moment a.due o
    due_right = ap (λ x. x.due) s.ended ∙ ap (due_then last) (ap (λ x. x.due) s.sent_rest ∙ ap (λ x. x.due) s.handed_rest ∙ ap (λ x. x.due) s.room)
        ∙ due_is_by c past moment a.due last (subst (λ l. IfSome l (λ r. r.next ≡ moment + session_interval c past r.outgoing.noted)) (sym s.last_is)
        (each_last (λ r. r.next ≡ moment + session_interval c past r.outgoing.noted) waits due.farewell due.session_message
        (if_some a moment true (λ r. r.next ≡ moment + session_interval c past r.outgoing.noted) (λ r k. message_next c made past a moment true r h k) (is_leaving a.state) due.farewell s.due_is.farewell)
        (if_some a moment false (λ r. r.next ≡ moment + session_interval c past r.outgoing.noted) (λ r k. message_next c made past a moment false r h k) is_due due.session_message s.due_is.session_message)))

    in_bucket : BucketFitsPast c (past ++ e ∷ []) f.bucket
    in_bucket = bucket_ticks c d.config.session past e d.bucket s.sent.after_hand_in f.bucket a.showing s.due_is.due_items.datagrams due.due_items.items went
        (subst (BucketFitsPast c past) (sym d_bucket) before.bucket) (subst (λ m. AreOwn m d.config.session d.bucket.waiting) me_is s.waited)
        (subst (λ m. AreDueItems m d.config.session a.showing s.due_is.due_items.datagrams due.due_items.items) (ap (λ k. k.me) h.config) (subst (λ k. AreDueItems a.config.me k.session a.showing s.due_is.due_items.datagrams due.due_items.items) (sym d_config) s.due_is.due_items.spelled))
        h.showing s.sent.hands s.sent.lets
        (record { ticked = refl; here = here; drawn = refl; datagrams_are = s.due_is.due_items.value c made past h; charged_are = charged_is c past e wanted went.noted o none s.outs_are ends })

    ending_right : session_message_due c made past e ≡ wanted
    ending_right = ending_is c made past e a.state waits is_due refl h.state
        (not-not (length (queue f.bucket.waiting New) == 0) ∙ sym (all_sent c (past ++ e ∷ []) f.bucket in_bucket)) (ap (λ n. nat_le n moment) h.due)

    state_right : z.state ≡ expected_state (state past) (list_any is_farewell outs) (Some Ticked)
    state_right = ap (λ x. x.state) s.ended ∙ ap (state_after waits due.farewell) (ap (λ x. x.state) s.sent_rest ∙ ap (λ x. x.state) s.handed_rest ∙ ap (λ x. x.state) s.room)
        ∙ state_is a moment a.state waits is_due due.farewell due.session_message s.here s.due_is.farewell s.due_is.session_message
        ∙ ap (λ l. expected_state a.state (list_any is_farewell (option_to_list (option_map noted_of l))) (Some Ticked)) (sym s.last_is)
        ∙ ap (λ b. expected_state a.state b (Some Ticked)) (sym (only_last went.noted o none)) ∙ ap (λ gs. expected_state a.state (list_any is_farewell gs) (Some Ticked)) (sym s.outs_are)
        ∙ ap (λ st. expected_state st (list_any is_farewell outs) (Some Ticked)) h.state

    right : TickRight c made past e wanted went.noted o
    right = record {
      moment = subst (λ n. n ≤ moment) h.last s.later;
      arms = ticked.0.arms;
      timers = ticked.1;
      outs = s.outs_are;
      each = each;
      charged = none;
      last = last_sent;
      ending = ending_right;
      ends = ends;
      state = state_right;
    }

-- what is answered

sent_outs : (me session : ℕ) (items : List Outgoing) → AllByRecursion (IsOwn me session) items → map (λ (x : Out). x.datagram) (map (λ (o : Outgoing). o.out) items) ≡ map (λ (o : Outgoing). o.noted) items
sent_outs me session [] own = refl
sent_outs me session (o ∷ items) own = ap (λ g. g ∷ map (λ (x : Out). x.datagram) (map (λ (y : Outgoing). y.out) items)) (sym own.0.spelled.noted) ∙ ap (λ gs. o.noted ∷ gs) (sent_outs me session items own.1)

sent_spelled : (me session : ℕ) (items : List Outgoing) → AllByRecursion (IsOwn me session) items → AllByRecursion (IsOut session) (map (λ (o : Outgoing). o.out) items)
sent_spelled me session [] own = tt
sent_spelled me session (o ∷ items) own = (own.0.spelled.out, sent_spelled me session items own.1)

last_out : (session : ℕ) (last : Option DueSessionMessage) → IfSome last (λ r. IsOutgoing session r.outgoing) → map (λ (x : Out). x.datagram) (option_to_list (option_map out_of last)) ≡ option_to_list (option_map noted_of last)
last_out session None h = refl
last_out session (Some r) h = ap (λ g. g ∷ []) (sym h.noted)

last_spelled : (session : ℕ) (last : Option DueSessionMessage) → IfSome last (λ r. IsOutgoing session r.outgoing) → AllByRecursion (IsOut session) (option_to_list (option_map out_of last))
last_spelled session None h = tt
last_spelled session (Some r) h = (h.out, tt)

-- what is answered is spelled, and its datagrams are those that are noted
pub acts_outs : {W : Type 0} (next_word : W → ℕ × W) (a b d f z : AgentContent W) (moment : ℕ) (due : Due) (arms : List Arm) (went : WentContent) (last : Option DueSessionMessage) (outs : List Datagram) (answered : List Out)
    → Acts next_word a b d f z moment due arms went last outs → answered ≡ went.outs ++ option_to_list (option_map out_of last) → (outs ≡ datagrams_of answered) × AllByRecursion (IsOut a.config.session) answered
acts_outs next_word a b d f z moment due arms went last outs answered s is = (
  sym (ap datagrams_of is ∙ map-append (λ (x : Out). x.datagram) went.outs (option_to_list (option_map out_of last))
      ∙ ap (λ xs. datagrams_of xs ++ datagrams_of (option_to_list (option_map out_of last))) s.sent.lets.outs
      ∙ ap (λ gs. gs ++ datagrams_of (option_to_list (option_map out_of last))) (sent_outs d.config.me d.config.session s.sent.lets.items own ∙ sym s.sent.lets.noted)
      ∙ ap (λ gs. went.noted ++ gs) (last_out a.config.session last spelled) ∙ sym s.outs_are),
  subst (AllByRecursion (IsOut a.config.session)) (sym is) (AllByRecursion-append (IsOut a.config.session) went.outs (option_to_list (option_map out_of last))
      (subst (AllByRecursion (IsOut a.config.session)) (sym s.sent.lets.outs) (subst (λ n. AllByRecursion (IsOut n) (map (λ (o : Outgoing). o.out) s.sent.lets.items)) (ap (λ k. k.session) d_config) (sent_spelled d.config.me d.config.session s.sent.lets.items own)))
      (last_spelled a.config.session last spelled)),
)
  where
    d_config : d.config ≡ a.config
    d_config = ap (λ x. x.config) s.handed_rest ∙ ap (λ x. x.config) s.room

    own : AllByRecursion (IsOwn d.config.me d.config.session) s.sent.lets.items
    own = s.sent.lets.own d.config.me d.config.session (s.sent.hands.own d.config.me d.config.session s.waited
        (subst (λ k. AllByRecursion (λ x. IsOwn k.me k.session x.item.value) due.due_items.items) (sym d_config) s.due_is.due_items.spelled.own))

    spelled : IfSome last (λ r. IsOutgoing a.config.session r.outgoing)
    spelled = subst (λ l. IfSome l (λ r. IsOutgoing a.config.session r.outgoing)) (sym s.last_is) (each_last (λ r. IsOutgoing a.config.session r.outgoing) (data_waits f.bucket) due.farewell due.session_message
        (if_some a moment true (λ r. IsOutgoing a.config.session r.outgoing) (λ r k. k.message.outgoing) (is_leaving a.state) due.farewell s.due_is.farewell)
        (if_some a moment false (λ r. IsOutgoing a.config.session r.outgoing) (λ r k. k.message.outgoing) (nat_le a.due moment) due.session_message s.due_is.session_message))

-- the entry of what is answered
pub acts_ticks : {W : Type 0} (next_word : W → ℕ × W) (a b d f z : AgentContent W) (moment : ℕ) (due : Due) (arms : List Arm) (went : WentContent) (last : Option DueSessionMessage) (outs : List Datagram) (answered : List Out)
    → Acts next_word a b d f z moment due arms went last outs → answered ≡ went.outs ++ option_to_list (option_map out_of last)
    → TicksAs next_word moment moment a z (record { asks = due.handed_out.asks; fixes = due.handed_out.fixes; arms = arms; outs = answered; state = z.state })
acts_ticks next_word a b d f z moment due arms went last outs answered s is = record {
  enters = record {
    input_is = refl;
    moment_is = max_above a.last moment s.later;
    fits = λ c made past h. subst (λ x. AgentFits c made (past ++ x ∷ []) z)
        (ap (λ gs. tick_entry c.me moment due.handed_out.asks due.handed_out.fixes arms gs z.state) same.0 ∙ ap (λ k. tick_entry k.me moment due.handed_out.asks due.handed_out.fixes arms (datagrams_of answered) z.state) (sym h.config))
        (acts_fits next_word a b d f z moment due arms went last outs c made past s h);
    words = subst (λ w. AreChosen next_word (low_of a.config) (high_of a.config) a.words arms w) (sym (ap (λ x. x.words) s.ended ∙ ap (λ x. x.words) s.sent_rest))
        (subst (λ k. AreChosen next_word (low_of k) (high_of k) a.words arms d.words) (ap (λ x. x.config) s.room) (subst (λ w. AreChosen next_word (low_of b.config) (high_of b.config) w arms d.words) (ap (λ x. x.words) s.room) s.handed_out.chosen));
  };
  spelled = same.1;
}
  where
    same : (outs ≡ datagrams_of answered) × AllByRecursion (IsOut a.config.session) answered
    same = acts_outs next_word a b d f z moment due arms went last outs answered s is

-- there is room for the requests and repairs, which are own
pub room_to_send : {W : Type 0} (a b d : AgentContent W) (due_items count room : ℕ) → b ≡ record a { bucket = b.bucket } → SameQueues a.bucket.waiting b.bucket.waiting → d ≡ record b { timers = d.timers; words = d.words }
    → count ≡ due_items → count_of a.bucket.waiting + count < room → count_of d.bucket.waiting + due_items < room
room_to_send a b d due_items count room is same rest counted less =
    let k : count_of d.bucket.waiting ≡ count_of a.bucket.waiting = ap (λ x. count_of x.bucket.waiting) rest ∙ count_same a.bucket.waiting b.bucket.waiting same in
    omega (arith, less, counted)

pub own_to_send : {W : Type 0} (a b d : AgentContent W) (due_items : List DueItem) → b ≡ record a { bucket = b.bucket } → d ≡ record b { timers = d.timers; words = d.words }
    → AllByRecursion (λ x. IsOwn a.config.me a.config.session x.item.value) due_items → AllByRecursion (λ x. IsOwn d.config.me d.config.session x.item.value) due_items
own_to_send a b d due_items is rest own = subst (λ k. AllByRecursion (λ x. IsOwn k.me k.session x.item.value) due_items) (sym (ap (λ x. x.config) rest ∙ ap (λ x. x.config) is)) own
