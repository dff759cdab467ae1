-- A member of a world goes on with the entry of a call.
use Rattle.std.proofs.Common.{◌≡◌, ℕ, ◌^◌, ◌≤◌, ◌<◌, max, Bool, true, false, List, [], ◌∷◌, ◌++◌, length, refl, ap, sym, ◌∙◌, subst, arith, append_assoc}
use Rattle.std.specs.Prelude.{Option, Some, None, Result, Ok, Err, IfOk, MatchBool, ◌==◌, cond, slice_get, option_to_list}
use Rattle.std.specs.List.{cons_option, AllByRecursion}
use Rattle.std.proofs.lemmas.List.{append-nil}
use Rattle.std.proofs.lemmas.Result.{IfOk-at_ok}
use Rattle.srm_names.specs.declared.page_msg.PageMsg.{PageMsg}
use Rattle.srm_names.specs.Histories.{steps, greatest}
use Rattle.srm_names.proofs.Lists.{at_parts, rest_first}
use Rattle.srm_codec.specs.declared.datagram.Datagram.{Datagram}
use Rattle.srm_codec.specs.declared.fault.DecodeFault.{DecodeFault}
use Rattle.srm_codec.specs.Spelling.{AreBytes}
use Rattle.srm_codec.specs.Judging.{judge}
use Rattle.srm_codec.proofs.JudgingLaws.{undoes}
use Rattle.srm_entries.specs.declared.cause.Cause.TheVariants as causes
use Rattle.srm_entries.specs.declared.fault.AgentFault.{AgentFault}
use Rattle.srm_outbox.specs.declared.out.Out.{Out}
use Rattle.srm_agent.specs.declared.ticked.Ticked.{Ticked}
use Rattle.srm_entries.specs.declared.entry.Entry.{Entry}
use Rattle.srm_entries.specs.declared.entry.Input.{Input}
use Rattle.srm_entries.specs.declared.entry.Input.TheVariants.{Drew, Heard, Noise, Showed, AskedLeave, Gave, Took}
use Rattle.srm_entries.specs.declared.entry.Input.TheVariants as inputs
use Rattle.srm_entries.specs.declared.entry.Verdict.{Verdict}
use Rattle.srm_entries.specs.declared.entry.Verdict.TheVariants.{Done, Ignored, Refused}
use Rattle.srm_entries.specs.declared.state.AgentState.TheVariants.{Active}
use Rattle.srm_entries.specs.Configs.{Config}
use Rattle.srm_agent.specs.Contents as agents
use Rattle.srm_entries.specs.Entries.{takes_moment, moments_counted, last_moment, state, is_gone}
use Rattle.srm_entries.specs.Giving.{given, taken, given_in, taken_in, next_taken}
use Rattle.srm_entries.specs.Hearing.{read_as}
use Rattle.srm_outbox.specs.Outs.{IsOut, datagrams_of}
use Rattle.srm_entries.specs.Verdicts.{VerdictRight}
use Rattle.srm_entries.specs.Runs.{EntryRight}
use Rattle.srm_agent.specs.Fits.{AgentFits}
use Rattle.srm_agent.specs.Noting.{AgentStays, Enters, ReadsAs, AnswersAs, IsTicked, moment_that_counts}
use Rattle.srm_entries.specs.Still.{entry_without_effects}
use Rattle.srm_entries.proofs.Running.{last_moment-snoc, slots-same}
use Rattle.srm_agent.proofs.Still.{still_fits, same_progress}
use Rattle.srm_entries.proofs.Showing.{state-snoc}
use Rattle.srm_entries.proofs.Feeding.{given-snoc, taken-snoc}
use Rattle.srm_world.specs.Events.{input_heard}
use Rattle.srm_world.specs.Lane.{LaneContent}
use Rattle.srm_world.specs.Lanes.{AreEmpty, Gains, Loses, in_lane}
use Rattle.srm_world.specs.Participants.{ParticipantContent, ParticipantFits, LanesFit, ParticipantAdds, GoesOn, ParticipantStays, HearsBytes, SendsOuts, last_with}

-- the newest entry of a run is right
pub newest_right : (c : Config) (made : ℕ) (past : List Entry) (e : Entry) → AllByRecursion (EntryRight c made) (steps (past ++ e ∷ [])) → EntryRight c made (record { before = past; this = e })
newest_right c made past e all = (at_parts (EntryRight c made) past (e ∷ []) all).1.0

-- the last moment after an entry that was at the moment that counts
last_after : (made : ℕ) (past : List Entry) (e : Entry) → MatchBool (takes_moment e.input) (last_moment made past ≤ e.moment) (e.moment ≡ last_moment made past)
    → last_with (last_moment made past) e.verdict e.moment ≡ last_moment made (past ++ e ∷ [])
last_after made past e right = at e.verdict refl ∙ sym (last_moment-snoc made past e)
  where
    clocked : (b : Bool) (m l : ℕ) → MatchBool b (l ≤ m) (m ≡ l) → m ≡ max l (greatest (cond b (m ∷ []) []))
    clocked true m l r = omega (arith, r)
    clocked false m l r = omega (arith, r)

    at : (v : Verdict) → e.verdict ≡ v → last_with (last_moment made past) v e.moment ≡ max (last_moment made past) (greatest (moments_counted v e))
    at (Refused fault) q = omega arith
    at Done q = clocked (takes_moment e.input) e.moment (last_moment made past) right
    at (Ignored cause) q = clocked (takes_moment e.input) e.moment (last_moment made past) right

-- a call with a moment moves no message of a slot
ungiven : (input : Input) (j : ℕ) (m : Option PageMsg) → takes_moment input ≡ true → given_in j input m ≡ None
ungiven (Gave slot) j m e = absurd (cc)
ungiven (Took slot) j m e = refl
ungiven (Drew page body) j m e = refl
ungiven (Heard g) j m e = refl
ungiven Noise j m e = refl
ungiven inputs.Ticked j m e = refl
ungiven (Showed page) j m e = refl
ungiven AskedLeave j m e = refl

untaken : (input : Input) (j : ℕ) (m : Option PageMsg) → takes_moment input ≡ true → taken_in j input m ≡ None
untaken (Gave slot) j m e = refl
untaken (Took slot) j m e = absurd (cc)
untaken (Drew page body) j m e = refl
untaken (Heard g) j m e = refl
untaken Noise j m e = refl
untaken inputs.Ticked j m e = refl
untaken (Showed page) j m e = refl
untaken AskedLeave j m e = refl

-- one more entry, and what it gives and takes in a slot
given_more : (past : List Entry) (e : Entry) (j : ℕ) (o : Option PageMsg) → given_in j e.input e.effects.message ≡ o → given (past ++ e ∷ []) j ≡ given past j ++ cons_option o []
given_more past e j o q = given-snoc past e j ∙ ap (λ x. given past j ++ cons_option x []) q

taken_more : (past : List Entry) (e : Entry) (j : ℕ) (o : Option PageMsg) → taken_in j e.input e.effects.message ≡ o → taken (past ++ e ∷ []) j ≡ taken past j ++ cons_option o []
taken_more past e j o q = taken-snoc past e j ∙ ap (λ x. taken past j ++ cons_option x []) q

lane_stays : (past : List Entry) (e : Entry) (j : ℕ) (waiting : List PageMsg) → given_in j e.input e.effects.message ≡ None → taken_in j e.input e.effects.message ≡ None
    → given past j ≡ taken past j ++ waiting → given (past ++ e ∷ []) j ≡ taken (past ++ e ∷ []) j ++ waiting
lane_stays past e j waiting g t h =
    given_more past e j None g ∙ append-nil (given past j) ∙ h ∙ ap (λ xs. xs ++ waiting) (sym (taken_more past e j None t ∙ append-nil (taken past j)))

pub lanes_stay : (past : List Entry) (e : Entry) (input : Input) (lanes : List LaneContent) → e.input ≡ input → takes_moment input ≡ true → LanesFit past lanes → LanesFit (past ++ e ∷ []) lanes
lanes_stay past e input lanes is still h j l at =
    lane_stays past e j l.waiting (ungiven e.input j e.effects.message (ap takes_moment is ∙ still)) (untaken e.input j e.effects.message (ap takes_moment is ∙ still)) (h j l at)

-- the one step: each thing that is kept goes on as the entry says
pub adds : {W : Type 0} (c : Config) (made : ℕ) (past : List Entry) (now : Option ℕ) (p q : ParticipantContent W) (e : Entry) → ParticipantFits c made past p → AgentFits c made (past ++ e ∷ []) q.agent
    → q.config ≡ p.config → e.moment ≡ moment_that_counts now p.agent.last → q.last ≡ last_with p.last e.verdict e.moment → q.state ≡ e.effects.state → LanesFit (past ++ e ∷ []) q.lanes
    → ParticipantAdds c made past now q e
adds c made past now p q e h fits config moment last after lanes = record {
  moment = moment ∙ ap (moment_that_counts now) h.agent.last;
  fits = record {
    agent = fits;
    config = config ∙ h.config;
    last = last ∙ ap (λ l. last_with l e.verdict e.moment) h.last ∙ last_after made past e (newest_right c made past e fits.run).moment;
    state = after ∙ sym (state-snoc past e);
    lanes = lanes;
  };
}

-- a call that moves no message
pub goes_on : {W : Type 0} (next_word : W → ℕ × W) (now : Option ℕ) (input : Input) (p q : ParticipantContent W) (e : Entry) → Enters next_word now input p.agent q.agent e → takes_moment input ≡ true
    → q.config ≡ p.config → q.last ≡ last_with p.last e.verdict e.moment → q.state ≡ e.effects.state → q.lanes ≡ p.lanes → GoesOn next_word now input p q e
goes_on next_word now input p q e enters still config last after lanes = record {
  input_is = enters.input_is;
  words = enters.words;
  adds = λ c made past h. adds c made past now p q e h (enters.fits c made past h.agent) config enters.moment_is last after
      (subst (λ ls. LanesFit (past ++ e ∷ []) ls) (sym lanes) (lanes_stay past e input p.lanes enters.input_is still h.lanes));
}

-- a heard datagram or noise moves no message

heard_still : (o : Input × Verdict) (gone : Bool) (c : Config) (past : List Entry) (read : Result Datagram DecodeFault) → o ≡ cond gone (Noise, Ignored causes.Gone) (read_as c past read) → takes_moment o.0 ≡ true
heard_still o true c past read q = ap (λ (x : Input × Verdict). takes_moment x.0) q
heard_still o false c past (Ok g) q = ap (λ (x : Input × Verdict). takes_moment x.0) q
heard_still o false c past (Err fault) q = ap (λ (x : Input × Verdict). takes_moment x.0) q

pub hears_on : {W : Type 0} (next_word : W → ℕ × W) (now : Option ℕ) (p q : ParticipantContent W) (bytes : List ℕ) (e : Entry) → Enters next_word now e.input p.agent q.agent e → ReadsAs bytes p.agent e
    → q.config ≡ p.config → q.last ≡ last_with p.last e.verdict e.moment → q.state ≡ e.effects.state → q.lanes ≡ p.lanes → GoesOn next_word now e.input p q e
hears_on next_word now p q bytes e enters reads config last after lanes = record {
  input_is = refl;
  words = enters.words;
  adds = λ c made past h.
      let still : takes_moment e.input ≡ true = heard_still (e.input, e.verdict) (is_gone (state past)) c past (judge c.session bytes) (reads.each c made past h.agent) in
      adds c made past now p q e h (enters.fits c made past h.agent) config enters.moment_is last after
      (subst (λ ls. LanesFit (past ++ e ∷ []) ls) (sym lanes) (lanes_stay past e e.input p.lanes refl still h.lanes));
}

spelled_is_heard : (o : Input × Verdict) (gone : Bool) (c : Config) (past : List Entry) (read : Result Datagram DecodeFault) (g : Datagram) → o ≡ cond gone (Noise, Ignored causes.Gone) (read_as c past read) → read ≡ Ok g → o.0 ≡ input_heard gone g
spelled_is_heard o true c past read g q r = ap (λ (x : Input × Verdict). x.0) q
spelled_is_heard o false c past read g q r = ap (λ (x : Input × Verdict). x.0) q ∙ ap (λ (x : Result Datagram DecodeFault). (read_as c past x).0) r

pub hears_bytes : {W : Type 0} (p : ParticipantContent W) (bytes : List ℕ) (session : ℕ) (e : Entry) → session ≡ p.config.session → session < 2 ^ 32 → AreBytes bytes → ReadsAs bytes p.agent e → HearsBytes bytes p e
hears_bytes p bytes session e is small are reads = record {
  each = λ c made past g h spells.
      spelled_is_heard (e.input, e.verdict) (is_gone (state past)) c past (judge c.session bytes) g (reads.each c made past h.agent)
      ((undoes c.session bytes g (subst (λ n. n < 2 ^ 32) (is ∙ ap (λ (s : Config). s.session) h.config) small) are).1 spells);
}

-- what a tick sends
done_answers : {A : Type 0} (is : A → Type 0) (v : Verdict) (r : Result A AgentFault) → AnswersAs is v r → v ≡ Done → (x : A) × (r ≡ Ok x) × is x
done_answers is (Refused fault) r h e = absurd (cc)
done_answers is (Ignored cause) r h e = absurd (cc)
done_answers is Done (Ok x) h e = (x, refl, h)
done_answers is Done (Err fault) h e = absurd h

pub sends_outs : {W : Type 0} (next_word : W → ℕ × W) (now : Option ℕ) (p : ParticipantContent W) (b : agents.AgentContent W) (e : Entry) (answer : Result Ticked AgentFault) (outs : List Out) → Enters next_word now inputs.Ticked p.agent b e
    → AnswersAs (IsTicked p.agent.config.session e) e.verdict answer → IfOk answer (λ (t : Ticked). outs ≡ t.outs) → SendsOuts p e outs
sends_outs next_word now p b e answer outs enters answers are = record {
  each = λ c made past h.
      let right : EntryRight c made (record { before = past; this = e }) = newest_right c made past e (enters.fits c made past h.agent).run in
      let verdict : e.verdict ≡ Done = of_tick c past e.input e.verdict enters.input_is right.verdict in
      let (ticked, is, t) = done_answers (IsTicked p.agent.config.session e) e.verdict answer answers verdict in
      let same : outs ≡ ticked.outs = IfOk-at_ok (λ (x : Ticked). outs ≡ x.outs) is are in
      record {
        same = ap datagrams_of same ∙ t.outs.same;
        spelled = subst (λ (s : Config). AllByRecursion (IsOut s.session) outs) h.agent.config (subst (AllByRecursion (IsOut p.agent.config.session)) (sym same) t.outs.spelled);
      };
}
  where
    of_tick : (c : Config) (past : List Entry) (input : Input) (v : Verdict) → input ≡ inputs.Ticked → VerdictRight c past input v → v ≡ Done
    of_tick c past input v is r = subst (λ i. VerdictRight c past i v) is r

-- what a worker is given

lane_of_slot : (b : Bool) (o : Option PageMsg) → cons_option (cond b o None) [] ≡ cond b (option_to_list o) []
lane_of_slot true None = refl
lane_of_slot true (Some m) = refl
lane_of_slot false o = refl

given_lanes : (past : List Entry) (e : Entry) (slot : ℕ) (lanes roomy now : List LaneContent) → e.input ≡ Gave slot → Gains slot [] lanes roomy → Gains slot (option_to_list e.effects.message) roomy now → LanesFit past lanes → LanesFit (past ++ e ∷ []) now
given_lanes past e slot lanes roomy now is room gains h j l at =
    let (w, at_w, l_is) = gains.each j l at in
    let (v, at_v, w_is) = room.each j w at_w in
    let before : given past j ≡ taken past j ++ w.waiting = h j v at_v ∙ ap (λ ms. taken past j ++ ms) (sym (w_is ∙ ap (λ ms. v.waiting ++ ms) (nothing (j == slot)) ∙ append-nil v.waiting)) in
    let gives : given (past ++ e ∷ []) j ≡ given past j ++ in_lane slot (option_to_list e.effects.message) j =
    given-snoc past e j ∙ ap (λ i. given past j ++ cons_option (given_in j i e.effects.message) []) is ∙ ap (λ ms. given past j ++ ms) (lane_of_slot (j == slot) e.effects.message) in
    let takes : taken (past ++ e ∷ []) j ≡ taken past j = taken-snoc past e j ∙ ap (λ i. taken past j ++ cons_option (taken_in j i e.effects.message) []) is ∙ append-nil (taken past j) in
    gives ∙ ap (λ ms. ms ++ in_lane slot (option_to_list e.effects.message) j) before ∙ append_assoc (taken past j) w.waiting (in_lane slot (option_to_list e.effects.message) j)
    ∙ ap (λ ms. taken past j ++ ms) (sym l_is) ∙ ap (λ ms. ms ++ l.waiting) (sym takes)
  where
    none : List PageMsg
    none = []

    nothing : (b : Bool) → cond b none none ≡ none
    nothing true = refl
    nothing false = refl

pub gives_on : {W : Type 0} (next_word : W → ℕ × W) (slot : ℕ) (p q : ParticipantContent W) (roomy : List LaneContent) (e : Entry) (answer : Result (Option PageMsg) AgentFault) (message : Option PageMsg) → Enters next_word None (Gave slot) p.agent q.agent e
    → AnswersAs (λ m. m ≡ e.effects.message) e.verdict answer → IfOk answer (λ m. message ≡ m) → Gains slot [] p.lanes roomy → Gains slot (option_to_list message) roomy q.lanes
    → q.config ≡ p.config → q.last ≡ last_with p.last e.verdict e.moment → q.state ≡ e.effects.state → GoesOn next_word None (Gave slot) p q e
gives_on next_word slot p q roomy e answer message enters answers are room gains config last after = record {
  input_is = enters.input_is;
  words = enters.words;
  adds = λ c made past h.
      let right : EntryRight c made (record { before = past; this = e }) = newest_right c made past e (enters.fits c made past h.agent).run in
      let verdict : e.verdict ≡ Done = of_give c past e.input e.verdict enters.input_is right.verdict in
      let (m, is, m_is) = done_answers (λ (m : Option PageMsg). m ≡ e.effects.message) e.verdict answer answers verdict in
      let same : message ≡ e.effects.message = IfOk-at_ok (λ (x : Option PageMsg). message ≡ x) is are ∙ m_is in
      adds c made past None p q e h (enters.fits c made past h.agent) config enters.moment_is last after
      (given_lanes past e slot p.lanes roomy q.lanes enters.input_is room (subst (λ (x : Option PageMsg). Gains slot (option_to_list x) roomy q.lanes) same gains) h.lanes);
}
  where
    of_give : (c : Config) (past : List Entry) (input : Input) (v : Verdict) → input ≡ Gave slot → VerdictRight c past input v → v ≡ Done
    of_give c past input v is r = subst (λ i. VerdictRight c past i v) is r

-- what a worker takes

taken_lanes : (past : List Entry) (e : Entry) (slot : ℕ) (lanes now : List LaneContent) → e.input ≡ Took slot → Loses slot e.effects.message lanes now → LanesFit past lanes → LanesFit (past ++ e ∷ []) now
taken_lanes past e slot lanes now is loses h j l at =
    let (w, at_w, w_is) = loses.each j l at in
    let gives : given (past ++ e ∷ []) j ≡ given past j = given-snoc past e j ∙ ap (λ i. given past j ++ cons_option (given_in j i e.effects.message) []) is ∙ append-nil (given past j) in
    let takes : taken (past ++ e ∷ []) j ≡ taken past j ++ in_lane slot (option_to_list e.effects.message) j =
    taken-snoc past e j ∙ ap (λ i. taken past j ++ cons_option (taken_in j i e.effects.message) []) is ∙ ap (λ ms. taken past j ++ ms) (lane_of_slot (j == slot) e.effects.message) in
    gives ∙ h j w at_w ∙ ap (λ ms. taken past j ++ ms) w_is ∙ sym (append_assoc (taken past j) (in_lane slot (option_to_list e.effects.message) j) l.waiting) ∙ ap (λ ms. ms ++ l.waiting) (sym takes)

pub takes_on : {W : Type 0} (next_word : W → ℕ × W) (slot : ℕ) (p q : ParticipantContent W) (message : Option PageMsg) (e : Entry) → e ≡ entry_without_effects p.config.me p.last (Took slot) Done message p.state
    → Loses slot message p.lanes q.lanes → q.agent ≡ p.agent → q.config ≡ p.config → q.last ≡ p.last → q.state ≡ p.state → GoesOn next_word None (Took slot) p q e
takes_on next_word slot p q message e is loses agent config last after = record {
  input_is = ap (λ (x : Entry). x.input) is;
  words = rw is (ap (λ a. a.words) agent);
  adds = λ c made past h. subst (λ (x : Entry). ParticipantAdds c made past None q x) (sym (is ∙ ap (λ m. entry_without_effects m p.last (Took slot) Done message p.state) (ap (λ (s : Config). s.me) h.config))) (by c made past h);
}
  where
    by : (c : Config) (made : ℕ) (past : List Entry) → ParticipantFits c made past p → ParticipantAdds c made past None q (entry_without_effects c.me p.last (Took slot) Done message p.state)
    by c made past h =
        let e : Entry = entry_without_effects c.me p.last (Took slot) Done message p.state in
        let (w, at, m) = loses.first in
        let next : message ≡ next_taken past slot = m ∙ sym (rest_first (taken past slot) w.waiting) ∙ ap (λ ms. slice_get ms (length (taken past slot))) (sym (h.lanes slot w at)) in
        let fits : AgentFits c made (past ++ e ∷ []) p.agent = still_fits c made past p.agent p.agent p.last (Took slot) Done message p.state h.agent
        (record { unheard = refl; undrawn = refl; idle = refl; moment_right = h.last; verdict_right = refl; message_right = next; state_right = h.state })
        (record { config = refl; store = refl; distances = refl; timers = refl; bucket = refl; due = refl })
        (h.agent.state ∙ sym h.state) (omega arith) refl (h.agent.pages ∙ sym (slots-same past e refl)) (same_progress past e p.agent.progress (λ j. refl) h.agent.progress) in
        adds c made past None p q e h (subst (λ a. AgentFits c made (past ++ e ∷ []) a) (sym agent) fits) config (h.last ∙ sym h.agent.last) last after (taken_lanes past e slot p.lanes q.lanes refl loses h.lanes)

-- a member whose call ran out of memory, with more room in a lane
pub stays_with : {W : Type 0} (slot : ℕ) (p q : ParticipantContent W) → AgentStays p.agent q.agent → Gains slot [] p.lanes q.lanes → q.config ≡ p.config → q.last ≡ p.last → q.state ≡ p.state → ParticipantStays p q
stays_with slot p q same room config last after = record {
  words = same.words;
  fits = λ c made past h. record {
    agent = same.fits c made past h.agent;
    config = config ∙ h.config;
    last = last ∙ h.last;
    state = after ∙ h.state;
    lanes = λ j l at.
        let (w, at_w, l_is) = room.each j l at in
        h.lanes j w at_w ∙ ap (λ ms. taken past j ++ ms) (sym (l_is ∙ ap (λ ms. w.waiting ++ ms) (nothing (j == slot)) ∙ append-nil w.waiting));
  };
}
  where
    none : List PageMsg
    none = []

    nothing : (b : Bool) → cond b none none ≡ none
    nothing true = refl
    nothing false = refl

pub agent_stays : {W : Type 0} (a : agents.AgentContent W) → AgentStays a a
agent_stays a = record { fits = λ c made past h. h; words = refl }

-- a new member
pub begins : {W : Type 0} (c : Config) (made : ℕ) (p : ParticipantContent W) → AgentFits c made [] p.agent → p.config ≡ c → p.last ≡ made → p.state ≡ Active → AreEmpty p.lanes → ParticipantFits c made [] p
begins c made p fits config last after empty = record {
  agent = fits;
  config = config;
  last = last ∙ omega arith;
  state = after;
  lanes = λ j l at. sym (empty.each j l at);
}
