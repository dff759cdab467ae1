-- The entry of a tick is one that those before it allow, and the agent fits the run with it.
use Rattle.std.proofs.Common.{◌≡◌, ℕ, ◌≤◌, Bool, List, [], ◌∷◌, ◌++◌, refl, ap, sym, ◌∙◌, subst}
use Rattle.std.specs.Prelude.{Option, Some, option_to_list}
use Rattle.std.specs.List.{list_any, AllByRecursion}
use Rattle.srm_names.specs.FullName.{FullName}
use Rattle.srm_names.proofs.Lists.{AllByRecursion-append, all_by}
use Rattle.srm_codec.specs.declared.datagram.Datagram.{Datagram}
use Rattle.srm_codec.specs.Spelling.{sender_of, IsSpellable, is_farewell}
use Rattle.srm_timers.specs.declared.arm.Arm.{Arm}
use Rattle.srm_entries.specs.declared.entry.Entry.{Entry}
use Rattle.srm_entries.specs.declared.entry.Input.TheVariants.{Ticked}
use Rattle.srm_entries.specs.declared.state.AgentState.{AgentState}
use Rattle.srm_entries.specs.Configs.{Config}
use Rattle.srm_entries.specs.Entries.{state, last_moment}
use Rattle.srm_entries.specs.Timers.{ArmsRight, TimersRight}
use Rattle.srm_entries.specs.Sessions.{session_message_due}
use Rattle.srm_entries.specs.Runs.{EntryRight, expected_state}
use Rattle.srm_agent.specs.Ticking.{tick_entry}
use Rattle.srm_agent.specs.Contents.{AgentContent}
use Rattle.srm_agent.specs.Fits.{AgentFits, BucketFitsPast}
use Rattle.srm_agent_state.specs.TimersKept.{TimersFit}
use Rattle.srm_entries.proofs.Ending.{EndsIn, NoSessions, session_right, due_by, due_after}
use Rattle.srm_entries.proofs.Running.{steps_more, shown-page-snoc, slots-same}
use Rattle.srm_entries.proofs.Showing.{IsQuiet, state-snoc}
use Rattle.srm_entries.proofs.Quiet.{same_held, same_shown, same_drawn, same_settlings, same_distances}
use Rattle.srm_entries.proofs.Spending.{tick_is_last}
use Rattle.srm_agent.proofs.Still.{same_progress}

-- what a member sends: its own, spellable, and under the rate no session message
pub record IsSent (me : ℕ) (g : Datagram) : Type 0 where
  pub sender : sender_of g ≡ me
  pub spellable : IsSpellable g

-- what a tick at a moment does, after these entries
pub record TickRight (c : Config) (made : ℕ) (past : List Entry) (e : Entry) (wanted : Option Bool) (went : List Datagram) (o : Option Datagram) : Type 0 where
  pub moment : last_moment made past ≤ e.moment
  pub arms : ArmsRight c past e
  pub timers : TimersRight past e
  pub outs : e.effects.outs ≡ went ++ option_to_list o
  pub each : AllByRecursion (IsSent c.me) went
  pub charged : NoSessions went
  pub last : AllByRecursion (IsSent c.me) (option_to_list o)
  pub ending : session_message_due c made past e ≡ wanted
  pub ends : EndsIn c past e.moment wanted o
  pub state : e.effects.state ≡ expected_state (state past) (list_any is_farewell e.effects.outs) (Some Ticked)

pub tick_right : (c : Config) (made moment : ℕ) (past : List Entry) (asks fixes : List FullName) (arms : List Arm) (outs : List Datagram) (after : AgentState) (wanted : Option Bool) (went : List Datagram) (o : Option Datagram)
    → TickRight c made past (tick_entry c.me moment asks fixes arms outs after) wanted went o → EntryRight c made (record { before = past; this = tick_entry c.me moment asks fixes arms outs after })
tick_right c made moment past asks fixes arms outs after wanted went o t =
    let all : AllByRecursion (IsSent c.me) outs = subst (AllByRecursion (IsSent c.me)) (sym t.outs) (AllByRecursion-append (IsSent c.me) went (option_to_list o) t.each t.last) in
    record {
      member = refl;
      moment = t.moment;
      verdict = refl;
      drawn = refl;
      arms = t.arms;
      timers = t.timers;
      senders = all_by (IsSent c.me) (λ g. sender_of g ≡ c.me) outs (λ g sent. sent.sender) all;
      spelled = all_by (IsSent c.me) IsSpellable outs (λ g sent. sent.spellable) all;
      read = tt;
      session = session_right c made past (tick_entry c.me moment asks fixes arms outs after) wanted went o t.ending t.charged t.outs t.ends;
      message = refl;
      state = t.state;
    }

-- all but state, last moment, timers, bucket and the next due moment are as they were
pub record TickKeeps {W : Type 0} (a b : AgentContent W) : Type 0 where
  pub config : b.config ≡ a.config
  pub showing : b.showing ≡ a.showing
  pub pages : b.pages ≡ a.pages
  pub progress : b.progress ≡ a.progress
  pub store : b.store ≡ a.store
  pub distances : b.distances ≡ a.distances

pub tick_fits : {W : Type 0} (c : Config) (made moment : ℕ) (past : List Entry) (asks fixes : List FullName) (arms : List Arm) (outs : List Datagram) (after : AgentState) (wanted : Option Bool) (went : List Datagram) (o : Option Datagram) (a b : AgentContent W)
    → AgentFits c made past a → TickKeeps a b → TickRight c made past (tick_entry c.me moment asks fixes arms outs after) wanted went o
    → b.state ≡ after → b.last ≡ moment → TimersFit c (past ++ tick_entry c.me moment asks fixes arms outs after ∷ []) b.timers → BucketFitsPast c (past ++ tick_entry c.me moment asks fixes arms outs after ∷ []) b.bucket
    → b.due ≡ due_by c past moment a.due o → AgentFits c made (past ++ tick_entry c.me moment asks fixes arms outs after ∷ []) b
tick_fits c made moment past asks fixes arms outs after wanted went o a b h keeps t is_state is_last timers bucket is_due =
    let right = tick_right c made moment past asks fixes arms outs after wanted went o t in
    let e : Entry = tick_entry c.me moment asks fixes arms outs after in
    let hears : IsQuiet e = (refl, refl) in
    record {
      run = steps_more (EntryRight c made) past _ h.run right;
      config = keeps.config ∙ h.config;
      state = is_state ∙ sym (state-snoc past _);
      last = is_last ∙ sym (tick_is_last c made past _ right refl);
      showing = keeps.showing ∙ h.showing ∙ sym (shown-page-snoc past _);
      pages = keeps.pages ∙ h.pages ∙ sym (slots-same past _ refl);
      progress = rw keeps.progress (same_progress past _ a.progress (λ j. refl) h.progress);
      store = rw (keeps.store, same_held past e hears, same_shown past e hears, same_settlings past e refl) h.store;
      distances = rw (keeps.distances, same_distances c.me past e refl) h.distances;
      timers = timers;
      bucket = bucket;
      due = is_due ∙ ap (λ n. due_by c past moment n o) h.due ∙ sym (due_after c made past _ wanted went o t.charged t.outs t.ends);
      own = λ page. rw (same_drawn past e hears, same_shown past e hears) (h.own page);
      spelled = rw (same_held past e hears) h.spelled;
    }
