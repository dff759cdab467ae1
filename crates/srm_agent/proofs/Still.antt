-- An agent after an entry without effects.
use Rattle.std.proofs.Common.{◌≡◌, ℕ, ◌≤◌, max, Bool, true, false, not, ◌&&◌, List, [], ◌∷◌, ◌++◌, refl, ap, sym, ◌∙◌, subst}
use Rattle.std.specs.Prelude.{Option, None, unwrap_or, MatchBool}
use Rattle.std.specs.List.{cons_option}
use Rattle.std.proofs.lemmas.List.{append-nil}
use Rattle.srm_names.specs.declared.page_msg.PageMsg.{PageMsg}
use Rattle.srm_names.specs.Histories.{greatest}
use Rattle.srm_entries.specs.declared.state.AgentState.{AgentState}
use Rattle.srm_entries.specs.declared.entry.Entry.{Entry}
use Rattle.srm_entries.specs.declared.entry.Input.{Input}
use Rattle.srm_entries.specs.declared.entry.Verdict.{Verdict}
use Rattle.srm_entries.specs.Configs.{Config}
use Rattle.srm_entries.specs.Entries.{done_input, heard_in, page_shown, is_tick, takes_moment, last_moment, moments_counted, state, is_gone, slots}
use Rattle.srm_entries.specs.Distances.{calls_of}
use Rattle.srm_entries.specs.Verdicts.{VerdictRight}
use Rattle.srm_entries.specs.Giving.{given, given_in, MessageRight}
use Rattle.srm_entries.specs.Runs.{EntryRight, MomentRight, expected_drawop, expected_state}
use Rattle.srm_agent_state.specs.Progress.{ProgressContent, ProgressFits}
use Rattle.srm_agent.specs.Contents.{AgentContent}
use Rattle.srm_agent.specs.Fits.{AgentFits, EachProgressFits}
use Rattle.srm_entries.specs.Still.{entry_without_effects}
use Rattle.srm_entries.proofs.Feeding.{given-snoc}
use Rattle.srm_entries.proofs.Showing.{IsQuiet, state-snoc}
use Rattle.srm_entries.proofs.Quiet.{same_held, same_shown, same_drawn, same_settlings, same_distances}
use Rattle.srm_entries.proofs.Running.{steps_more, last_moment-snoc, shown-page-snoc}
use Rattle.srm_agent.proofs.Quiet.{Quiet, is_quiet, timers_stay, bucket_stays, same_due, no_arms, no_timers, no_session}

-- what an entry without effects may be, after these entries
pub record MayFollow (c : Config) (made : ℕ) (past : List Entry) (moment : ℕ) (input : Input) (verdict : Verdict) (message : Option PageMsg) (after : AgentState) : Type 0 where
  pub unheard : heard_in (done_input verdict input) ≡ None
  pub undrawn : expected_drawop c past moment (done_input verdict input) ≡ None
  pub idle : (is_tick input && not (is_gone (state past))) ≡ false
  pub moment_right : MomentRight c made past (entry_without_effects c.me moment input verdict message after)
  pub verdict_right : VerdictRight c past input verdict
  pub message_right : MessageRight c past input message
  pub state_right : after ≡ expected_state (state past) false (done_input verdict input)

-- a call that takes a moment, ticks nothing and does nothing may follow, whether it is refused or ignored
pub undone_follows : (c : Config) (made : ℕ) (past : List Entry) (moment : ℕ) (input : Input) (verdict : Verdict) (after : AgentState) → done_input verdict input ≡ None → is_tick input ≡ false → takes_moment input ≡ true → last_moment made past ≤ moment
    → VerdictRight c past input verdict → MessageRight c past input None → after ≡ state past → MayFollow c made past moment input verdict None after
undone_follows c made past moment input verdict after undone unticked takes late right message same = record {
  unheard = ap heard_in undone;
  undrawn = ap (expected_drawop c past moment) undone;
  idle = ap (λ b. b && not (is_gone (state past))) unticked;
  moment_right = subst (λ (b : Bool). MatchBool b (last_moment made past ≤ moment) (moment ≡ last_moment made past)) (sym takes) late;
  verdict_right = right;
  message_right = message;
  state_right = same ∙ sym (ap (expected_state (state past) false) undone);
}

quiet : (c : Config) (made : ℕ) (past : List Entry) (moment : ℕ) (input : Input) (verdict : Verdict) (message : Option PageMsg) (after : AgentState)
    → MayFollow c made past moment input verdict message after → Quiet (entry_without_effects c.me moment input verdict message after)
quiet c made past moment input verdict message after m = record { unheard = m.unheard; drawn = refl; arms = refl; asks = refl; fixes = refl }

pub still_right : (c : Config) (made : ℕ) (past : List Entry) (moment : ℕ) (input : Input) (verdict : Verdict) (message : Option PageMsg) (after : AgentState)
    → MayFollow c made past moment input verdict message after → EntryRight c made (record { before = past; this = entry_without_effects c.me moment input verdict message after })
still_right c made past moment input verdict message after m =
    let q = quiet c made past moment input verdict message after m in
    record {
      member = refl;
      moment = m.moment_right;
      verdict = m.verdict_right;
      drawn = sym m.undrawn;
      arms = no_arms c past _ q;
      timers = no_timers past (entry_without_effects c.me moment input verdict message after) refl refl (record { rests = m.idle; outs = refl });
      senders = tt;
      spelled = tt;
      read = rw m.unheard tt;
      session = no_session c made past _ (record { rests = m.idle; outs = refl });
      message = m.message_right;
      state = m.state_right;
    }

-- all but the state, the last moment, the page shown, the pages and the progress are as they were
pub record SameParts {W : Type 0} (a b : AgentContent W) : Type 0 where
  pub config : b.config ≡ a.config
  pub store : b.store ≡ a.store
  pub distances : b.distances ≡ a.distances
  pub timers : b.timers ≡ a.timers
  pub bucket : b.bucket ≡ a.bucket
  pub due : b.due ≡ a.due

pub still_fits : {W : Type 0} (c : Config) (made : ℕ) (past : List Entry) (a b : AgentContent W) (moment : ℕ) (input : Input) (verdict : Verdict) (message : Option PageMsg) (after : AgentState)
    → AgentFits c made past a → MayFollow c made past moment input verdict message after → SameParts a b → b.state ≡ after
    → b.last ≡ max a.last (greatest (moments_counted verdict (entry_without_effects c.me moment input verdict message after)))
    → b.showing ≡ unwrap_or (page_shown (done_input verdict input)) a.showing
    → b.pages ≡ slots (past ++ entry_without_effects c.me moment input verdict message after ∷ [])
    → EachProgressFits (past ++ entry_without_effects c.me moment input verdict message after ∷ []) b.progress
    → AgentFits c made (past ++ entry_without_effects c.me moment input verdict message after ∷ []) b
still_fits c made past a b moment input verdict message after h m same is_state is_last is_showing is_pages progress =
    let q = quiet c made past moment input verdict message after m in
    let e : Entry = entry_without_effects c.me moment input verdict message after in
    let hears : IsQuiet e = is_quiet e q in
    record {
      run = steps_more (EntryRight c made) past _ h.run (still_right c made past moment input verdict message after m);
      config = same.config ∙ h.config;
      state = is_state ∙ sym (state-snoc past _);
      last = is_last ∙ ap (λ n. max n (greatest (moments_counted verdict (entry_without_effects c.me moment input verdict message after)))) h.last ∙ sym (last_moment-snoc made past _);
      showing = is_showing ∙ ap (unwrap_or (page_shown (done_input verdict input))) h.showing ∙ sym (shown-page-snoc past _);
      pages = is_pages;
      progress = progress;
      store = rw (same.store, same_held past e hears, same_shown past e hears, same_settlings past e hears.0) h.store;
      distances = rw (same.distances, same_distances c.me past e (ap (calls_of c.me moment) hears.0)) h.distances;
      timers = rw same.timers (timers_stay c past _ a.timers q h.timers);
      bucket = rw same.bucket (bucket_stays c past e a.bucket refl refl refl (record { rests = m.idle; outs = refl }) h.bucket);
      due = same.due ∙ h.due ∙ sym (same_due c made past _ refl);
      own = λ page. rw (same_drawn past e hears, same_shown past e hears) (h.own page);
      spelled = rw (same_held past e hears) h.spelled;
    }

-- where no message is given the progress stays
pub same_progress : (past : List Entry) (e : Entry) (progress : List ProgressContent) → ((j : ℕ) → given_in j e.input e.effects.message ≡ None) → EachProgressFits past progress → EachProgressFits (past ++ e ∷ []) progress
same_progress past e progress none h = record {
  each = λ j f at. subst (λ g. ProgressFits g f) (sym (given-snoc past e j ∙ ap (λ o. given past j ++ cons_option o []) (none j) ∙ append-nil (given past j))) (h.each j f at);
}
