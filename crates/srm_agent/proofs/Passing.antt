-- A tick at which nothing is due: time passes, and that is all.
use Rattle.std.proofs.Common.{◌≡◌, ℕ, ◌≤◌, max, true, false, List, [], ◌∷◌, ◌++◌, refl, ap, sym, ◌∙◌, subst, arith}
use Rattle.std.specs.Prelude.{Some, None, Result, Ok}
use Rattle.std.specs.List.{AllByRecursion}
use Rattle.srm_entries.specs.declared.fault.AgentFault.{AgentFault}
use Rattle.srm_entries.specs.declared.entry.Entry.{Entry}
use Rattle.srm_entries.specs.declared.entry.Input.TheVariants.{Ticked}
use Rattle.srm_entries.specs.declared.state.AgentState.{AgentState}
use Rattle.srm_entries.specs.Configs.{Config}
use Rattle.srm_entries.specs.Entries.{state, is_gone, last_moment}
use Rattle.srm_agent.specs.declared.ticked.Ticked as answers
use Rattle.srm_agent.specs.Contents.{AgentContent}
use Rattle.srm_agent.specs.Fits.{AgentFits}
use Rattle.srm_agent.specs.Noting.{Enters, AnswersAs, HasEntry, IsTicked}
use Rattle.srm_outbox.specs.Outbox.{Passes}
use Rattle.srm_outbox.specs.Outs.{IsOut}
use Rattle.srm_agent.specs.Ticking.{IsIdle, TicksAs, tick_entry, ticked_by, ticked_with}
use Rattle.srm_agent.specs.Waking.{IsEarly}
use Rattle.srm_agent.proofs.Entering.{of_member, rest_gone}
use Rattle.srm_agent.proofs.NextDueIdle.{idle_at, idle_right, idle_fits}
use Rattle.srm_agent.proofs.Quiet.{timers_stay}
use Rattle.srm_agent.proofs.Ticks.{tick_fits}

pub wait_enters : {W : Type 0} (next_word : W → ℕ × W) (a b d : AgentContent W) (moment : ℕ) (e : Entry) → is_gone a.state ≡ false → a.last ≤ moment → IsEarly a moment → b ≡ record a { bucket = b.bucket } → Passes moment a.bucket b.bucket
    → d ≡ record b { last = moment } → e ≡ tick_entry b.config.me moment [] [] [] [] b.state → Enters next_word (Some moment) Ticked a d e
wait_enters {W = W} next_word a b d moment e here later early new passes last is = record {
  input_is = ap (λ (x : Entry). x.input) is;
  words = rw is (ap (λ x. x.words) last ∙ ap (λ x. x.words) new);
  moment_is = ap (λ (x : Entry). x.moment) is ∙ omega (arith, later);
  fits = λ c made past h. of_member c made past a d e (λ me. tick_entry me moment [] [] [] [] a.state) h
      (is ∙ ap (λ (x : AgentContent W). tick_entry x.config.me moment [] [] [] [] x.state) new)
      (subst (λ s. AgentFits c made (past ++ tick_entry c.me moment [] [] [] [] s ∷ []) d) (sym h.state) (after c made past h));
}
  where
    after : (c : Config) (made : ℕ) (past : List Entry) → AgentFits c made past a → AgentFits c made (past ++ idle_at c past moment ∷ []) d
    after c made past h =
        let idle : is_gone (state past) ≡ false = ap is_gone (sym h.state) ∙ here in
        let since : last_moment made past ≤ moment = subst (λ n. n ≤ moment) h.last later in
        subst (AgentFits c made (past ++ idle_at c past moment ∷ [])) (sym (last ∙ ap (λ (x : AgentContent W). record x { last = moment }) new))
        (tick_fits c made moment past [] [] [] [] (state past) None [] None a (record a { last = moment; bucket = b.bucket }) h
        (record { config = refl; showing = refl; pages = refl; progress = refl; store = refl; distances = refl })
        (idle_right c made past a moment h idle early since) h.state refl
        (timers_stay c past (idle_at c past moment) a.timers (record { unheard = refl; drawn = refl; arms = refl; asks = refl; fixes = refl }) h.timers)
        (idle_fits c made past a moment h idle early since b.bucket passes) refl)

-- the entry of a tick that does nothing, by what is answered
idle_entry : (me moment : ℕ) (t : answers.Ticked) (after : AgentState) → IsIdle t → t.state ≡ after → ticked_with me moment t ≡ tick_entry me moment [] [] [] [] after
idle_entry me moment t after idle is = rw (idle.asks, idle.fixes, idle.arms, idle.outs, is) refl

unsent : (session : ℕ) (t : answers.Ticked) → IsIdle t → AllByRecursion (IsOut session) t.outs
unsent session t idle = rw idle.outs tt

pub wait_ticks : {W : Type 0} (next_word : W → ℕ × W) (a b d : AgentContent W) (moment : ℕ) (t : answers.Ticked) → is_gone a.state ≡ false → a.last ≤ moment → IsEarly a moment → b ≡ record a { bucket = b.bucket } → Passes moment a.bucket b.bucket
    → d ≡ record b { last = moment } → IsIdle t → t.state ≡ b.state → TicksAs next_word moment moment a d t
wait_ticks next_word a b d moment t here later early new passes last idle is = record {
  enters = wait_enters next_word a b d moment (ticked_by a moment t) here later early new passes last
      (idle_entry a.config.me moment t b.state idle is ∙ ap (λ (x : AgentContent _). tick_entry x.config.me moment [] [] [] [] b.state) (sym new));
  spelled = unsent a.config.session t idle;
}

-- the tick of a member that is gone
pub ticks_gone : {W : Type 0} (next_word : W → ℕ × W) (a b : AgentContent W) (now moment : ℕ) (t : answers.Ticked) → is_gone a.state ≡ true → b ≡ record a { last = moment } → IsIdle t → t.state ≡ a.state
    → moment ≡ max now a.last → TicksAs next_word now (max now a.last) a b t
ticks_gone next_word a b now moment t gone new idle is at = subst (λ m. TicksAs next_word now m a b t) at (record {
  enters = rest_gone next_word a b now moment (ticked_by a moment t) gone new (idle_entry a.config.me moment t a.state idle is) at;
  spelled = unsent a.config.session t idle;
})

-- a tick at the moment that counts
pub ticks_at : {W : Type 0} (next_word : W → ℕ × W) (a b : AgentContent W) (now moment : ℕ) (t : answers.Ticked) → moment ≡ max now a.last → TicksAs next_word moment moment a b t → TicksAs next_word now (max now a.last) a b t
ticks_at next_word a b now moment t at h = subst (λ m. TicksAs next_word now m a b t) at (record {
  enters = record { input_is = h.enters.input_is; moment_is = at; fits = h.enters.fits; words = h.enters.words };
  spelled = h.spelled;
})

-- what is answered is what its entry says
answers_so : (me session moment : ℕ) (t : answers.Ticked) → AllByRecursion (IsOut session) t.outs → IsTicked session (ticked_with me moment t) t
answers_so me session moment t spelled = record { asks = refl; fixes = refl; arms = refl; outs = record { same = refl; spelled = spelled }; state = refl }

-- a tick that isn't refused
pub tick_enters : {W : Type 0} (next_word : W → ℕ × W) (a b : AgentContent W) (now : ℕ) (t : answers.Ticked) → TicksAs next_word now (max now a.last) a b t → HasEntry next_word (Some now) Ticked (IsTicked a.config.session) a b (Ok t)
tick_enters next_word a b now t h = (ticked_by a (max now a.last) t, h.enters, answers_so a.config.me a.config.session (max now a.last) t h.spelled)

-- and its entry, where it is noted
pub note_enters : {W : Type 0} (next_word : W → ℕ × W) (a b : AgentContent W) (now moment me : ℕ) (t : answers.Ticked) (e : Entry) → me ≡ a.config.me → moment ≡ max now a.last → e ≡ ticked_with me moment t
    → TicksAs next_word now (max now a.last) a b t → Enters next_word (Some now) Ticked a b e
note_enters next_word a b now moment me t e own at is h = subst (Enters next_word (Some now) Ticked a b) (sym (is ∙ ap (λ m. ticked_with m moment t) own ∙ ap (λ m. ticked_by a m t) at)) h.enters

pub note_answers : {W : Type 0} (next_word : W → ℕ × W) (a b : AgentContent W) (now moment me : ℕ) (t : answers.Ticked) (e : Entry) (answer : Result answers.Ticked AgentFault) → e ≡ ticked_with me moment t → answer ≡ Ok t
    → TicksAs next_word now (max now a.last) a b t → AnswersAs (IsTicked a.config.session e) e.verdict answer
note_answers next_word a b now moment me t e answer is answered h = subst (λ r. AnswersAs (IsTicked a.config.session e) e.verdict r) (sym answered)
    (subst (λ (x : Entry). AnswersAs (IsTicked a.config.session x) x.verdict (Ok t)) (sym is) (answers_so me a.config.session moment t h.spelled))
