-- The next moment at which a tick does something.
use Rattle.std.proofs.Common.{◌≡◌, ℕ, ◌<◌, ◌≤◌, max, Bool, true, false, List, refl, ap, sym, ◌∙◌, subst, inl, inr, arith}
use Rattle.std.specs.Prelude.{◌⊎◌, Option, Some, None, Result, Ok, Err, OnErr, nat_le, nat_lt, MatchOption}
use Rattle.std.specs.Bool.{OnTrue, OnFalse}
use Rattle.std.proofs.lemmas.Bool.Decides.{nat_tests}
use Rattle.srm_timers.specs.declared.arm.Armed.{Armed}
use Rattle.srm_timers.specs.Arms.{ran_out}
use Rattle.srm_deadlines.specs.Least.{lesser}
use Rattle.srm_bucket.specs.Classes.{next_queued}
use Rattle.srm_bucket.specs.Fits.{IsNextDeparture}
use Rattle.srm_bucket.specs.Law.{IsFirstToGo}
use Rattle.srm_entries.specs.declared.entry.Entry.{Entry}
use Rattle.srm_entries.specs.Configs.{Config}
use Rattle.srm_agent.specs.Contents.{AgentContent}
use Rattle.srm_entries.specs.Entries.{state, is_gone, last_moment}
use Rattle.srm_entries.specs.Timers.{fix_running, ask_running}
use Rattle.srm_agent.specs.Fits.{AgentFits}
use Rattle.srm_entries.specs.Promises.{MayDoNothing}
use Rattle.srm_agent_state.specs.TimerCalls.{FirstOfBothRunsOut, TimersNext}
use Rattle.srm_agent.specs.Waking.{IsEarly, IsLate, IsNextAt, NextDue, Stirs, session_message_next, sooner_of}
use Rattle.srm_agent.proofs.NextDueIdle.{idle_before}
use Rattle.srm_agent.proofs.NextDueRests.{gone_rests, idle_rests}
use Rattle.srm_agent.proofs.NextDueStirs.{did_nothing, asks_then, fixes_then, sends_then, goes_then}

pub never_due : {W : Type 0} (a : AgentContent W) → is_gone a.state ≡ true → NextDue a None
never_due a gone = record {
  each = λ c made past h. let left : is_gone (state past) ≡ true = ap is_gone (sym h.state) ∙ gone in (left, λ u. gone_rests c made past u left);
}

-- one of two moments is the sooner
abbrev HasCome : ℕ → Option ℕ → Type 0
HasCome t None = ⊥
HasCome t (Some r) = r ≤ t

one_came : (t : ℕ) (a b : Option ℕ) (r : ℕ) → sooner_of (lesser a b) r ≤ t → HasCome t a ⊎ (HasCome t b ⊎ (r ≤ t))
one_came t None None r l = inr (inr l)
one_came t None (Some q) r l = go (nat_le q t) refl
  where
    go : (x : Bool) → nat_le q t ≡ x → ⊥ ⊎ ((q ≤ t) ⊎ (r ≤ t))
    go true e = inr (inl (grind (arith, nat_tests)))
    go false e = inr (inr (grind (arith, nat_tests)))
one_came t (Some p) None r l = go (nat_le p t) refl
  where
    go : (x : Bool) → nat_le p t ≡ x → (p ≤ t) ⊎ (⊥ ⊎ (r ≤ t))
    go true e = inl (grind (arith, nat_tests))
    go false e = inr (inr (grind (arith, nat_tests)))
one_came t (Some p) (Some q) r l = go (nat_le p t) (nat_le q t) refl refl
  where
    go : (x y : Bool) → nat_le p t ≡ x → nat_le q t ≡ y → (p ≤ t) ⊎ ((q ≤ t) ⊎ (r ≤ t))
    go true y e k = inl (grind (arith, nat_tests))
    go false true e k = inr (inl (grind (arith, nat_tests)))
    go false false e k = inr (inr (grind (arith, nat_tests)))

-- what ran out has run out later too
still_out : (now later : ℕ) (o : Option Armed) → now ≤ later → ran_out now o ≡ true → ran_out later o ≡ true
still_out now later None l e = absurd (cc)
still_out now later (Some a) l e = grind (arith, nat_tests)

module _ {W : Type 0} (c : Config) (made : ℕ) (past : List Entry) (a : AgentContent W) (t : ℕ) (h : AgentFits c made past a) (here : is_gone (state past) ≡ false) where
  timer_stirs : (timers : Option ℕ) → FirstOfBothRunsOut past timers → HasCome t timers → MayDoNothing c made past t → ⊥
  timer_stirs None first come idle = absurd come
  timer_stirs (Some r) first come idle =
      let (n, out) = first.is_one in
      elim out [
        | inl ask ↦ asks_then c made past t idle.0 n (did_nothing c made past t idle) here (still_out r t (ask_running past n) come ask)
        | inr fix ↦ fixes_then c made past t idle.0 n (did_nothing c made past t idle) here (still_out r t (fix_running past n) come fix)
      ]

  item_stirs : (answer : Option ℕ) → MatchOption answer (next_queued h.bucket.calls ≡ None) (IsFirstToGo c.rate c.depth h.bucket.calls) → HasCome t answer → MayDoNothing c made past t → ⊥
  item_stirs None waits come idle = absurd come
  item_stirs (Some r) waits come idle = goes_then c made past a t r idle.0 h (did_nothing c made past t idle) here waits.goes come

  message_stirs : session_message_next a ≤ t → MayDoNothing c made past t → ⊥
  message_stirs come idle = sends_then c made past a t idle.0 h (did_nothing c made past t idle) here come

come_stirs : {W : Type 0} (c : Config) (made : ℕ) (past : List Entry) (a : AgentContent W) (t : ℕ) → AgentFits c made past a → is_gone (state past) ≡ false → (next : ℕ) → IsNextAt a next → next ≤ t → MayDoNothing c made past t → ⊥
come_stirs c made past a t h here next at come idle = elim (one_came t at.timers at.waiting (session_message_next a) (subst (λ n. n ≤ t) at.is come)) [
  | inl timer ↦ timer_stirs c made past a t h here at.timers (at.runs.each c past h.timers) timer idle
  | inr other ↦ elim other [
    | inl item ↦ item_stirs c made past a t h here at.waiting (at.waits.until c.rate c.depth h.bucket.calls h.bucket.fits) item idle
    | inr message ↦ message_stirs c made past a t h here message idle
  ]
]

pub first_due : {W : Type 0} (a : AgentContent W) (next : ℕ) → is_gone a.state ≡ false → IsNextAt a next → NextDue a (Some (max a.last next))
first_due a next active at = subst (λ n. NextDue a (Some (max a.last n))) (sym at.is) (record {
  each = λ c made past h.
      let here : is_gone (state past) ≡ false = ap is_gone (sym h.state) ∙ active in
      let t : ℕ = max a.last (sooner_of (lesser at.timers at.waiting) (session_message_next a)) in
      let last : a.last ≡ last_moment made past = h.last in (
        here,
        omega (arith, last),
        (λ u l before.
            let sooner : u < sooner_of (lesser at.timers at.waiting) (session_message_next a) = omega (arith, last, l, before) in
            let idle : MayDoNothing c made past u = idle_before c made past a u h here (sooner_of (lesser at.timers at.waiting) (session_message_next a), record { timers = at.timers; waiting = at.waiting; runs = at.runs; waits = at.waits; is = refl }, sooner) l in
            (idle, idle_rests c made past u idle)),
        come_stirs c made past a t h here (sooner_of (lesser at.timers at.waiting) (session_message_next a)) (record { timers = at.timers; waiting = at.waiting; runs = at.runs; waits = at.waits; is = refl }) (omega arith),
      );
})

-- the next moment, by the calls that tell its parts
pub soonest : {W : Type 0} (a : AgentContent W) (timers waiting : Option ℕ) → TimersNext a.timers timers → IsNextDeparture a.bucket waiting → IsNextAt a (sooner_of (lesser timers waiting) (session_message_next a))
soonest a timers waiting runs waits = record { timers = timers; waiting = waiting; runs = runs; waits = waits; is = refl }

-- and whether it is to come
pub early : {W : Type 0} (a : AgentContent W) (moment next : ℕ) → IsNextAt a next → OnTrue (nat_lt moment next) (IsEarly a moment)
early a moment next at = go (nat_lt moment next) refl
  where
    go : (b : Bool) → nat_lt moment next ≡ b → OnTrue b (IsEarly a moment)
    go true e = (next, at, grind (arith, nat_tests))
    go false e = tt

pub late : {W : Type 0} (a : AgentContent W) (moment next : ℕ) → IsNextAt a next → OnFalse (nat_lt moment next) (IsLate a moment)
late a moment next at = go (nat_lt moment next) refl
  where
    go : (b : Bool) → nat_lt moment next ≡ b → OnFalse b (IsLate a moment)
    go true e = tt
    go false e = (next, at, grind (arith, nat_tests))

-- what has expired is done
pub stirs : {W : Type 0} (a : AgentContent W) (now moment : ℕ) → is_gone a.state ≡ false → moment ≡ max now a.last → IsLate a moment → Stirs now a
stirs a now moment active counts (next, at, come) = record {
  each = λ c made past h idle. come_stirs c made past a moment h (ap is_gone (sym h.state) ∙ active) next at come (subst (MayDoNothing c made past) (sym counts) idle);
}

pub stirs_at : {W X Y : Type 0} (r : Result X Y) (a : AgentContent W) (now moment : ℕ) → is_gone a.state ≡ false → moment ≡ max now a.last → IsLate a moment → OnErr r (Stirs now a)
stirs_at (Ok x) a now moment active counts late = tt
stirs_at (Err y) a now moment active counts late = stirs a now moment active counts late
