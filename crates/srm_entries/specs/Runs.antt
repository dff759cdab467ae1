-- The runs of one member: each entry is one that the entries before it allow.
use Rattle.std.specs.Prelude.{◌≡◌, ℕ, ◌+◌, ◌≤◌, Bool, true, false, ◌⊎◌, List, [], ◌∷◌, ◌++◌, Option, Some, None, is_some, IfSome, MatchBool}
use Rattle.std.specs.List.{list_any, AllByRecursion}
use Rattle.srm_names.specs.declared.drawop.Drawop.{Drawop}
use Rattle.srm_names.specs.FullName.{FullName}
use Rattle.srm_names.specs.Histories.{Step, steps, last_of}
use Rattle.srm_names.specs.Names.{named, stream_on}
use Rattle.srm_codec.specs.Spelling.{sender_of, IsSpellable, is_farewell}
use Rattle.srm_entries.specs.Configs.{Config}
use Rattle.srm_entries.specs.declared.entry.Entry.{Entry}
use Rattle.srm_timers.specs.declared.arm.ArmKind.TheVariants.{Ask, Fix}
use Rattle.srm_entries.specs.declared.state.AgentState.{AgentState}
use Rattle.srm_entries.specs.declared.state.AgentState.TheVariants.{Leaving, Gone}
use Rattle.srm_entries.specs.declared.entry.Input.{Input}
use Rattle.srm_entries.specs.declared.entry.Input.TheVariants.{Drew, AskedLeave}
use Rattle.srm_entries.specs.Entries.{done, accepted, ticked, state, is_gone, takes_moment, last_moment, is_held, is_missing}
use Rattle.srm_timers.specs.declared.arm.Armed.{Armed}
use Rattle.srm_entries.specs.Timers.{arm_in, asks_for, repaired, last_ask, held_off, fix_running, high_of, ArmsRight, TimersRight}
use Rattle.srm_entries.specs.Verdicts.{VerdictRight, drawn_in}
use Rattle.srm_entries.specs.Sessions.{SessionRight}
use Rattle.srm_entries.specs.Bucket.{BucketRight}
use Rattle.srm_entries.specs.Giving.{MessageRight}

-- a draw makes the next drawop of its stream, with its own moment as stamp
abbrev pub expected_drawop : Config → List Entry → ℕ → Option Input → Option Drawop
expected_drawop c before now (Some (Drew page body)) =
    Some (record { name = named (stream_on c.me page) (drawn_in before (stream_on c.me page) + 1); stamp = now; body = body })
expected_drawop c before now _ = None

abbrev pub expected_state : AgentState → Bool → Option Input → AgentState
expected_state old true input = Gone
expected_state old false (Some AskedLeave) = Leaving
expected_state old false _ = old

-- a moment never falls; what takes none has the last one
abbrev pub MomentRight : Config → ℕ → List Entry → Entry → Type 0
MomentRight c made before e = MatchBool (takes_moment e.input) (last_moment made before ≤ e.moment) (e.moment ≡ last_moment made before)

-- the entry is one that those before it allow
pub record EntryRight (c : Config) (made : ℕ) (s : Step Entry) : Type 0 where
  pub member : s.this.member ≡ c.me
  pub moment : MomentRight c made s.before s.this
  pub verdict : VerdictRight c s.before s.this.input s.this.verdict
  pub drawn : s.this.effects.drawn ≡ expected_drawop c s.before s.this.moment (done s.this)
  pub arms : ArmsRight c s.before s.this
  pub timers : TimersRight s.before s.this
  pub senders : AllByRecursion (λ g. sender_of g ≡ c.me) s.this.effects.outs
  pub spelled : AllByRecursion IsSpellable s.this.effects.outs
  pub read : IfSome (accepted s.this) IsSpellable
  pub session : SessionRight c made s.before s.this
  pub message : MessageRight c s.before s.this.input s.this.effects.message
  pub state : s.this.effects.state ≡ expected_state (state s.before) (list_any is_farewell s.this.effects.outs) (done s.this)

-- the entries are a run of a member that was made at a moment
pub record IsMemberRun (c : Config) (made : ℕ) (es : List Entry) : Type 0 where
  pub each : AllByRecursion (EntryRight c made) (steps es)
  pub bucket : BucketRight c es

-- That a member asks and repairs in time: each missing name has a timer; a request for a held name that isn't held off
-- starts one; by a tick at or after the longest wait, the timer has ended.
pub record RespondsInTime (c : Config) (es : List Entry) : Type 0 where
  pub asking : (n : FullName) → is_missing es n ≡ true → is_some (last_ask es n) ≡ true
  pub fixing : (before after : List Entry) (e : Entry) (n : FullName) → es ≡ before ++ e ∷ after
      → is_held before n ≡ true → held_off c before n e.moment ≡ false → asks_for n e ≡ true
      → is_some (fix_running (before ++ e ∷ []) n) ≡ true
  pub asked : (before between after : List Entry) (e tick : Entry) (n : FullName) (a : Armed) → es ≡ before ++ e ∷ between ++ tick ∷ after
      → arm_in Ask n e ≡ Some a → ticked tick ≡ true → is_gone (state (before ++ e ∷ between)) ≡ false → a.set + high_of c a.arm ≤ tick.moment
      → (is_held (before ++ e ∷ between ++ tick ∷ []) n ≡ true) ⊎ (is_some (last_of (arm_in Ask n) (between ++ tick ∷ [])) ≡ true)
  pub fixed : (before between after : List Entry) (e tick : Entry) (n : FullName) (a : Armed) → es ≡ before ++ e ∷ between ++ tick ∷ after
      → arm_in Fix n e ≡ Some a → ticked tick ≡ true → is_gone (state (before ++ e ∷ between)) ≡ false → a.set + high_of c a.arm ≤ tick.moment
      → list_any (repaired n) (between ++ tick ∷ []) ≡ true

-- the law, over every run of a member
abbrev pub ResponseLaw : Type 0
ResponseLaw = (c : Config) (made : ℕ) (es : List Entry) → IsMemberRun c made es → RespondsInTime c es
