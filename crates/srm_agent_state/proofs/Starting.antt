-- New timers: none runs.
use Rattle.std.proofs.Common.{◌≡◌, ℕ, Bool, true, false, [], None, refl, subst}
use Rattle.srm_timers.specs.AskCalls.{AskContent, AskFits}
use Rattle.srm_timers.specs.FixCalls.{FixContent, FixFits}
use Rattle.srm_entries.specs.Configs.{Config}
use Rattle.srm_entries.specs.Entries.{is_missing}
use Rattle.srm_entries.specs.Timers.{only_if}
use Rattle.srm_agent_state.specs.TimersKept.{TimersContent, HaveSettings, TimersFit}

none_shown : (b : Bool) → None ≡ only_if b None
none_shown true = refl
none_shown false = refl

-- without a call no timer runs
pub timers_begin : (c : Config) (t : TimersContent) → AskFits c.c1 c.c2 [] t.asks → FixFits c.d1 c.d2 [] t.fixes → TimersFit c [] t
timers_begin c t asks fixes = record {
  ask_calls = [];
  asks = asks;
  ask_timers = λ n. none_shown (is_missing [] n);
  fix_calls = [];
  fixes = fixes;
  fix_timers = λ n. refl;
  askers = λ n. refl;
  hold_offs = λ n now. refl;
}

-- and the settings are those that they were made with
pub settings_begin : (c : Config) (t : TimersContent) → AskFits c.c1 c.c2 [] t.asks → FixFits c.d1 c.d2 [] t.fixes → HaveSettings c t
settings_begin c t asks fixes = record { c1 = asks.c1_is; c2 = asks.c2_is; d1 = fixes.d1_is; d2 = fixes.d2_is }

pub asks_with : {c1 c2 c1' c2' : ℕ} {a : AskContent} → c1 ≡ c1' → c2 ≡ c2' → AskFits c1 c2 [] a → AskFits c1' c2' [] a
asks_with {c1 = c1} {c2' = c2'} {a = a} p q h = subst (λ x. AskFits x c2' [] a) p (subst (λ x. AskFits c1 x [] a) q h)

pub fixes_with : {d1 d2 d1' d2' : ℕ} {a : FixContent} → d1 ≡ d1' → d2 ≡ d2' → FixFits d1 d2 [] a → FixFits d1' d2' [] a
fixes_with {d1 = d1} {d2' = d2'} {a = a} p q h = subst (λ x. FixFits x d2' [] a) p (subst (λ x. FixFits d1 x [] a) q h)
