-- The timers that a member keeps.
use Rattle.std.specs.Prelude.{◌≡◌, ℕ, List}
use Rattle.srm_names.specs.FullName.{FullName}
use Rattle.srm_names.specs.Histories.{first_of}
use Rattle.srm_timers.specs.AskCalls.{AskContent, AskCall, AskFits, ask_timer}
use Rattle.srm_timers.specs.FixCalls.{FixContent, FixCall, FixFits, fix_timer, asked_first, calls_hold_off}
use Rattle.srm_entries.specs.declared.entry.Entry.{Entry}
use Rattle.srm_entries.specs.Configs.{Config}
use Rattle.srm_entries.specs.Timers.{fix_running, held_off, asker, ask_running}
use Rattle.srm_agent_state.specs.declared.timers.Timers.TheInside.{Inside}

pub record TimersContent : Type 0 where
  pub asks : AskContent
  pub fixes : FixContent

abbrev pub timers_of : Inside → TimersContent
timers_of t = record { asks = t.asks; fixes = t.fixes }

-- they choose their waits by these settings
pub record HaveSettings (c : Config) (t : TimersContent) : Type 0 where
  pub c1 : t.asks.c1 ≡ c.c1
  pub c2 : t.asks.c2 ≡ c.c2
  pub d1 : t.fixes.d1 ≡ c.d1
  pub d2 : t.fixes.d2 ≡ c.d2

-- The timers are those that the entries leave, whatever calls set them: a request timer runs exactly for each missing name.
pub record TimersFit (c : Config) (past : List Entry) (t : TimersContent) : Type 0 where
  pub ask_calls : List AskCall
  pub asks : AskFits c.c1 c.c2 ask_calls t.asks
  pub ask_timers : (n : FullName) → ask_timer ask_calls n ≡ ask_running past n
  pub fix_calls : List FixCall
  pub fixes : FixFits c.d1 c.d2 fix_calls t.fixes
  pub fix_timers : (n : FullName) → fix_timer fix_calls n ≡ fix_running past n
  pub askers : (n : FullName) → asked_first fix_calls n ≡ first_of (asker n) past
  pub hold_offs : (n : FullName) (now : ℕ) → calls_hold_off fix_calls n now ≡ held_off c past n now
