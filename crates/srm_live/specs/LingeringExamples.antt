-- Members that stay and that leave.
use Rattle.std.specs.Prelude.{◌≡◌, ℕ, Bool, true, false, refl, Option, Some, None}
use Rattle.srm_agent.specs.declared.outstanding.Outstanding.{Outstanding}
use Rattle.srm_entries.specs.declared.state.AgentState.TheVariants.{Active}
use Rattle.srm_live.specs.declared.patience.Lingering.{Lingering}
use Rattle.srm_live.specs.Lingering.{is_needed, is_over}

abbrev outstanding : Option ℕ → ℕ → ℕ → ℕ → Outstanding
outstanding repair shown new other = record { missing = 0; next_request = None; next_repair = repair; waiting_shown = shown; waiting_new = new; waiting_other = other; state = Active }

nothing_is_left : is_needed (outstanding None 0 0 0) ≡ false
nothing_is_left = refl

its_own_strokes_go_in_any_case : is_needed (outstanding None 0 3 0) ≡ false
its_own_strokes_go_in_any_case = refl

a_repair_timer_runs : is_needed (outstanding (Some 7) 0 0 0) ≡ true
a_repair_timer_runs = refl

repairs_wait_for_the_rate : is_needed (outstanding None 0 0 60) ≡ true
repairs_wait_for_the_rate = refl

abbrev after : ℕ → ℕ → ℕ → ℕ → Lingering
after lingered needed missing sessions = record { lingered = lingered; needed = needed; missing = missing; sessions = sessions }

two_quiet_seconds : is_over 2000000 (after 2100000 100000 0 2) ≡ true
two_quiet_seconds = refl

a_session_message_is_lacking : is_over 2000000 (after 2100000 100000 0 1) ≡ false
a_session_message_is_lacking = refl

five_where_it_misses_something : is_over 2000000 (after 4999999 0 1 2) ≡ false
five_where_it_misses_something = refl

but_not_without_lingering : is_over 0 (after 0 0 1 0) ≡ true
but_not_without_lingering = refl

thirty_at_most : is_over 2000000 (after 30000000 29999999 9 0) ≡ true
thirty_at_most = refl
