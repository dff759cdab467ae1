-- The settings of one member, as contracts see them.
use Rattle.std.specs.Prelude.{ℕ, ◌<◌, ◌≤◌}
use Rattle.srm_names.specs.declared.limits.TheConstants.{MEMBERS, LONGEST_DISTANCE}
use Rattle.srm_distance.specs.declared.limits.TheConstants.{SHORTEST_DISTANCE}
use Rattle.srm_bucket.specs.declared.limits.TheConstants.{LEAST_RATE, GREATEST_RATE, LEAST_DEPTH, GREATEST_DEPTH}
use Rattle.srm_timers.specs.declared.limits.TheConstants.{GREATEST_TIMER_SETTING}
use Rattle.srm_entries.specs.declared.limits.TheConstants.{DEFAULT_RATE, DEFAULT_DEPTH}
use Rattle.srm_entries.specs.declared.settings.Settings.{Settings}

-- The roster is the members below `members`. The rate is in bytes a second, the depth in bytes; a request waits from c1 to
-- c1 + c2 distances, a repair from d1 to d1 + d2; a distance to another member counts as at least `least_distance` microseconds.
pub record Config : Type 0 where
  pub me : ℕ
  pub members : ℕ
  pub session : ℕ
  pub rate : ℕ
  pub depth : ℕ
  pub c1 : ℕ
  pub c2 : ℕ
  pub d1 : ℕ
  pub d2 : ℕ
  pub least_distance : ℕ

pub record AreInRange (s : Settings) : Type 0 where
  pub least_rate : LEAST_RATE ≤ s.rate
  pub greatest_rate : s.rate ≤ GREATEST_RATE
  pub least_depth : LEAST_DEPTH ≤ s.depth
  pub greatest_depth : s.depth ≤ GREATEST_DEPTH
  pub c1 : s.c1 ≤ GREATEST_TIMER_SETTING
  pub c2 : s.c2 ≤ GREATEST_TIMER_SETTING
  pub d1 : s.d1 ≤ GREATEST_TIMER_SETTING
  pub d2 : s.d2 ≤ GREATEST_TIMER_SETTING
  pub shortest_distance : SHORTEST_DISTANCE ≤ s.least_distance
  pub longest_distance : s.least_distance ≤ LONGEST_DISTANCE

pub record IsConfig (c : Config) : Type 0 where
  pub in_roster : c.me < c.members
  pub members : c.members ≤ MEMBERS
  pub least_rate : LEAST_RATE ≤ c.rate
  pub greatest_rate : c.rate ≤ GREATEST_RATE
  pub least_depth : LEAST_DEPTH ≤ c.depth
  pub greatest_depth : c.depth ≤ GREATEST_DEPTH
  pub c1 : c.c1 ≤ GREATEST_TIMER_SETTING
  pub c2 : c.c2 ≤ GREATEST_TIMER_SETTING
  pub d1 : c.d1 ≤ GREATEST_TIMER_SETTING
  pub d2 : c.d2 ≤ GREATEST_TIMER_SETTING
  pub shortest_distance : SHORTEST_DISTANCE ≤ c.least_distance
  pub longest_distance : c.least_distance ≤ LONGEST_DISTANCE

-- what most members take: the rate and the depth of small sessions, requests after 2 to 4 distances, repairs after 1 to 2, and no floor under
-- distances
abbrev pub default_settings : Settings
default_settings = record { rate = DEFAULT_RATE; depth = DEFAULT_DEPTH; c1 = 2; c2 = 2; d1 = 1; d2 = 1; least_distance = SHORTEST_DISTANCE }

-- one member's place in its session, and for all else these settings
abbrev pub config_with : ℕ → ℕ → ℕ → Settings → Config
config_with me members session s = record { me = me; members = members; session = session; rate = s.rate; depth = s.depth; c1 = s.c1; c2 = s.c2; d1 = s.d1; d2 = s.d2; least_distance = s.least_distance }
