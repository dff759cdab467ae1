-- The ranges of what a command line of `srm node` says.
use Rattle.std.specs.Prelude.{◌≡◌, ◌≤◌, ◌⊎◌, ℕ, true, false, List, [], ◌∷◌, length, slice_get, vec_len, Contains, IfSome}
use Rattle.std.specs.Net.Socket.{socket_port}
use Rattle.std.specs.declared.net.socket_addr.SocketAddr.{SocketAddr}
use Rattle.srm_names.specs.declared.limits.TheConstants.{LATEST_MOMENT}
use Rattle.srm_entries.specs.declared.settings.Settings.{Settings}
use Rattle.srm_entries.specs.Configs.{default_settings}
use Rattle.srm_options.specs.declared.guard_options.TheConstants.{MOST_MISSING}
use Rattle.srm_options.specs.declared.guard_options.GuardOptions.{GuardOptions}
use Rattle.srm_options.specs.declared.node_options.TheConstants.{LONGEST_LINGER}
use Rattle.srm_options.specs.declared.node_options.NodeOptions.{NodeOptions}

-- at least one drawop may be missing, and at most as many as a member can miss
abbrev pub IsInGuardRange : GuardOptions → Type 0
IsInGuardRange g = IfSome g.most_missing (λ most. (1 ≤ most) × (most ≤ MOST_MISSING))

-- Others know where to send to the member at this place: it is alone, or its address has a port that the system doesn't choose.
abbrev pub NamesPort : List SocketAddr → ℕ → Type 0
NamesPort addresses place = (length addresses ≡ 1) ⊎ IfSome (slice_get addresses place) (λ own. socket_port own ≡ 0 → ⊥)

-- Each member has an address and nobody else has, others know where to send to a live one, the member leaves in time, lingers no longer than it may and only if it is live, and its guard is in its range. All else is in its range as settings always are.
pub record AreInRange (o : NodeOptions) : Type 0 where
  pub members : vec_len o.addresses ≡ o.config.members
  pub port : o.live ≡ true → NamesPort o.addresses.items o.config.me
  pub stay : o.stay ≤ LATEST_MOMENT
  pub linger : o.linger ≤ LONGEST_LINGER
  pub only_live : o.live ≡ false → o.linger ≡ 0
  pub guard : IsInGuardRange o.guard

-- what a live member may send and how long it waits, where its command line says nothing else
abbrev pub live_settings : Settings
live_settings = record default_settings { rate = 64000; least_distance = 5000 }

-- The system chooses the port of the first address, or no later one is the same.
abbrev pub IsFirstApart : List SocketAddr → Type 0
IsFirstApart [] = Unit {0}
IsFirstApart (first ∷ rest) = (socket_port first ≡ 0) ⊎ (Contains rest first → ⊥)
