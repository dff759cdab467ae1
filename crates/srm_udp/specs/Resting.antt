-- When and how long a wire rests.
use Rattle.std.specs.Prelude.{◌≡◌, ℕ, zero, suc, ◌-◌, min, nat_lt, if◌then◌else◌, Bool, List, [], ◌∷◌, Option, is_some}
use Rattle.srm_wire.specs.declared.sent.Sent.{Sent}
use Rattle.srm_wire.specs.Wires.{one_more}

-- the wire below, and how many datagrams came since the last pause that waited
pub record RestedView (W : Type 0) : Type 0 where
  pub wire : W
  pub came : ℕ

-- a new one: no datagram has come
abbrev pub new_rested : {W : Type 0} → W → RestedView W
new_rested wire = record { wire = wire; came = 0 }

-- How long a pause of so many microseconds rests: for 100 of them, or all if they are fewer, where two datagrams or more came, and else not at all.
abbrev pub rest_of : ℕ → ℕ → ℕ
rest_of came micros = if nat_lt came 2 then 0 else min micros 100

-- one more came if a receive brought one
abbrev pub came_with : List (Option (List ℕ)) → ℕ → ℕ
came_with [] came = came
came_with (answer ∷ more) came = if is_some answer then one_more came else came

-- a pause that waits begins the count anew
abbrev pub came_behind : ℕ → ℕ → ℕ
came_behind zero came = came
came_behind (suc micros) came = 0

-- A send is one of the wire below.
abbrev pub SendsRested : {W : Type 0} → (W → Sent → Bool → W → Type 0) → RestedView W → Sent → Bool → RestedView W → Type 0
SendsRested Below old sent failed new = Below old.wire sent failed new.wire × (new.came ≡ old.came)

-- So is a receive, and what it brings is counted.
abbrev pub ReceivesRested : {W : Type 0} → (W → ℕ → List (Option (List ℕ)) → W → Type 0) → RestedView W → ℕ → List (Option (List ℕ)) → RestedView W → Type 0
ReceivesRested Below old room answer new = Below old.wire room answer new.wire × (new.came ≡ came_with answer old.came)

-- A pause is one of the wire below, less the rest that it began with.
abbrev pub PausesRested : {W : Type 0} → (W → ℕ → W → Type 0) → RestedView W → ℕ → RestedView W → Type 0
PausesRested Below old micros new = Below old.wire (micros - rest_of old.came micros) new.wire × (new.came ≡ came_behind micros old.came)
