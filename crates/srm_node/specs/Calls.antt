-- What a node's wire and its clock say of their calls.
use Rattle.std.specs.Prelude.{ℕ, Bool, List, Option}
use Rattle.srm_wire.specs.declared.sent.Sent.{Sent}

-- what a reading of the clock is, and what a receive, a send and a pause of the wire are, each from how it stood before to how it stands after
pub record Calls (X C : Type 0) : Type 1 where
  pub reads : C → ℕ → C → Type 0
  pub receives : X → ℕ → List (Option (List ℕ)) → X → Type 0
  pub sends : X → Sent → Bool → X → Type 0
  pub pauses : X → ℕ → X → Type 0

abbrev pub calls_of : {X C : Type 0} → (C → ℕ → C → Type 0) → (X → ℕ → List (Option (List ℕ)) → X → Type 0) → (X → Sent → Bool → X → Type 0) → (X → ℕ → X → Type 0) → Calls X C
calls_of reads receives sends pauses = record { reads = reads; receives = receives; sends = sends; pauses = pauses }
