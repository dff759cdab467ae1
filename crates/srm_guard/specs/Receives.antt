-- What a guard's receive opens, one after another, and what it brings of that.
use Rattle.std.specs.Prelude.{◌≡◌, ℕ, Bool, List, [], ◌∷◌, ◌++◌, take, Option, Some, None}
use Rattle.srm_wire.specs.declared.sent.Sent.{Sent}
use Rattle.srm_guard.specs.declared.seal.Opened.TheVariants.{Datagram}
use Rattle.srm_guard.specs.Seals.{SealView}
use Rattle.srm_guard.specs.Runs.{Opening, OpensEach}
use Rattle.srm_guard.specs.Guards.{GuardView, ReceivesTagged, SendsTagged}

-- a datagram that is brought is what the last of these opened to
abbrev pub IsBroughtBy : List (Option (List ℕ)) → List Opening → Type 0
IsBroughtBy (Some datagram ∷ _) all = (front : List Opening) × (bytes : List ℕ) × (count : ℕ) × (all ≡ front ++ record { bytes = bytes; opened = Datagram count } ∷ []) × (datagram ≡ take count bytes)
IsBroughtBy (None ∷ _) all = Unit {0}
IsBroughtBy [] all = Unit {0}

-- A receive of a guard with a seal opens what comes, one after another, and brings of it the last at most.
abbrev pub ReceivesOpen : {W : Type 0} → (W → ℕ → List (Option (List ℕ)) → W → Type 0) → Type 0
ReceivesOpen {W} Below = (room : ℕ) (answer : List (Option (List ℕ))) (g h : GuardView W) (s : SealView) → g.seal ≡ Some s → ReceivesTagged Below room answer g h
    → (all : List Opening) × (t : SealView) × (h.seal ≡ Some t) × OpensEach all s t × IsBroughtBy answer all

-- A send opens nothing.
abbrev pub SendsKeep : {W : Type 0} → (W → Sent → Bool → W → Type 0) → Type 0
SendsKeep {W} Below = (sent : Sent) (failed : Bool) (g h : GuardView W) (s : SealView) → g.seal ≡ Some s → SendsTagged Below g sent failed h
    → (t : SealView) × (h.seal ≡ Some t) × OpensEach [] s t
