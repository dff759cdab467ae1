-- What a slate shows of what the page workers took.
use Rattle.std.specs.Prelude.{◌≡◌, ◌⊎◌, ℕ, Bool, true, false, List, [], ◌∷◌, ◌++◌, map, filter, ◌==◌}
use Rattle.srm_names.specs.declared.page_msg.PageMsg.{PageMsg}
use Rattle.srm_names.specs.Histories.{IsPrefix}
use Rattle.srm_slate.specs.declared.taken.Taken.{Taken}
use Rattle.srm_slate.specs.RecordView.{RecordView}

-- what is shown is all that the workers took, or a front of it where memory ran out for a message
pub record IsFront {X : Type 0} (is_lossy : Bool) (shown took : List X) : Type 0 where
  pub front : IsPrefix shown took
  pub whole : is_lossy ≡ false → shown ≡ took

-- a record shows all of these messages, which the workers took, or a front of them
abbrev pub ShowsFront : RecordView → List Taken → Type 0
ShowsFront r took = IsFront r.is_lossy r.taken took

-- Whatever it showed a front of, it shows one of that and this message behind it.
abbrev pub ShowsOneMore : Taken → RecordView → RecordView → Type 0
ShowsOneMore one old new = (took : List Taken) → ShowsFront old took → ShowsFront new (took ++ one ∷ [])

-- This message is kept behind those before, unless one before it was lost; or it is lost, and the record says so.
abbrev pub Passes : Taken → RecordView → RecordView → Type 0
Passes one old new = ((old.is_lossy ≡ false) × (new ≡ record old { taken = old.taken ++ one ∷ [] })) ⊎ (new ≡ record old { is_lossy = true })

-- the messages of one page slot
abbrev pub of_slot : ℕ → List Taken → List PageMsg
of_slot slot all = map (λ (t : Taken). t.message) (filter (λ (t : Taken). t.slot == slot) all)

-- What is shown of a page slot is all that its worker took, or a front of it.
abbrev pub SlotsShowFront : Type 0
SlotsShowFront = (is_lossy : Bool) (shown took : List Taken) (slot : ℕ) → IsFront is_lossy shown took → IsFront is_lossy (of_slot slot shown) (of_slot slot took)
