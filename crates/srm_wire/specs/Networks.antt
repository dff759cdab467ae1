-- The wires of a network in memory.
use Rattle.std.specs.Prelude.{◌≡◌, ℕ, ◌+◌, Bool, List, [], ◌∷◌, ◌++◌, length, map, get_or, Some, unwrap_or, slice_get, Option}
use Rattle.std.specs.Bool.{MatchBool}
use Rattle.srm_wire.specs.declared.sent.Sent.{Sent}
use Rattle.srm_wire.specs.declared.fates.Fate.{Fate}
use Rattle.srm_wire.specs.Fates.{coming}
use Rattle.srm_wire.specs.Wires.{one_more, is_failed}

-- whose wire it is, how many of its calls failed, what it answered and took, the fates of its copies, and the numbers of those that it put
-- into the inboxes, in order
pub record MemWireView : Type 0 where
  pub me : ℕ
  pub failures : ℕ
  pub came : List (Option (List ℕ))
  pub went : List Sent
  pub fates : List Fate
  pub put : List ℕ

-- what was put into the inboxes is what comes of the copies that were sent, by their fates
abbrev pub PutsByFate : MemWireView → Type 0
PutsByFate w = w.put ≡ coming w.fates (length w.went)

-- If the send succeeded, the copy counts as sent, and what comes of all copies so far is in the inboxes. If it failed, only the count rose.
abbrev pub SendsByFate : MemWireView → Sent → Bool → MemWireView → Type 0
SendsByFate w sent failed v = MatchBool failed (v ≡ record w { failures = one_more w.failures }) (v ≡ record w { went = w.went ++ sent ∷ []; put = coming w.fates (length w.went + 1) })

-- If the receive succeeded, its answer is kept. If it failed, only the count rose.
abbrev pub KeepsAnswer : MemWireView → List (Option (List ℕ)) → MemWireView → Type 0
KeepsAnswer w answer v = MatchBool (is_failed answer) (v ≡ record w { failures = one_more w.failures }) (v ≡ record w { came = w.came ++ answer })

-- the copies with these numbers, of those sent before and one more
abbrev pub copies_at : List Sent → Sent → List ℕ → List Sent
copies_at went sent numbers = map (λ number. get_or went number sent) numbers

-- a new wire of a member, whose copies get these fates in order
abbrev pub new_wire_of : ℕ → List Fate → MemWireView
new_wire_of me fates = record { me = me; failures = 0; came = []; went = []; fates = fates; put = [] }

-- the fates of a member's copies; all pass if there is no list for it
abbrev pub fates_of : List (List Fate) → ℕ → List Fate
fates_of fates me = unwrap_or (slice_get fates me) []

-- so many wires: the k-th is a new wire of member k, whose copies get the fates of the k-th list
pub record AreNewWires (members : ℕ) (fates : List (List Fate)) (wires : List MemWireView) : Type 0 where
  pub count : length wires ≡ members
  pub each : (k : ℕ) (w : MemWireView) → slice_get wires k ≡ Some w → w ≡ new_wire_of k (fates_of fates k)

-- the wire of the next member, which gets the first list of fates and leaves the others
abbrev pub NextWire : ℕ → List (List Fate) → List (List Fate) → MemWireView → Type 0
NextWire me [] left w = (left ≡ []) × (w ≡ new_wire_of me [])
NextWire me (own ∷ more) left w = (left ≡ more) × (w ≡ new_wire_of me own)
