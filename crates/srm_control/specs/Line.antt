-- The rule of a line.
use Rattle.std.specs.Prelude.{◌≡◌, ℕ, Bool, true, List, [], ◌∷◌, ◌++◌}
use mathlib.Core.Option.{some}
use lib.ListN.{get_elem?}
use Rattle.srm_control.specs.declared.line.LineView.{LineView}

abbrev pub line_view : {T : Type 0} → Bool → Bool → List T → List T → LineView T
line_view puts takes put taken = record { puts = puts; takes = takes; put = put; taken = taken }

-- the one pass that puts has the list of what was put, and the one that takes the list of what was taken
abbrev pub FitsLine : {T : Type 0} → ℕ → ℕ → List T → List T → ℕ → LineView T → Type 0
FitsLine putter taker put taken id v = (v.puts ≡ true → (id ≡ putter) × (v.put ≡ put)) × (v.takes ≡ true → (id ≡ taker) × (v.taken ≡ taken))

-- what was put is what was taken and then what the line holds
abbrev pub IsLineState : {T : Type 0} → List T → List (LineView T) → Type 0
IsLineState {T} items views = (putter : ℕ) × (taker : ℕ) × (put : List T) × (taken : List T) × (put ≡ taken ++ items)
    × ((id : ℕ) (v : LineView T) → get_elem? views id ≡ some v → FitsLine putter taker put taken id v)

abbrev pub Puts : {T : Type 0} → LineView T → T → LineView T → Type 0
Puts v x w = w ≡ line_view v.puts v.takes (v.put ++ x ∷ []) v.taken

abbrev pub Takes : {T : Type 0} → LineView T → T → LineView T → Type 0
Takes v x w = w ≡ line_view v.puts v.takes v.put (v.taken ++ x ∷ [])
