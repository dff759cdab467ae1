-- Which moments a node's entries have.
use Rattle.std.specs.Prelude.{◌≡◌, ◌⊎◌, ℕ, true, List, [], ◌∷◌}
use Rattle.srm_entries.specs.declared.entry.Entry.{Entry}
use Rattle.srm_world.specs.Traces.{Journal}
use Rattle.srm_world.specs.Recording.{with_entry, with_entries, IsAt}
use Rattle.srm_node.specs.Parts.{is_give}
use Rattle.srm_node.specs.Nodes.{NodeView, moment_of}

-- An entry is made at this moment, where one before the last counts as the last. A give is asked for at none: it has the last moment, by the law of runs.
abbrev pub IsMadeAt : ℕ → Journal → Entry → Type 0
IsMadeAt now j e = (is_give e.input ≡ true) ⊎ IsAt now j e

abbrev pub AreMadeAt : ℕ → Journal → List Entry → Type 0
AreMadeAt now j [] = Unit {0}
AreMadeAt now j (e ∷ es) = IsMadeAt now j e × AreMadeAt now (with_entry j e) es

-- the entries that the journal gained are made at this moment
pub record GrowsAt (now : ℕ) (old new : Journal) : Type 0 where
  pub entries : List Entry
  pub grown : new ≡ with_entries old entries
  pub made : AreMadeAt now old entries

-- the clock was read once, and the node's entries are made at the moment that it told
pub record GrowsNow {X C : Type 0} (Reads : C → ℕ → C → Type 0) (old new : NodeView X C) : Type 0 where
  pub told : ℕ
  pub reads : Reads old.clock told new.clock
  pub grows : GrowsAt (moment_of told) old.journal new.journal
