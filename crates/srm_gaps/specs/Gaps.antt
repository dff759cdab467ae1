-- Whether what is told of members is told of all members of one session, and whole.
use Rattle.std.specs.Prelude.{◌≡◌, ◌≢◌, ℕ, ◌≤◌, ◌<◌, false, List, [], ◌∷◌, length, map}
use Rattle.std.specs.List.{AllByRecursion}
use Rattle.srm_world.specs.Traces.{Journal}
use Rattle.srm_gaps.specs.declared.told.Told.{Told}

abbrev pub journals_of : List Told → List Journal
journals_of ts = map (λ (t : Told). t.journal) ts

-- the record isn't cut, and there are as many records as its roster has members, or more
abbrev pub IsComplete : ℕ → Told → Type 0
IsComplete records t = (t.is_cut ≡ false) × (t.journal.start.config.members ≤ records)

-- there are records, and none is missing or cut
abbrev pub AreComplete : List Told → Type 0
AreComplete ts = (0 < length ts) × AllByRecursion (IsComplete (length ts)) ts

-- another member of the same roster in the same session
pub record IsAnother (a b : Told) : Type 0 where
  pub session : b.journal.start.config.session ≡ a.journal.start.config.session
  pub members : b.journal.start.config.members ≡ a.journal.start.config.members
  pub other : b.journal.start.config.me ≢ a.journal.start.config.me

-- different members of one roster in one session
abbrev pub AreOfOneSession : List Told → Type 0
AreOfOneSession [] = Unit {0}
AreOfOneSession (t ∷ ts) = AllByRecursion (IsAnother t) ts × AreOfOneSession ts
