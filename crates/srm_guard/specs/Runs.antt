-- All that came to a seal, and what of it was passed on.
use Rattle.std.specs.Prelude.{◌≡◌, ℕ, ◌≤◌, List, [], ◌∷◌, ◌++◌}
use Rattle.srm_window.specs.Senders.{Numbered, WindowsFit, passed_on}
use Rattle.srm_guard.specs.declared.seal.Opened.{Opened}
use Rattle.srm_guard.specs.declared.seal.Opened.TheVariants.{Foreign, Older, Again, Datagram}
use Rattle.srm_guard.specs.Seals.{SealView, Opens, number_in}

-- bytes that came, and what they opened to
pub record Opening : Type 0 where
  pub bytes : List ℕ
  pub opened : Opened

-- These came, one after another, and each was opened. Between two, sends may have counted on.
abbrev pub OpensEach : List Opening → SealView → SealView → Type 0
OpensEach [] s t = t.windows ≡ s.windows
OpensEach (one ∷ more) s t = (between : SealView) × (after : SealView) × (between.windows ≡ s.windows) × Opens one.opened one.bytes between after × OpensEach more after t

-- the numbers of what somebody sealed for this member, and of what of it was passed on
abbrev pub sealed_number : Opened → List ℕ → List Numbered
sealed_number Foreign bytes = []
sealed_number Older bytes = []
sealed_number _ bytes = number_in bytes ∷ []

abbrev pub passed_number : Opened → List ℕ → List Numbered
passed_number (Datagram count) bytes = number_in bytes ∷ []
passed_number _ bytes = []

abbrev pub numbers_of : List Opening → List Numbered
numbers_of [] = []
numbers_of (one ∷ more) = sealed_number one.opened one.bytes ++ numbers_of more

abbrev pub passed_of : List Opening → List Numbered
passed_of [] = []
passed_of (one ∷ more) = passed_number one.opened one.bytes ++ passed_of more

-- Of all that came to a new seal, what was sealed for its member and is new is passed on, and nothing else: by sender and counter, behind all that came before.
abbrev pub PassesNew : Type 0
PassesNew = (s t : SealView) (all : List Opening) → WindowsFit s.windows [] → OpensEach all s t → passed_of all ≡ passed_on (numbers_of all)
