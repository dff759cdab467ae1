-- What becomes of the copies that a member sends: which of them come, by number from 0, and in which order.
use Rattle.std.specs.Prelude.{ℕ, zero, suc, ◌+◌, ◌==◌, Bool, false, List, [], ◌∷◌, ◌++◌, filter, slice_get, unwrap_or, if◌then◌else◌}
use Rattle.srm_names.specs.Histories.{count_up}
use Rattle.srm_wire.specs.declared.fates.Fate.{Fate}
use Rattle.srm_wire.specs.declared.fates.Fate.TheVariants.{Pass, Drop, Twice, Late}

-- the fate of the copy with this number; it passes if the list has none for it
abbrev pub fate_of : List Fate → ℕ → Fate
fate_of fates number = unwrap_or (slice_get fates number) Pass

-- how a copy with this fate comes when it is sent
abbrev pub at_once : Fate → ℕ → List ℕ
at_once Pass number = number ∷ []
at_once Drop number = []
at_once Twice number = number ∷ number ∷ []
at_once (Late n) number = if n == 0 then number ∷ [] else []

-- whether a late copy comes exactly behind the copy `last`
abbrev pub is_behind : Fate → (number last : ℕ) → Bool
is_behind (Late n) number last = number + n == last
is_behind _ number last = false

-- what comes when the copy with this number is sent: itself by its fate, and then the late ones that come exactly behind it
abbrev pub arrivals_at : List Fate → ℕ → List ℕ
arrivals_at fates sent = at_once (fate_of fates sent) sent ++ filter (λ number. is_behind (fate_of fates number) number sent) (count_up 0 sent)

-- what comes of so many first copies, in order
abbrev pub coming : List Fate → ℕ → List ℕ
coming fates zero = []
coming fates (suc sent) = coming fates sent ++ arrivals_at fates sent
