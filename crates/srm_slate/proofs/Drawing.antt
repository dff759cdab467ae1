-- The numbers of what a tab drew.
use Rattle.std.proofs.Common.{◌≡◌, ℕ, ◌+◌, ◌<◌, ◌≤◌, List, [], ◌∷◌, ◌++◌, refl, arith}
use Rattle.srm_names.specs.declared.page.Page.{Page}
use Rattle.srm_slate.specs.Hands.{GivenView, Rises, IsOnce}

rises_on : (low : ℕ) (given : List GivenView) (high higher : ℕ) → high ≤ higher → Rises low given high → Rises low given higher
rises_on low [] high higher more below = omega (arith, more, below)
rises_on low (one ∷ rest) high higher more (above, rises) = (above, rises_on one.number rest high higher more rises)

rises_more : (low : ℕ) (given : List GivenView) (high : ℕ) (one : GivenView) → high < one.number → Rises low given high → Rises low (given ++ one ∷ []) one.number
rises_more low [] high one more below = (omega (arith, more, below), omega arith)
rises_more low (first ∷ rest) high one more (above, rises) = (above, rises_more first.number rest high one more rises)

pub once_at_first : IsOnce (record { settled = 0; given = [] })
once_at_first = record { rises = omega arith }

pub once_passed : (settled : ℕ) (given : List GivenView) → IsOnce (record { settled = settled; given = given }) → IsOnce (record { settled = settled + 1; given = given })
once_passed settled given once = record { rises = rises_on 0 given settled (settled + 1) (omega arith) once.rises }

pub once_more : (settled : ℕ) (given : List GivenView) (page : Page) (body : List ℕ) → IsOnce (record { settled = settled; given = given }) → IsOnce (record { settled = settled + 1; given = given ++ (record { number = settled + 1; page = page; body = body }) ∷ [] })
once_more settled given page body once = record { rises = rises_more 0 given settled (record { number = settled + 1; page = page; body = body }) (omega arith) once.rises }
