-- Pages as numbers.
use Rattle.std.specs.Prelude.{◌≡◌, ℕ, ◌+◌, ◌*◌, ◌<◌}
use Rattle.srm_names.specs.declared.limits.TheConstants.{MEMBERS, PAGE_NUMBERS}
use Rattle.srm_names.specs.declared.page.Page.{Page}

-- a page as a number above 0
abbrev pub code_of : Page → ℕ
code_of p = p.creator * PAGE_NUMBERS + p.number + 1

-- no page is this number
abbrev pub IsNoCode : ℕ → Type 0
IsNoCode code = (p : Page) → p.creator < MEMBERS → p.number < PAGE_NUMBERS → code_of p ≡ code → ⊥
