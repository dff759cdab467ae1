-- The last moment in a record after one call more.
use Rattle.std.proofs.Common.{◌≡◌, ℕ, Bool, true, false, List, [], ◌∷◌, ◌++◌, Option, Some, None, refl, ap, ◌∙◌}
use Rattle.std.specs.Prelude.{if◌then◌else◌, unwrap_or}
use Rattle.srm_names.specs.Histories.{last_of, or_else}
use Rattle.srm_names.proofs.Snoc.{last_of-snoc}
use Rattle.srm_entries.specs.declared.entry.Entry.{Entry}
use Rattle.srm_replays.specs.Calls.{acts}
use Rattle.srm_record.specs.Calls.{last_after, moment_of_acting, last_recorded}

choice : (b : Bool) (x m : ℕ) (o : Option ℕ) → unwrap_or (or_else (if b then Some x else None) o) m ≡ (if b then x else unwrap_or o m)
choice true x m o = refl
choice false x m o = refl

pub last_recorded-snoc : (m : ℕ) (es : List Entry) (e : Entry) → last_recorded m (es ++ e ∷ []) ≡ last_after (last_recorded m es) e
last_recorded-snoc m es e = ap (λ o. unwrap_or o m) (last_of-snoc moment_of_acting es e) ∙ choice (acts e) e.moment m (last_of moment_of_acting es)
