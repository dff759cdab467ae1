-- Whether records are of one session, and their journals in order.
use Rattle.std.proofs.Common.{◌≡◌, ℕ, ◌==◌, List, [], ◌∷◌, ◌++◌, sym, subst}
use Rattle.std.specs.Prelude.{◌↔◌, Some}
use Rattle.std.specs.List.{AllByRecursion}
use Rattle.std.proofs.lemmas.Bool.{eqb-true}
use Rattle.srm_names.proofs.Lists.{find-Has}
use Rattle.srm_world.specs.Claims.{IsLawfulJournal}
use Rattle.srm_entries.specs.declared.entry.Entry.{Entry}
use Rattle.srm_entries.specs.Configs.{Config}
use Rattle.srm_entries.specs.Runs.{EntryRight}
use Rattle.srm_names.specs.Histories.{steps_after}
use Rattle.srm_gaps.specs.declared.told.Told.{Told}
use Rattle.srm_gaps.specs.Orders.{IsCallOf}
use Rattle.srm_gaps.specs.Possible.{told_of}
use Rattle.srm_gaps.specs.Gaps.{AreOfOneSession}

-- the records from here on decide
abbrev pub Decides : List Told → List Told → Type 0
Decides all rest = AreOfOneSession all ↔ AreOfOneSession rest

-- a member's calls can be spelled

calls_after : (c : Config) (made : ℕ) (before es : List Entry) → AllByRecursion (EntryRight c made) (steps_after before es) → AllByRecursion (IsCallOf c.me) es
calls_after c made before [] all = tt
calls_after c made before (e ∷ es) all = (record { member = all.0.member; readable = record { outs = all.0.spelled; read = all.0.read } }, calls_after c made (before ++ e ∷ []) es all.1)

pub calls_are : (ts : List Told) (m : ℕ) (t : Told) (es : List Entry) → Some t ≡ told_of ts m → IsLawfulJournal t.journal → es ≡ t.journal.entries → AllByRecursion (IsCallOf m) es
calls_are ts m t es found lawful are =
    let (there, is) = find-Has (λ (x : Told). x.journal.start.config.me == m) ts t (sym found) in
    subst (AllByRecursion (IsCallOf m)) (sym are)
    (subst (λ (k : ℕ). AllByRecursion (IsCallOf k) t.journal.entries) (eqb-true t.journal.start.config.me m is) (calls_after t.journal.start.config t.journal.start.made [] t.journal.entries lawful.run.each))
