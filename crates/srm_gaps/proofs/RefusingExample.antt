-- What two members tell, where one hides that it sent. It is refused, so that the premises of the law can be met.
use Rattle.std.proofs.Common.{◌≡◌, ℕ, zero, suc, ◌≤◌, ◌<◌, false, List, [], ◌∷◌, ◌++◌, length, take, drop, refl, ap, sym, ◌∙◌, subst, lit<, arith}
use Rattle.std.specs.Prelude.{None, Option, IfSome, option_map, unwrap_or, slice_get}
use Rattle.std.proofs.lemmas.Bool.{ne_eqb}
use Rattle.std.proofs.lemmas.List.{take-append-drop}
use Rattle.srm_names.specs.Histories.{IsPrefix}
use Rattle.srm_names.proofs.Lists.{Has-contained}
use Rattle.srm_codec.specs.declared.datagram.Datagram.TheVariants.{Data}
use Rattle.srm_entries.specs.declared.entry.Entry.{Entry}
use Rattle.srm_entries.specs.Runs.{IsMemberRun}
use Rattle.srm_entries.specs.Sample.{config, first_drawop}
use Rattle.srm_entries.proofs.Cutting.{run_part}
use Rattle.srm_world.specs.Traces.{Trace, of_member}
use Rattle.srm_world.proofs.Members.{none_of}
use Rattle.srm_world.proofs.TakesExample.{trace, run}
use Rattle.srm_gaps.specs.declared.told.Told.{Told}
use Rattle.srm_gaps.specs.Possible.{told_of, calls_told, next_told, HearsImpossible, AreStuck, IsStuckAt, IsRefusedAt}
use Rattle.srm_gaps.specs.Retelling.{AreRunsTold, IsRunAsTold}
use Rattle.srm_gaps.proofs.Continuing.{no_continuation}
use Rattle.srm_gaps.proofs.Retelling.{told_first, refusal_law}

-- member 0 tells that it drew, and nothing that it did then
abbrev drawn : List Entry
drawn = take 1 (of_member 0 trace.entries)

abbrev told : ℕ → List Entry → Told
told me entries = record { journal = record { start = record { config = config me; made = 0 }; entries = entries }; is_cut = false }

-- member 1 tells all, and first that it heard the stroke
abbrev both : List Told
both = told 0 drawn ∷ told 1 (of_member 1 trace.entries) ∷ []

runs : AreRunsTold both
runs = (
  run_part (config 0) 0 drawn (drop 1 (of_member 0 trace.entries)) (subst (IsMemberRun (config 0) 0) (sym (take-append-drop 1 (of_member 0 trace.entries))) run.each.0),
  (run.each.1.0, tt),
)

-- there is no other member

abbrev calls_in : Option Told → List Entry
calls_in o = unwrap_or (option_map (λ (t : Told). t.journal.entries) o) []

untold : (m : ℕ) → 2 ≤ m → told_of both m ≡ None
untold m l =
    told_first (told 0 drawn) (told 1 (of_member 1 trace.entries) ∷ []) m false (ne_eqb 0 m (λ e. omega (arith, l, e))) ∙ told_first (told 1 (of_member 1 trace.entries)) [] m false (ne_eqb 1 m (λ e. omega (arith, l, e)))

nothing : (m : ℕ) → 2 ≤ m → of_member m drawn ≡ []
nothing m l = none_of 2 m drawn l (lit< tt, tt)

-- the stroke was drawn, and then no call may follow

prefixes : (m : ℕ) → IsPrefix (of_member m drawn) (calls_told both m)
prefixes zero = ([], refl)
prefixes (suc zero) = (of_member 1 trace.entries, refl)
prefixes (suc (suc m)) = (calls_told both (suc (suc m)), ap (λ es. es ++ calls_told both (suc (suc m))) (nothing (suc (suc m)) (omega arith)))

waits : (m : ℕ) → IfSome (next_told both drawn m) (HearsImpossible both drawn)
waits zero = tt
waits (suc zero) = (Data first_drawop, refl, (λ h. Has-contained (Data first_drawop) [] h), refl)
waits (suc (suc m)) = subst (λ (es : List Entry). IfSome (slice_get es (length (of_member (suc (suc m)) drawn))) (HearsImpossible both drawn)) (ap calls_in (sym (untold (suc (suc m)) (omega arith)))) tt

stuck : AreStuck both drawn
stuck = record { prefixes = prefixes; possible = (tt, tt); waits = waits }

smallest : (m : ℕ) → m < 1 → next_told both drawn m ≡ None
smallest zero l = refl
smallest (suc m) l = absurd (omega (arith, l))

stuck_at : IsStuckAt both 1 0
stuck_at = record { es = drawn; stuck = stuck; left = refl; smallest = smallest; count = refl }

refused_at : IsRefusedAt both 1 0
refused_at = (stuck_at, no_continuation both 1 0 stuck_at)

-- so in no honest run the members did that
no_run : (t : Trace) → ¬ (IsRunAsTold both t)
no_run t = refusal_law both 1 0 t runs refused_at
