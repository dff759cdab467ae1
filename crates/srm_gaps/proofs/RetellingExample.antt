-- A run of two members, each told of whole, so that the premises of the laws can be met.
use Rattle.std.proofs.Common.{◌≡◌, ◌≢◌, ℕ, zero, suc, ◌≤◌, ◌<◌, Bool, true, false, List, [], ◌∷◌, ◌++◌, refl, ap, sym, ◌∙◌, arith}
use Rattle.std.specs.Prelude.{Option, None, option_map, unwrap_or, IsSome}
use Rattle.std.proofs.lemmas.Bool.{ne_eqb}
use Rattle.srm_names.specs.Histories.{IsPrefix}
use Rattle.srm_entries.specs.declared.entry.Entry.{Entry}
use Rattle.srm_entries.specs.Sample.{config}
use Rattle.srm_entries.specs.Entries.{sent}
use Rattle.srm_world.specs.Traces.{of_member}
use Rattle.srm_world.proofs.Members.{none_of}
use Rattle.srm_world.proofs.TakesExample.{trace, run, honest}
use Rattle.srm_replays.specs.Law.{acting}
use Rattle.srm_gaps.specs.declared.told.Told.{Told}
use Rattle.srm_gaps.specs.Gaps.{AreOfOneSession}
use Rattle.srm_gaps.specs.Possible.{told_of, calls_told, may_miss, Continues}
use Rattle.srm_gaps.specs.Retelling.{with_replays, AreRunsTold, IsRunAsTold, HasHonestOrder}
use Rattle.srm_gaps.proofs.Retelling.{told_first, retelling_law}
use Rattle.srm_gaps.proofs.Exactly.{order_law}

abbrev told : ℕ → Told
told me = record { journal = record { start = record { config = config me; made = 0 }; entries = of_member me trace.entries }; is_cut = false }

abbrev both : List Told
both = told 0 ∷ told 1 ∷ []

runs : AreRunsTold both
runs = (run.each.0, (run.each.1.0, tt))

-- there is no other member

abbrev calls_in : Option Told → List Entry
calls_in o = unwrap_or (option_map (λ (t : Told). t.journal.entries) o) []

abbrev misses_in : Option Told → Bool
misses_in o = unwrap_or (option_map (λ (t : Told). t.is_cut) o) true

untold : (m : ℕ) → 2 ≤ m → told_of both m ≡ None
untold m l = told_first (told 0) (told 1 ∷ []) m false (ne_eqb 0 m (λ e. omega (arith, l, e))) ∙ told_first (told 1) [] m false (ne_eqb 1 m (λ e. omega (arith, l, e)))

nothing : (m : ℕ) → 2 ≤ m → of_member m trace.entries ≡ []
nothing m l = none_of 2 m trace.entries l run.inside

front : (m : ℕ) → IsPrefix (acting (calls_told both m)) (acting (of_member m trace.entries))
front zero = ([], refl)
front (suc zero) = ([], refl)
front (suc (suc m)) = (acting (of_member (suc (suc m)) trace.entries), ap (λ (o : Option Told). acting (calls_in o) ++ acting (of_member (suc (suc m)) trace.entries)) (untold (suc (suc m)) (omega arith)))

whole : (m : ℕ) → may_miss both m ≡ false → acting (of_member m trace.entries) ≡ acting (calls_told both m)
whole zero e = refl
whole (suc zero) e = refl
whole (suc (suc m)) e = let bad : true ≡ false = ap misses_in (sym (untold (suc (suc m)) (omega arith))) ∙ e in absurd (cc)

as_told : IsRunAsTold both trace
as_told = record { run = run; honest = honest; did = record { front = front; whole = whole } }

goes_on : Continues both (with_replays both trace.entries)
goes_on = (retelling_law both trace runs as_told).0

-- and all that was sent is told

differ : suc zero ≢ zero
differ e = absurd (cc)

session : AreOfOneSession both
session = ((record { session = refl; members = refl; other = differ }, tt), (tt, tt))

each_told : (m : ℕ) → m < 2 → IsSome (told_of both m)
each_told zero l = refl
each_told (suc zero) l = refl
each_told (suc (suc m)) l = absurd (omega (arith, l))

all_sent : (m : ℕ) → sent (of_member m trace.entries) ≡ sent (calls_told both m)
all_sent zero = refl
all_sent (suc zero) = refl
all_sent (suc (suc m)) = ap sent (nothing (suc (suc m)) (omega arith)) ∙ ap (λ (o : Option Told). sent (calls_in o)) (sym (untold (suc (suc m)) (omega arith)))

in_order : HasHonestOrder both
in_order = order_law both trace runs session as_told (record { each = each_told; sent = all_sent })
