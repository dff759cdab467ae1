-- What a limit says of a datagram, and what becomes of several, at worked examples.
use Rattle.std.specs.Prelude.{◌≡◌, ℕ, ◌+◌, ◌-◌, ◌^◌, List, [], ◌∷◌, Some, None, refl}
use Rattle.std.proofs.Common.{arith, inl, inr}
use Rattle.srm_entries.specs.declared.entry.Entry.{Entry}
use Rattle.srm_entries.specs.Outstanding.{missing_in_all, WouldMiss}
use Rattle.srm_entries.specs.Sample.{trio, known_three}
use Rattle.srm_wire.specs.Counts.{no_drops, only_failed}
use Rattle.srm_world.specs.Traces.{Journal}
use Rattle.srm_world.specs.Recording.{IsHearing}
use Rattle.srm_node.specs.declared.missing_limit.Judged.TheVariants.{Within, Excess, Unjudged}
use Rattle.srm_node.specs.Limits.{BecomesEach, Heard, Judges, NotJudged, Outcome, TooMuch, counting_each, entries_of, limited_to, with_excess, with_most}

-- member 1 of three, which misses two drawops
abbrev misses_two : Journal
misses_two = record { start = record { config = trio 1; made = 0 }; entries = known_three }

two_are_missing : missing_in_all misses_two.entries ≡ 2
two_are_missing = refl

-- what would make so many more missing
abbrev Makes : List ℕ → ℕ → Type 0
Makes bytes more = WouldMiss (trio 1) known_three bytes more

-- three more are five: as many as may be
five_may_be : (bytes : List ℕ) → Makes bytes 3 → Judges (Some 5) misses_two bytes Within
five_may_be bytes makes = record { more = 3; would_miss = makes; within = inr (omega arith) }

-- and one too many for a limit of four
four_may_be : (bytes : List ℕ) → Makes bytes 3 → Judges (Some 4) misses_two bytes Excess
four_may_be bytes makes = record { more = 3; would_miss = makes; some = omega arith; many = omega arith }

-- what makes none missing is heard, though more are missing than may be
none_more : (bytes : List ℕ) → Makes bytes 0 → Judges (Some 1) misses_two bytes Within
none_more bytes makes = record { more = 0; would_miss = makes; within = inl refl }

-- without a limit none is too much
without_a_limit : (bytes : List ℕ) → Judges None misses_two bytes Excess → ⊥
without_a_limit bytes h = h

-- nor is one left unjudged
always_judged : (bytes : List ℕ) → Judges None misses_two bytes Unjudged → ⊥
always_judged bytes h = h

-- One is dropped, and the next one is heard as if the first hadn't come.
abbrev one_of_two : Entry → List Outcome
one_of_two e = TooMuch ∷ Heard e ∷ []

hears_the_second : (first second : List ℕ) (e : Entry) → Makes first 3 → Makes second 2 → IsHearing 5 misses_two second e → BecomesEach 5 (Some 4) misses_two (first ∷ second ∷ []) (one_of_two e)
hears_the_second first second e three two hears = (four_may_be first three, ((record { more = 2; would_miss = two; within = inr (omega arith) }, hears), tt))

its_entry_alone : (e : Entry) → entries_of (one_of_two e) ≡ e ∷ []
its_entry_alone e = refl

-- a datagram has one outcome
one_each : (bytes : List ℕ) (e : Entry) → BecomesEach 5 (Some 4) misses_two (bytes ∷ []) (one_of_two e) → ⊥
one_each bytes e h = h.1

-- each that was dropped is counted, and one that wasn't judged is counted as such too
counts_drops : (e : Entry) → counting_each (TooMuch ∷ Heard e ∷ NotJudged ∷ TooMuch ∷ []) (limited_to (Some 4)) ≡ record { most = Some 4; excess = 3; unjudged = 1 }
counts_drops e = refl

-- at the greatest count it stays
counts_no_further : counting_each (TooMuch ∷ []) (record { most = Some 4; excess = 2 ^ 64 - 1; unjudged = 0 }) ≡ record { most = Some 4; excess = 2 ^ 64 - 1; unjudged = 0 }
counts_no_further = refl

-- another limit takes no count back
keeps_its_counts : with_most None (record { most = Some 4; excess = 3; unjudged = 1 }) ≡ record { most = None; excess = 3; unjudged = 1 }
keeps_its_counts = refl

-- what the node dropped stands beside what its wire dropped
beside_the_wire : with_excess 3 (record (only_failed 1) { dropped = record no_drops { strangers = 5 } }) ≡ record (only_failed 1) { dropped = record no_drops { strangers = 5; excess = 3 } }
beside_the_wire = refl
