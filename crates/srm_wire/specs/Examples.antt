-- The definitions at worked examples.
use Rattle.std.specs.Prelude.{◌≡◌, ℕ, true, false, List, [], ◌∷◌, Some, refl}
use Rattle.std.proofs.Common.{inl, inr, arith}
use Rattle.srm_wire.specs.declared.fates.Fate.{Fate}
use Rattle.srm_wire.specs.declared.fates.Fate.TheVariants.{Pass, Drop, Twice, Late}
use Rattle.srm_wire.specs.Fates.{fate_of, arrivals_at, coming}
use Rattle.srm_wire.specs.declared.loss.Loss.TheVariants.{Denied, PortClosed}
use Rattle.srm_wire.specs.declared.counts.WireCounts.{WireCounts}
use Rattle.srm_wire.specs.Counts.{no_drops, no_losses, only_failed, with_failures, with_loss}
use Rattle.srm_wire.specs.Flakiness.{fails_next}
use Rattle.srm_wire.specs.Wires.{Told, one_more, others, bytes_to, AreSomeOf, Sends}

-- one passes, one is dropped, one comes twice, and of three late ones one comes behind two, one behind one, and one never
abbrev six : List Fate
six = Pass ∷ Drop ∷ Twice ∷ Late 2 ∷ Late 9 ∷ Late 1 ∷ []

pub passes_past_the_list : fate_of six 6 ≡ Pass
passes_past_the_list = refl

-- nothing comes of the fifth itself, and the third is behind it
pub a_late_one_comes : arrivals_at six 5 ≡ 3 ∷ []
a_late_one_comes = refl

-- of six copies and one more
pub all_that_come : coming six 7 ≡ 0 ∷ 2 ∷ 2 ∷ 3 ∷ 6 ∷ 5 ∷ []
all_that_come = refl

-- a late one is lost if fewer follow, and two that are equally late come in the order in which they were sent
pub one_is_lost : coming (Late 2 ∷ Late 1 ∷ Late 1 ∷ []) 3 ≡ 0 ∷ 1 ∷ []
one_is_lost = refl

pub none_behind_none : coming (Late 0 ∷ []) 2 ≡ 0 ∷ 1 ∷ []
none_behind_none = refl

-- the last call that is left fails, and none after it
pub the_last_left_fails : fails_next {W = ℕ} (record { wire = 7; remaining = 1; own = 0 }) ≡ true
the_last_left_fails = refl

pub no_call_fails_after_it : fails_next {W = ℕ} (record { wire = 7; remaining = 0; own = 1 }) ≡ false
no_call_fails_after_it = refl

pub counts_to_the_greatest : one_more 18446744073709551615 ≡ 18446744073709551615
counts_to_the_greatest = refl

-- each loss counts as its kind, and as no other
pub two_were_denied : with_loss Denied (with_loss PortClosed (with_loss Denied no_losses)) ≡ record { no_way = 0; denied = 2; too_long = 0; no_room = 0; port_closed = 1 }
two_were_denied = refl

-- a wire around one whose calls failed twice, and which lost one, adds its own failures alone, up to the greatest count
abbrev counted_before : WireCounts
counted_before = record { failures = 2; lost = with_loss Denied no_losses; dropped = no_drops }

pub adds_its_failures : with_failures 3 counted_before ≡ record { failures = 5; lost = with_loss Denied no_losses; dropped = no_drops }
adds_its_failures = refl

pub failures_stop : with_failures 18446744073709551615 (only_failed 2) ≡ only_failed 18446744073709551615
failures_stop = refl

pub rising_but_one : others 1 4 ≡ 0 ∷ 2 ∷ 3 ∷ []
rising_but_one = refl

-- the first and the last of three, in their order; not turned round, and none twice
pub some_in_order : AreSomeOf {A = ℕ} (1 ∷ 3 ∷ []) (1 ∷ 2 ∷ 3 ∷ [])
some_in_order = inl (refl, inr (inl (refl, tt)))

pub not_turned_round : AreSomeOf {A = ℕ} (3 ∷ 1 ∷ []) (1 ∷ 3 ∷ []) → ⊥
not_turned_round (inl (is, rest)) = cc
not_turned_round (inr (inl (is, rest))) = rest
not_turned_round (inr (inr rest)) = rest

pub none_twice : AreSomeOf {A = ℕ} (1 ∷ 1 ∷ []) (1 ∷ []) → ⊥
none_twice (inl (is, rest)) = rest
none_twice (inr rest) = rest

abbrev told : List ℕ → Told
told bytes = record { came = []; went = bytes_to 1 bytes ∷ [] }

-- of two that were to go the second was lost, by one failure
pub one_of_two_went : Sends true (bytes_to 1 (7 ∷ []) ∷ bytes_to 2 (7 ∷ []) ∷ []) 0 1 (Some (record { came = []; went = [] })) (Some (told (7 ∷ [])))
one_of_two_went = record { failures = (omega arith, inl (omega arith)); went = bytes_to 1 (7 ∷ []) ∷ []; some = inl (refl, tt); whole = tt; tells = record { told = refl } }
