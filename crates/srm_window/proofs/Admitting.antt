-- A window that fitted what came fits what came and one more.
use Rattle.std.proofs.Common.{◌≡◌, ◌≢◌, ℕ, ◌+◌, ◌-◌, ◌*◌, ◌/◌, ◌%◌, ◌^◌, ◌<◌, ◌≤◌, ◌⊎◌, max, nat_lt, nat_eq, Bool, true, false, not, ◌&&◌, bit_or, List, [], ◌∷◌, ◌++◌, length, get_or, slice_set, replicate, cond, refl, ap, sym, ◌∙◌, inl, inr, arith, eq-eqb}
use Rattle.std.specs.Int.{bit_at, w64}
use Rattle.std.proofs.Math.ListN.{length-set}
use Rattle.std.proofs.lemmas.Grind.{common_steps}
use Rattle.std.proofs.lemmas.Bool.{cases_eq, cases_lt, and_parts, and_cases, not-true, not-false, ltb-true, ltb-false, false≢true}
use Rattle.std.proofs.lemmas.Bool.Decides.{nat_tests}
use Rattle.std.proofs.lemmas.List.{get_or-replicate, get_or_past, length-replicate}
use Rattle.std.proofs.lemmas.Nat.Bits.{bit_at_set_same, bit_at_set_other, bit_at-zero}
use Rattle.srm_window.specs.Freshness.{greatest, is_among, is_fresh}
use Rattle.srm_window.specs.Windows.{WindowView, WindowFits, admits, after, known_at, noted, remembers, slot_of, new_window}
use Rattle.srm_window.proofs.Among.{greatest_more, below_greatest, among_before, among_last, among_cases}

-- the word of a counter's block once its bit is set
known_same : (w : WindowView) (c : ℕ) → length w.blocks ≡ 128 → length w.bits ≡ 128 → known_at (noted c w) c ≡ bit_or (known_at w c) (1 * 2 ^ (c % 64) % 2 ^ 64)
known_same w c blocks bits = grind (arith, common_steps, nat_tests)

-- that of another slot stays
known_apart : (w : WindowView) (c d : ℕ) → slot_of d ≢ slot_of c → known_at (noted c w) d ≡ known_at w d
known_apart w c d apart = grind (arith, common_steps, nat_tests)

-- that of another block in its slot is gone
known_over : (w : WindowView) (c d : ℕ) → length w.blocks ≡ 128 → slot_of d ≡ slot_of c → d / 64 ≢ c / 64 → known_at (noted c w) d ≡ 0
known_over w c d blocks slots other = grind (arith, common_steps, nat_tests)

-- the word of two counters of one block is the same
known_alike : (w : WindowView) (c d : ℕ) → d / 64 ≡ c / 64 → known_at w d ≡ known_at w c
known_alike w c d same = ap (λ b. cond (nat_eq (get_or w.blocks (b % 128) 0) b) (get_or w.bits (b % 128) 0) 0) same

known_beside : (w : WindowView) (c d : ℕ) → length w.blocks ≡ 128 → length w.bits ≡ 128 → d / 64 ≡ c / 64 → known_at (noted c w) d ≡ bit_or (known_at w d) (1 * 2 ^ (c % 64) % 2 ^ 64)
known_beside w c d blocks bits same =
    known_alike (noted c w) c d same ∙ known_same w c blocks bits ∙ ap (λ n. bit_or n (1 * 2 ^ (c % 64) % 2 ^ 64)) (sym (known_alike w c d same))

-- a counter whose bit was set is remembered
remembers_itself : (w : WindowView) (c : ℕ) → length w.blocks ≡ 128 → length w.bits ≡ 128 → remembers (noted c w) c ≡ true
remembers_itself w c blocks bits =
    let bit : bit_at (known_at (noted c w) c) (c % 64) ≡ 1 = ap (λ n. bit_at n (c % 64)) (known_same w c blocks bits) ∙ bit_at_set_same w64 (known_at w c) (c % 64) (omega arith) in
    eq-eqb _ _ bit

remembers_beside : (w : WindowView) (c d : ℕ) → length w.blocks ≡ 128 → length w.bits ≡ 128 → d / 64 ≡ c / 64 → d ≢ c → remembers (noted c w) d ≡ remembers w d
remembers_beside w c d blocks bits same other =
    ap (λ n. nat_eq (bit_at n (d % 64)) 1) (known_beside w c d blocks bits same)
    ∙ ap (λ n. nat_eq n 1) (bit_at_set_other w64 (known_at w d) (c % 64) (omega arith) (d % 64) (λ e. omega arith))

remembers_apart : (w : WindowView) (c d : ℕ) → slot_of d ≢ slot_of c → remembers (noted c w) d ≡ remembers w d
remembers_apart w c d apart = ap (λ n. nat_eq (bit_at n (d % 64)) 1) (known_apart w c d apart)

remembers_over : (w : WindowView) (c d : ℕ) → length w.blocks ≡ 128 → slot_of d ≡ slot_of c → d / 64 ≢ c / 64 → remembers (noted c w) d ≡ false
remembers_over w c d blocks slots other =
    ap (λ n. nat_eq (bit_at n (d % 64)) 1) (known_over w c d blocks slots other) ∙ ap (λ n. nat_eq n 1) (bit_at-zero (d % 64))

-- Once a counter's bit is set, each counter is that one, is remembered as before, or was of another block in its slot.
pub data Remains (w : WindowView) (c d : ℕ) : Type 0 where
  itself : d ≡ c → Remains w c d
  stays : remembers (noted c w) d ≡ remembers w d → Remains w c d
  gone : slot_of d ≡ slot_of c → d / 64 ≢ c / 64 → remembers (noted c w) d ≡ false → Remains w c d

remains : (w : WindowView) (c d : ℕ) → length w.blocks ≡ 128 → length w.bits ≡ 128 → Remains w c d
remains w c d blocks bits = by_slot (cases_eq (slot_of d) (slot_of c)) (cases_eq (d / 64) (c / 64)) (cases_eq d c)
  where
    by_slot : (slot_of d ≡ slot_of c) ⊎ (slot_of d ≡ slot_of c → ⊥) → (d / 64 ≡ c / 64) ⊎ (d / 64 ≡ c / 64 → ⊥) → (d ≡ c) ⊎ (d ≡ c → ⊥) → Remains w c d
    by_slot (inr apart) block same = stays (remembers_apart w c d apart)
    by_slot (inl slots) (inr other) same = gone slots other (remembers_over w c d blocks slots other)
    by_slot (inl slots) (inl block) (inl same) = itself same
    by_slot (inl slots) (inl block) (inr other) = stays (remembers_beside w c d blocks bits block other)

-- two blocks in one slot are farther apart than the window is wide
far_apart : (c d top : ℕ) → slot_of d ≡ slot_of c → d / 64 ≢ c / 64 → top < c + 4096 → d ≤ top → max top c < d + 4096 → ⊥
far_apart c d top slots other within below still = omega arith

pub admitted : (w : WindowView) (came : List ℕ) (c : ℕ) → WindowFits w came → admits w c ≡ true → WindowFits (noted c w) (came ++ c ∷ [])
admitted w came c fits new = record {
  top = ap (λ n. max n c) fits.top ∙ sym (greatest_more came c);
  only = λ d known. only_more d (remains w c d fits.slots.0 fits.slots.1) known;
  all = λ d among within. all_more d (remains w c d fits.slots.0 fits.slots.1) (among_cases came c d among) within;
  slots = (length-set w.blocks (slot_of c) (c / 64) ∙ fits.slots.0, length-set w.bits (slot_of c) (bit_or (known_at w c) (1 * 2 ^ (c % 64) % 2 ^ 64)) ∙ fits.slots.1);
}
  where
    only_more : (d : ℕ) → Remains w c d → remembers (noted c w) d ≡ true → is_among (came ++ c ∷ []) d ≡ true
    only_more d (itself same) known = among_last came c d same
    only_more d (stays is) known = among_before came c d (fits.only d (sym is ∙ known))
    only_more d (gone slots other is) known = absurd (false≢true (sym is ∙ known))

    in_window : w.greatest < c + 4096
    in_window = let h : w.greatest - c < 4096 = ltb-true (w.greatest - c) 4096 (and_parts _ _ new).0 in omega arith

    before : (d : ℕ) → is_among came d ≡ true → greatest (came ++ c ∷ []) < d + 4096 → remembers w d ≡ true
    before d among within = fits.all d among (omega (arith, greatest_more came c, within))

    all_more : (d : ℕ) → Remains w c d → (is_among came d ≡ true) ⊎ (d ≡ c) → greatest (came ++ c ∷ []) < d + 4096 → remembers (noted c w) d ≡ true
    all_more d kept (inr same) within = ap (remembers (noted c w)) same ∙ remembers_itself w c fits.slots.0 fits.slots.1
    all_more d (itself same) (inl among) within = ap (remembers (noted c w)) same ∙ remembers_itself w c fits.slots.0 fits.slots.1
    all_more d (stays is) (inl among) within = is ∙ before d among within
    all_more d (gone slots other is) (inl among) within = absurd (far_apart c d (greatest came) slots other (omega (arith, fits.top, in_window)) (below_greatest came d among) (omega (arith, greatest_more came c, within)))

pub refused : (w : WindowView) (came : List ℕ) (c : ℕ) → WindowFits w came → admits w c ≡ false → WindowFits w (came ++ c ∷ [])
refused w came c fits old = by_cause (and_cases (nat_lt (w.greatest - c) 4096) (not (remembers w c)) old)
  where
    -- one that isn't above the greatest, and is remembered if it is in the window
    keeps : c ≤ w.greatest → (w.greatest < c + 4096 → remembers w c ≡ true) → WindowFits w (came ++ c ∷ [])
    keeps below known = record {
      top = let h = fits.top in omega (arith, greatest_more came c);
      only = λ d is. among_before came c d (fits.only d is);
      all = λ d among within. all_more d (among_cases came c d among) (omega (arith, greatest_more came c, within));
      slots = fits.slots;
    }
      where
        all_more : (d : ℕ) → (is_among came d ≡ true) ⊎ (d ≡ c) → greatest came < d + 4096 → remembers w d ≡ true
        all_more d (inl among) within = fits.all d among within
        all_more d (inr same) within = ap (remembers w) same ∙ known (omega (arith, fits.top, within, same))

    by_cause : (nat_lt (w.greatest - c) 4096 ≡ false) ⊎ (not (remembers w c) ≡ false) → WindowFits w (came ++ c ∷ [])
    by_cause (inl behind) = let h : 4096 ≤ w.greatest - c = ltb-false (w.greatest - c) 4096 behind in keeps (omega arith) (λ within. absurd (omega arith))
    by_cause (inr known) = let is : remembers w c ≡ true = not-false (remembers w c) known in keeps (omega (arith, fits.top, below_greatest came c (fits.only c is))) (λ within. is)

-- a window that fits admits exactly what is fresh
pub admits_fresh : (w : WindowView) (came : List ℕ) (c : ℕ) → WindowFits w came → admits w c ≡ is_fresh came c
admits_fresh w came c fits = alike (nat_lt (w.greatest - c) 4096) (nat_lt (greatest came) (c + 4096)) (remembers w c) (is_among came c) (one_test w.greatest (greatest came) c fits.top) (λ within. known (ltb-true (greatest came) (c + 4096) within))
  where
    alike : (p q r a : Bool) → p ≡ q → (q ≡ true → r ≡ a) → (p && not r) ≡ (not a && q)
    alike true true r a is same = ap not (same refl) ∙ and_true (not a)
      where
        and_true : (b : Bool) → b ≡ (b && true)
        and_true true = refl
        and_true false = refl
    alike false false r a is same = and_none (not a)
      where
        and_none : (b : Bool) → false ≡ (b && false)
        and_none true = refl
        and_none false = refl
    alike true false r a is same = absurd (false≢true (sym is))
    alike false true r a is same = absurd (false≢true is)

    one_test : (top all c : ℕ) → top ≡ all → nat_lt (top - c) 4096 ≡ nat_lt all (c + 4096)
    one_test top all c is = grind (arith, nat_tests)

    known : greatest came < c + 4096 → remembers w c ≡ is_among came c
    known within = both (remembers w c) (is_among came c) (fits.only c) (λ among. fits.all c among within)
      where
        both : (r a : Bool) → (r ≡ true → a ≡ true) → (a ≡ true → r ≡ true) → r ≡ a
        both true a f g = sym (f refl)
        both false true f g = g refl
        both false false f g = refl

blank : (n : ℕ) → length {A = ℕ} (replicate n 0) ≡ 128 → WindowFits (record { greatest = 0; blocks = replicate n 0; bits = replicate n 0 }) []
blank n long = record { top = refl; only = λ c is. absurd (false≢true (sym (unknown c) ∙ is)); all = λ c is within. absurd (false≢true is); slots = (long, long) }
  where
    none : (b : Bool) (x : ℕ) → x ≡ 0 → cond b x 0 ≡ 0
    none true x is = is
    none false x is = refl

    zero_at : (i : ℕ) → get_or {A = ℕ} (replicate n 0) i 0 ≡ 0
    zero_at i = by_place (cases_lt i n)
      where
        by_place : (i < n) ⊎ (n ≤ i) → get_or {A = ℕ} (replicate n 0) i 0 ≡ 0
        by_place (inl within) = get_or-replicate n i 0 0 within
        by_place (inr past) = get_or_past (replicate n 0) i 0 (omega (arith, length-replicate {A = ℕ} n 0))

    unknown : (c : ℕ) → remembers (record { greatest = 0; blocks = replicate n 0; bits = replicate n 0 }) c ≡ false
    unknown c = ap (λ n. nat_eq (bit_at n (c % 64)) 1) (none (nat_eq (get_or {A = ℕ} (replicate n 0) (slot_of c) 0) (c / 64)) (get_or (replicate n 0) (slot_of c) 0) (zero_at (slot_of c))) ∙ ap (λ n. nat_eq n 1) (bit_at-zero (c % 64))

pub fits_none : WindowFits new_window []
fits_none = blank 128 refl

-- whatever comes
pub fits_after : (w : WindowView) (came : List ℕ) (c : ℕ) → WindowFits w came → WindowFits (after c w) (came ++ c ∷ [])
fits_after w came c fits = by_test (admits w c) refl
  where
    by_test : (b : Bool) → admits w c ≡ b → WindowFits (cond b (noted c w) w) (came ++ c ∷ [])
    by_test true is = admitted w came c fits is
    by_test false is = refused w came c fits is
