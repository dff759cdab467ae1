-- How many numbers of a stream aren't held.
use Rattle.std.proofs.Common.{◌≡◌, ◌≢◌, ℕ, zero, suc, ◌+◌, ◌-◌, ◌≤◌, ◌<◌, ◌⊎◌, List, [], ◌∷◌, Option, Some, None, Bool, true, false, not, length, refl, sym, ap, ◌∙◌, arith, add-one, inl, inr}
use Rattle.std.specs.Prelude.{is_some, map, filter, find, cond, nat_le, nat_lt, ◌&&◌, option_map}
use Rattle.std.proofs.lemmas.Bool.{cases_Bool, cases_eq, eq-eqb, ne_eqb, false≢true}
use Rattle.std.proofs.lemmas.Bool.Decides.{nat_tests}
use Rattle.std.proofs.lemmas.List.{length-append}
use Rattle.std.proofs.lemmas.List.Elements.{filter-append, filter_agree}
use Rattle.std.specs.Option.{option_copied}
use Rattle.std.proofs.lemmas.List.Folds.{find-append}
use denote.Ref.{Bor}
use Rattle.srm_names.specs.declared.stream.Stream.{Stream}
use Rattle.srm_names.specs.declared.drawop.Drawop.{Drawop}
use Rattle.srm_names.specs.FullName.{FullName}
use Rattle.srm_names.specs.Histories.{count_up, or_else}
use Rattle.srm_names.specs.Names.{named}
use Rattle.srm_names.proofs.Snoc.{count_up-more}
use Rattle.srm_store.specs.Places.{place_at, is_gap, gaps_up_to, next_gap, one_unless_filled, SamePlaces, Writes}
use Rattle.srm_store.specs.StreamPlaces.{StreamContent, unheld_in_stream}

-- one number more
last_gap : (b : Bool) (k : ℕ) → length (cond (not b) (k ∷ []) []) ≡ cond b 0 1
last_gap true k = refl
last_gap false k = refl

pub gaps_more : (places : List (List (Option Drawop))) (n : ℕ) → gaps_up_to places (n + 1) ≡ gaps_up_to places n + one_unless_filled places (n + 1)
gaps_more places n =
    let e : 1 + n ≡ n + 1 = omega arith in
    ap (λ ks. length (filter (is_gap places) ks)) (count_up-more 1 n)
    ∙ ap length (filter-append (is_gap places) (count_up 1 n) ((1 + n) ∷ []))
    ∙ length-append (filter (is_gap places) (count_up 1 n)) (filter (is_gap places) ((1 + n) ∷ []))
    ∙ ap (λ k. gaps_up_to places n + k) (last_gap (is_some (place_at places (1 + n))) (1 + n) ∙ ap (one_unless_filled places) e)

one_at_most : (b : Bool) → cond b 0 1 ≤ 1
one_at_most true = omega arith
one_at_most false = omega arith

pub gaps_few : (places : List (List (Option Drawop))) (n : ℕ) → gaps_up_to places n ≤ n
gaps_few places zero = omega arith
gaps_few places (suc n) = omega (arith, ap (gaps_up_to places) (add-one n), gaps_more places n, one_at_most (is_some (place_at places (n + 1))), gaps_few places n)

-- what is the same has as many gaps
pub gaps_same : (a b : List (List (Option Drawop))) → SamePlaces a b → (n : ℕ) → gaps_up_to b n ≡ gaps_up_to a n
gaps_same a b same n = ap length (filter_agree (is_gap b) (is_gap a) (λ k. ap (λ o. not (is_some o)) (same.each k)) (count_up 1 n))

-- a gap is filled
module _ (a b : List (List (Option Drawop))) (k : ℕ) (d : Drawop) (was : place_at a k ≡ None) (w : Writes k (Some d) a b) where
  filled_there : place_at b k ≡ Some d
  filled_there = w.each k ∙ rw (eq-eqb k k refl) refl

  same_elsewhere : (m : ℕ) → m ≢ k → place_at b m ≡ place_at a m
  same_elsewhere m ne = w.each m ∙ rw (ne_eqb m k ne) refl

  pub filled_above : (n : ℕ) → n < k → gaps_up_to b n ≡ gaps_up_to a n
  filled_above zero lt = refl
  filled_above (suc n) lt =
      let other : n + 1 ≢ k = λ e. absurd (omega (arith, lt, e)) in
      let same : one_unless_filled b (n + 1) ≡ one_unless_filled a (n + 1) = ap (λ o. cond (is_some o) 0 1) (same_elsewhere (n + 1) other) in
      let before : gaps_up_to b n ≡ gaps_up_to a n = filled_above n (omega (arith, lt)) in
      omega (arith, ap (gaps_up_to a) (add-one n), ap (gaps_up_to b) (add-one n), gaps_more a n, gaps_more b n, same, before)

  pub filled_within : 1 ≤ k → (n : ℕ) → k ≤ n → gaps_up_to a n ≡ gaps_up_to b n + 1
  filled_within some zero le = absurd (omega (arith, some, le))
  filled_within some (suc n) le = go (cases_eq (n + 1) k) (λ below. filled_within some n below)
    where
      go : ((n + 1 ≡ k) ⊎ (n + 1 ≢ k)) → (k ≤ n → gaps_up_to a n ≡ gaps_up_to b n + 1) → gaps_up_to a (suc n) ≡ gaps_up_to b (suc n) + 1
      go (inl e) rest =
          let gone : one_unless_filled b (n + 1) ≡ 0 = ap (one_unless_filled b) e ∙ ap (λ o. cond (is_some o) 0 1) filled_there in
          let there : one_unless_filled a (n + 1) ≡ 1 = ap (one_unless_filled a) e ∙ ap (λ o. cond (is_some o) 0 1) was in
          let before : gaps_up_to b n ≡ gaps_up_to a n = filled_above n (omega (arith, e)) in
          omega (arith, ap (gaps_up_to a) (add-one n), ap (gaps_up_to b) (add-one n), gaps_more a n, gaps_more b n, gone, there, before)
      go (inr ne) rest =
          let same : one_unless_filled b (n + 1) ≡ one_unless_filled a (n + 1) = ap (λ o. cond (is_some o) 0 1) (same_elsewhere (n + 1) ne) in
          let before : gaps_up_to a n ≡ gaps_up_to b n + 1 = rest (omega (arith, le, ne)) in
          omega (arith, ap (gaps_up_to a) (add-one n), ap (gaps_up_to b) (add-one n), gaps_more a n, gaps_more b n, same, before)

-- a drawop is put into a place that was made: of the numbers that are known, one gap less if it is one of them
pub put_counts : (a b c : List (List (Option Drawop))) (k known missing : ℕ) (d : Drawop) → place_at a k ≡ None → SamePlaces a b → Writes k (Some d) b c → 1 ≤ k → missing ≡ gaps_up_to a known → missing ≡ gaps_up_to c known + cond (nat_le k known) 1 0
put_counts a b c k known missing d was same w some is = go (cases_Bool (nat_le k known))
  where
    there : place_at b k ≡ None
    there = same.each k ∙ was

    go : ((nat_le k known ≡ true) ⊎ (nat_le k known ≡ false)) → missing ≡ gaps_up_to c known + cond (nat_le k known) 1 0
    go (inl below) =
        let le : k ≤ known = grind (arith, nat_tests) in
        rw below (is ∙ sym (gaps_same a b same known) ∙ filled_within b c k d there w some known le)
    go (inr past) =
        let lt : known < k = grind (arith, nat_tests) in
        rw past (omega (arith, is, gaps_same a b same known, filled_above b c k d there w known lt))

pub was_counted : (missing rest : ℕ) (b : Bool) → b ≡ true → missing ≡ rest + cond b 1 0 → 1 ≤ missing
was_counted missing rest b one is = one_of missing rest b one is
  where
    one_of : (missing rest : ℕ) (v : Bool) → v ≡ true → missing ≡ rest + cond v 1 0 → 1 ≤ missing
    one_of missing rest true e is = omega (arith, is)
    one_of missing rest false e is = absurd (false≢true e)

pub counts_on : (missing rest left : ℕ) (b : Bool) → missing ≡ rest + cond b 1 0 → missing ≡ left + cond b 1 0 → left ≡ rest
counts_on missing rest left b is less = omega (arith, is, less)

pub none_there : {X : Type 0} {o : Option X} (r : Option (Bor X)) → r ≡ None → option_copied r ≡ o → o ≡ None
none_there r e at = sym at ∙ ap option_copied e

-- the names of gaps
pub gaps_named : (content : StreamContent) (s : Stream) (ks : List ℕ) → length (unheld_in_stream content (map (named s) ks)) ≡ length (filter (is_gap content.places) ks)
gaps_named content s [] = refl
gaps_named content s (k ∷ ks) = go (is_some (place_at content.places k)) (gaps_named content s ks)
  where
    go : (b : Bool) → length (unheld_in_stream content (map (named s) ks)) ≡ length (filter (is_gap content.places) ks)
        → length (cond (not b) (named s k ∷ unheld_in_stream content (map (named s) ks)) (unheld_in_stream content (map (named s) ks))) ≡ length (cond (not b) (k ∷ filter (is_gap content.places) ks) (filter (is_gap content.places) ks))
    go true e = e
    go false e = ap suc e

-- the first gap above a number

gap_more : (places : List (List (Option Drawop))) (after n : ℕ) → next_gap places after (n + 1) ≡ or_else (next_gap places after n) (cond (nat_lt after (n + 1) && is_gap places (n + 1)) (Some (n + 1)) None)
gap_more places after n =
    let e : 1 + n ≡ n + 1 = omega arith in
    ap (find (λ k. nat_lt after k && is_gap places k)) (count_up-more 1 n)
    ∙ find-append (λ k. nat_lt after k && is_gap places k) (count_up 1 n) ((1 + n) ∷ [])
    ∙ ap (λ k. or_else (next_gap places after n) (cond (nat_lt after k && is_gap places k) (Some k) None)) e

-- none, up to the number itself
pub no_gap_yet : (places : List (List (Option Drawop))) (after n : ℕ) → n ≤ after → next_gap places after n ≡ None
no_gap_yet places after zero le = refl
no_gap_yet places after (suc n) le =
    let low : nat_lt after (n + 1) ≡ false = grind (arith, nat_tests) in
    ap (next_gap places after) (sym (add-one n)) ∙ gap_more places after n
    ∙ rw (low, no_gap_yet places after n (omega (arith, le))) refl

-- none, if the next number is held
pub gap_passed : (places : List (List (Option Drawop))) (after n : ℕ) → next_gap places after n ≡ None → is_some (place_at places (n + 1)) ≡ true → next_gap places after (n + 1) ≡ None
gap_passed places after n none filled = gap_more places after n ∙ rw (none, filled) (go (nat_lt after (n + 1)))
  where
    go : (b : Bool) → cond (b && false) (Some (n + 1)) None ≡ None
    go true = refl
    go false = refl

-- the next number, if it isn't
gap_here : (places : List (List (Option Drawop))) (after n : ℕ) → next_gap places after n ≡ None → is_some (place_at places (n + 1)) ≡ false → after ≤ n → next_gap places after (n + 1) ≡ Some (n + 1)
gap_here places after n none gap le =
    let high : nat_lt after (n + 1) ≡ true = grind (arith, nat_tests) in
    gap_more places after n ∙ rw (none, gap, high) refl

gap_stays : (places : List (List (Option Drawop))) (after n k : ℕ) (more : ℕ) → next_gap places after n ≡ Some k → next_gap places after (n + more) ≡ Some k
gap_stays places after n k zero is = let e : n + zero ≡ n = omega arith in ap (next_gap places after) e ∙ is
gap_stays places after n k (suc more) is =
    let e : n + suc more ≡ n + more + 1 = omega arith in
    ap (next_gap places after) e ∙ gap_more places after (n + more) ∙ rw (gap_stays places after n k more is) refl

-- what is found first stays first
pub gap_found : (places : List (List (Option Drawop))) (after n last : ℕ) → next_gap places after n ≡ None → is_some (place_at places (n + 1)) ≡ false → after ≤ n → n < last → next_gap places after last ≡ Some (n + 1)
gap_found places after n last none gap le lt =
    let e : last ≡ n + 1 + (last - (n + 1)) = omega (arith, lt) in
    ap (next_gap places after) e ∙ gap_stays places after (n + 1) (n + 1) (last - (n + 1)) (gap_here places after n none gap le)

-- where none is found up to a number, none is up to a lower one
pub gap_never : (places : List (List (Option Drawop))) (after n last : ℕ) → next_gap places after n ≡ None → last ≤ n → next_gap places after last ≡ None
gap_never places after n last none le = go (next_gap places after last) refl
  where
    go : (o : Option ℕ) → next_gap places after last ≡ o → o ≡ None
    go None e = refl
    go (Some k) e =
        let n_is : n ≡ last + (n - last) = omega (arith, le) in
        sym (gap_stays places after last k (n - last) e) ∙ ap (next_gap places after) (sym n_is) ∙ none

-- the name of the first gap

one_named : (s : Stream) (k : ℕ) (b p : Bool) (test : FullName → Bool) (names : List FullName) (first : Option ℕ) → test (named s k) ≡ p → find test names ≡ option_map (named s) first
    → find test (cond (not b) (named s k ∷ names) names) ≡ option_map (named s) (cond (p && not b) (Some k) first)
one_named s k true true test names first e rest = rest
one_named s k true false test names first e rest = rest
one_named s k false true test names first e rest = rw e refl
one_named s k false false test names first e rest = rw e rest

pub gap_named : (content : StreamContent) (s : Stream) (after : ℕ) (ks : List ℕ)
    → find (λ (n : FullName). nat_lt after n.number) (unheld_in_stream content (map (named s) ks)) ≡ option_map (named s) (find (λ k. nat_lt after k && is_gap content.places k) ks)
gap_named content s after [] = refl
gap_named content s after (k ∷ ks) =
    one_named s k (is_some (place_at content.places k)) (nat_lt after k) (λ (n : FullName). nat_lt after n.number) (unheld_in_stream content (map (named s) ks)) (find (λ j. nat_lt after j && is_gap content.places j) ks) refl
    (gap_named content s after ks)
