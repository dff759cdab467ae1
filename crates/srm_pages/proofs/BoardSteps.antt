-- Each step keeps the rule of the board.
use Rattle.std.proofs.Common.{◌≡◌, ◌≢◌, ℕ, zero, suc, ◌+◌, ◌/◌, ◌%◌, ◌^◌, ◌<◌, ◌≤◌, true, false, true≢false, cond, eqb, eq-eqb, ne_eqb, List, [], ◌∷◌, length, get_or, set, replicate, sym, refl, ap, ◌∙◌, subst, ⊎_elim, lit<, arith, get_or-set_other, get_or-set_same}
use Rattle.std.proofs.lemmas.List.{set-get_or, length-set, length-replicate}
use Rattle.std.proofs.Math.Nat.{le_trans}
use mathlib.Core.Option.{some, none}
use mathlib.Core.Logic.{dite}
use native.Mathlib.Decide.{ℕ_discrete}
use lib.ListN.{get_elem?}
use Rattle.atomic_table.specs.Seated.{TableId}
use Rattle.atomic_table.specs.Table.{Me, step, Allows, Splits}
use Rattle.atomic_table.specs.Table.Act.{keeps}
use Rattle.atomic_table.proofs.Lists.{set_again}
use Rattle.srm_pages.specs.declared.board.BoardView.{BoardView}
use Rattle.srm_pages.proofs.Views.{all_set, all_one, snoc_cases}
use Rattle.srm_names.specs.declared.limits.TheConstants.{MEMBERS}
use Rattle.srm_pages.proofs.Shown.{order_alike}
use Rattle.srm_pages.specs.declared.board.TheConstants.{BOARD_REGISTERS, REGISTERS_A_SLOT}
use Rattle.srm_pages.specs.Board.{number_register, total, drawops_posted, CountsPosted, board_view, zeros, dealer, looking, with_seen, FitsBoard, IsBoardState, BoardState, Raised, Looked}

replicate_zero : (n i : ℕ) → get_or {A = ℕ} (replicate n 0) i 0 ≡ 0
replicate_zero zero i = refl
replicate_zero (suc n) zero = refl
replicate_zero (suc n) (suc i) = replicate_zero n i

pub zeros_at : (i : ℕ) → get_or zeros i 0 ≡ 0
unfolding zeros
zeros_at i = replicate_zero BOARD_REGISTERS i

pub zeros_length : length zeros ≡ BOARD_REGISTERS
unfolding zeros
zeros_length = length-replicate {A = ℕ} BOARD_REGISTERS 0

-- a list that is at most the registers stays so when a register grows
grown : (xs words : List ℕ) (i n : ℕ) → i < length words → get_or words i 0 ≤ n → ((k : ℕ) → get_or xs k 0 ≤ get_or words k 0) → (k : ℕ) → get_or xs k 0 ≤ get_or (set words i n) k 0
grown xs words i n inside less bound k =
    dite (ℕ_discrete k i)
    (λ (e : k ≡ i). let b = bound k in let w : get_or words k 0 ≤ n = subst (λ j. get_or words j 0 ≤ n) (sym e) less in let s : get_or (set words i n) k 0 ≡ n = subst (λ j. get_or (set words i n) j 0 ≡ n) (sym e) (get_or-set_same words i n 0 inside) in omega arith)
    (λ (ne : k ≢ i). let b = bound k in let s = get_or-set_other words i k n 0 ne in omega arith)

-- the same if the list notes the new number
noted_bound : (xs words : List ℕ) (i n : ℕ) → i < length words → i < length xs → ((k : ℕ) → get_or xs k 0 ≤ get_or words k 0) → (k : ℕ) → get_or (set xs i n) k 0 ≤ get_or (set words i n) k 0
noted_bound xs words i n inside inside' bound k =
    dite (ℕ_discrete k i)
    (λ (e : k ≡ i). let s : get_or (set words i n) k 0 ≡ n = subst (λ j. get_or (set words i n) j 0 ≡ n) (sym e) (get_or-set_same words i n 0 inside) in let t : get_or (set xs i n) k 0 ≡ n = subst (λ j. get_or (set xs i n) j 0 ≡ n) (sym e) (get_or-set_same xs i n 0 inside') in omega arith)
    (λ (ne : k ≢ i). let b = bound k in let s = get_or-set_other words i k n 0 ne in let t = get_or-set_other xs i k n 0 ne in omega arith)

noted_exact : (xs words : List ℕ) (i n k : ℕ) → i < length words → i < length xs → (k ≢ i → get_or xs k 0 ≡ get_or words k 0) → get_or (set xs i n) k 0 ≡ get_or (set words i n) k 0
noted_exact xs words i n k inside inside' same =
    dite (ℕ_discrete k i)
    (λ (e : k ≡ i). subst (λ j. get_or (set xs i n) j 0 ≡ get_or (set words i n) j 0) (sym e) (get_or-set_same xs i n 0 inside' ∙ sym (get_or-set_same words i n 0 inside)))
    (λ (ne : k ≢ i). get_or-set_other xs i k n 0 ne ∙ same ne ∙ sym (get_or-set_other words i k n 0 ne))

none_shown : (n slot : ℕ) → total (λ m. get_or zeros (number_register slot m) 0) n ≤ 0
none_shown zero slot = omega arith
none_shown (suc n) slot = let before = none_shown n slot in let last = zeros_at (number_register slot n) in omega arith

pub zeros_order : (slot : ℕ) → CountsPosted zeros slot
unfolding drawops_posted
zeros_order slot = le_trans (none_shown MEMBERS slot) (omega arith)

pub begins : IsBoardState zeros (dealer ∷ [])
begins = record {
  seat = λ _. 0;
  dealt = 0;
  sized = zeros_length;
  narrow = λ i _. let z = zeros_at i in subst (λ n. n < 2 ^ 32) (sym z) (lit< tt);
  order = zeros_order;
  blank = λ i _. zeros_at i;
  fits = all_one (FitsBoard (λ _. 0) 0 zeros) dealer record {
    sized = zeros_length;
    bound = λ i. let z = zeros_at i in omega arith;
    tap = λ d. absurd (true≢false (sym d));
    exact = λ d. absurd (true≢false (sym d));
    dealer = λ _. (refl, refl);
  };
}

-- the tap of a slot raises one of its registers
pub raises : (slots id word n : ℕ) (m : Me ℕ BoardView) → m.0.taps ≡ true → word / REGISTERS_A_SLOT ≡ m.0.slot → word < BOARD_REGISTERS → get_or m.0.seen word 0 ≤ n → (word % REGISTERS_A_SLOT ≢ 0 → n < 2 ^ 32) → CountsPosted (set m.0.seen word n) m.0.slot
    → Allows BoardState slots id m word (λ _. n) (λ _. Raised (step slots word n 0 none) m n)
raises slots id word n m taps mine inside more narrow order s h _ at _ =
    let v = m.0 in
    let my = h.fits id v at in
    let in_words : word < length s.words = let l = h.sized in omega arith in
    let in_seen : word < length v.seen = let l = my.sized in omega arith in
    let now : get_or v.seen word 0 ≡ get_or s.words word 0 = my.exact taps word mine in
    let less : get_or s.words word 0 ≤ n = omega arith in (
      with_seen v word n,
      keeps,
      tt,
      record {
        seat = h.seat;
        dealt = h.dealt;
        sized = length-set s.words word n ∙ h.sized;
        narrow = λ i odd. dite (ℕ_discrete i word)
            (λ (e : i ≡ word). subst (λ k. get_or (set s.words word n) k 0 < 2 ^ 32) (sym e) (subst (λ k. k < 2 ^ 32) (sym (get_or-set_same s.words word n 0 in_words)) (narrow (subst (λ k. k % REGISTERS_A_SLOT ≢ 0) e odd))))
            (λ (ne : i ≢ word). subst (λ k. k < 2 ^ 32) (sym (get_or-set_other s.words word i n 0 ne)) (h.narrow i odd));
        order = λ slot. dite (ℕ_discrete slot v.slot)
            (λ (e : slot ≡ v.slot). subst (λ k. CountsPosted (set s.words word n) k) (sym e)
            (order_alike (set v.seen word n) (set s.words word n) v.slot (λ i own. noted_exact v.seen s.words word n i in_words in_seen (λ _. my.exact taps i own)) order))
            (λ (ne : slot ≢ v.slot). order_alike s.words (set s.words word n) slot
            (λ i own. sym (get_or-set_other s.words word i n 0 (λ (e : i ≡ word). ne (sym own ∙ ap (λ k. k / REGISTERS_A_SLOT) e ∙ mine)))) (h.order slot));
        blank = λ i late. let apart : i ≢ word = (λ (e : i ≡ word). let own = (my.tap taps).1 in let d : i / REGISTERS_A_SLOT ≡ v.slot = ap (λ k. k / REGISTERS_A_SLOT) e ∙ mine in let l : h.dealt ≤ v.slot = subst (λ k. h.dealt ≤ k) d late in omega arith) in get_or-set_other s.words word i n 0 apart ∙ h.blank i late;
        fits = all_set (FitsBoard h.seat h.dealt (set s.words word n)) s.views id (with_seen v word n)
            record {
              sized = length-set v.seen word n ∙ my.sized;
              bound = noted_bound v.seen s.words word n in_words in_seen my.bound;
              tap = my.tap;
              exact = λ t i e. noted_exact v.seen s.words word n i in_words in_seen (λ _. my.exact taps i e);
              dealer = my.dealer;
            }
            (λ j u apart e. let its = h.fits j u e in record {
              sized = its.sized;
              bound = grown u.seen s.words word n in_words less its.bound;
              tap = its.tap;
              exact = λ t i d. let elsewhere : i ≢ word = (λ (same : i ≡ word). apart (sym (its.tap t).0 ∙ ap h.seat (sym d ∙ ap (λ k. k / REGISTERS_A_SLOT) same ∙ mine) ∙ (my.tap taps).0)) in its.exact t i d ∙ sym (get_or-set_other s.words word i n 0 elsewhere);
              dealer = its.dealer;
            });
      },
      (refl, get_or-set_same v.seen word n 0 in_seen),
    )

-- whoever has a seat looks at a register
pub looks : (slots id word : ℕ) (m : Me ℕ BoardView) → word < BOARD_REGISTERS → Allows BoardState slots id m word (λ n. n) (Looked (step slots word 0 0 none) m)
looks slots id word m inside s h _ at _ =
    let v = m.0 in
    let my = h.fits id v at in
    let n = get_or s.words word 0 in
    let in_words : word < length s.words = let l = h.sized in omega arith in
    let in_seen : word < length v.seen = let l = my.sized in omega arith in
    let same : set s.words word n ≡ s.words = set-get_or s.words word 0 in (
      with_seen v word n,
      keeps,
      tt,
      record {
        seat = h.seat;
        dealt = h.dealt;
        sized = length-set s.words word n ∙ h.sized;
        narrow = subst (λ (ws : List ℕ). (i : ℕ) → i % REGISTERS_A_SLOT ≢ 0 → get_or ws i 0 < 2 ^ 32) (sym same) h.narrow;
        order = subst (λ (ws : List ℕ). (slot : ℕ) → CountsPosted ws slot) (sym same) h.order;
        blank = subst (λ (ws : List ℕ). (i : ℕ) → h.dealt ≤ i / REGISTERS_A_SLOT → get_or ws i 0 ≡ 0) (sym same) h.blank;
        fits = all_set (FitsBoard h.seat h.dealt (set s.words word n)) s.views id (with_seen v word n)
            record {
              sized = length-set v.seen word n ∙ my.sized;
              bound = noted_bound v.seen s.words word n in_words in_seen my.bound;
              tap = my.tap;
              exact = λ t i e. noted_exact v.seen s.words word n i in_words in_seen (λ _. my.exact t i e);
              dealer = my.dealer;
            }
            (λ j u apart e. subst (λ (ws : List ℕ). FitsBoard h.seat h.dealt ws j u) (sym same) (h.fits j u e));
      },
      (refl, get_or-set_same v.seen word n 0 in_seen, my.bound word, h.narrow word),
    )

-- the dealer splits off the seat of the next tap
pub next_tap : (id : ℕ) (v : BoardView) → v.deals ≡ true → Splits BoardState id v (board_view v.taps v.slot v.deals (v.next + 1) v.seen) (board_view true v.next false 0 zeros)
next_tap id v deals s h at =
    let my = h.fits id v at in
    let me = my.dealer deals in
    let left = board_view v.taps v.slot v.deals (v.next + 1) v.seen in
    let right = board_view true v.next false 0 zeros in
    let count = length (set s.views id left) in
    let seat : ℕ → ℕ = λ k. cond (eqb k h.dealt) count (h.seat k) in
    let before : (k : ℕ) → k < h.dealt → seat k ≡ h.seat k = (λ k lt. ap (λ b. cond b count (h.seat k)) (ne_eqb k h.dealt (λ e. omega arith))) in
    let here : seat v.next ≡ count = ap (λ b. cond b count (h.seat v.next)) (eq-eqb v.next h.dealt me.1) in
    let was : (j : ℕ) (u : BoardView) → (its : FitsBoard h.seat h.dealt s.words j u) → u.taps ≡ true → (seat u.slot ≡ j) × (u.slot < h.dealt + 1) =
    (λ j u its t. let own = its.tap t in (before u.slot own.1 ∙ own.0, (let lt = own.1 in omega arith))) in
    record {
      seat = seat;
      dealt = h.dealt + 1;
      sized = h.sized;
      narrow = h.narrow;
      order = h.order;
      blank = λ i late. h.blank i (omega arith);
      fits = λ j u e. ⊎_elim
          (all_set (FitsBoard seat (h.dealt + 1) s.words) s.views id left
          record { sized = my.sized; bound = my.bound; tap = was id v my; exact = my.exact; dealer = λ _. (me.0, ap (λ k. k + 1) me.1) }
          (λ k w apart f. let its = h.fits k w f in record { sized = its.sized; bound = its.bound; tap = was k w its; exact = its.exact; dealer = λ d. absurd (apart ((its.dealer d).0 ∙ sym me.0)) })
          j u)
          (λ (t : (j ≡ count) × (right ≡ u)). subst (λ (y : ℕ × BoardView). FitsBoard seat (h.dealt + 1) s.words y.0 y.1) (λ i. (sym t.0 i, t.1 i))
          record {
            sized = zeros_length;
            bound = λ i. let z = zeros_at i in omega arith;
            tap = λ _. (here, (let q = me.1 in omega arith));
            exact = λ _ i d. zeros_at i ∙ sym (h.blank i (let q = me.1 in omega arith));
            dealer = λ d. absurd (true≢false (sym d));
          })
          (snoc_cases (set s.views id left) right u j e);
    }

-- any seat splits off one that only looks
pub watches : (id : ℕ) (v : BoardView) → Splits BoardState id v v looking
watches id v s h at =
    record {
      seat = h.seat;
      dealt = h.dealt;
      sized = h.sized;
      narrow = h.narrow;
      order = h.order;
      blank = h.blank;
      fits = λ j u e. ⊎_elim
          (λ f. h.fits j u (subst (λ (l : List BoardView). get_elem? l j ≡ some u) (set_again s.views id v at) f))
          (λ (t : (j ≡ length (set s.views id v)) × (looking ≡ u)). subst (λ (w : BoardView). FitsBoard h.seat h.dealt s.words j w) t.1
          record {
            sized = zeros_length;
            bound = λ i. let z = zeros_at i in omega arith;
            tap = λ d. absurd (true≢false (sym d));
            exact = λ d. absurd (true≢false (sym d));
            dealer = λ d. absurd (true≢false (sym d));
          })
          (snoc_cases (set s.views id v) looking u j e);
    }

-- a register of the board lies in the table
pub inside_table : (seat table : TableId) (word : ℕ) → seat ≡ table → seat.words ≡ BOARD_REGISTERS → word < BOARD_REGISTERS → word < table.words
inside_table seat table word same words small = subst (λ (z : TableId). word < z.words) same (subst (λ n. word < n) (sym words) small)

-- which has registers
pub has_words : (seat table : TableId) → seat ≡ table → seat.words ≡ BOARD_REGISTERS → 0 < table.words
has_words seat table same words = inside_table seat table 0 same words (lit< tt)
