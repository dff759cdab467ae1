-- The names that become missing by rows, stream after stream.
use Rattle.std.proofs.Common.{◌≡◌, ℕ, zero, suc, ◌+◌, ◌<◌, ◌≤◌, max, Bool, true, false, not, ◌&&◌, ◌||◌, List, [], ◌∷◌, ◌++◌, length, take, get_or, refl, ap, sym, ◌∙◌, subst, arith}
use Rattle.std.specs.Prelude.{nat_lt, nat_le, if◌then◌else◌}
use Rattle.std.specs.List.{list_any, flat_map}
use Rattle.std.proofs.lemmas.Bool.{and_parts, or_left}
use Rattle.std.proofs.lemmas.Bool.Decides.{nat_tests}
use Rattle.std.proofs.lemmas.List.{take_more}
use Rattle.std.proofs.lemmas.List.Folds.{list_any-append}
use Rattle.srm_names.specs.declared.stream.Stream.{Stream}
use Rattle.srm_names.specs.FullName.{FullName}
use Rattle.srm_names.specs.Histories.{greatest}
use Rattle.srm_names.specs.Names.{same_stream, same_name, stream_below, name_below, ascending, among, AreExactly}
use Rattle.srm_names.proofs.Orders.{stream_below_trans}
use Rattle.srm_names.proofs.Same.{same_stream-is}
use Rattle.srm_codec.specs.Spelling.{row_below}
use Rattle.srm_store.specs.Held.{greatest_in, number_in}
use Rattle.srm_entries.specs.declared.entry.Entry.{Entry}
use Rattle.srm_entries.specs.Entries.{is_held, is_missing, known}
use Rattle.srm_agent.specs.Growth.{is_newly_missing_by_rows}
use Rattle.srm_names.specs.Between.{is_between}
use Rattle.srm_names.proofs.Rising.{ascending_joined, ascending_tail}
use Rattle.srm_agent_state.specs.TimerCalls.{AreNewlyMissing}
use Rattle.srm_names.proofs.Lists.{greatest-append}
use Rattle.srm_entries.proofs.Adding.{shows, gains, is_missing-snoc}
use Rattle.srm_agent_state.proofs.RequestSettings.{held_known}

-- in rows that rise each is below those behind it
head_below : (x : FullName) (rows : List FullName) (i : ℕ) (r : FullName) → ascending row_below (x ∷ rows) ≡ true → i < length rows → r ≡ get_or rows i r → row_below x r ≡ true
head_below x [] i r asc l is = absurd (omega (arith, l))
head_below x (y ∷ rows) zero r asc l is = subst (λ n. row_below x n ≡ true) (sym is) (and_parts (row_below x y) (ascending row_below (y ∷ rows)) asc).0
head_below x (y ∷ rows) (suc i) r asc l is =
    let p = and_parts (row_below x y) (ascending row_below (y ∷ rows)) asc in
    stream_below_trans x.stream y.stream r.stream p.0 (head_below y rows i r p.1 (omega (arith, l)) is)

-- a name of the stream of a row before is below this row
pub before_row : (rows : List FullName) (i : ℕ) (r n : FullName) → ascending row_below rows ≡ true → i < length rows → r ≡ get_or rows i r
    → list_any (λ (x : FullName). same_stream n.stream x.stream) (take i rows) ≡ true → stream_below n.stream r.stream ≡ true
before_row [] i r n asc l is h = absurd (omega (arith, l))
before_row (x ∷ rows) zero r n asc l is h = absurd (cc)
before_row (x ∷ rows) (suc i) r n asc l is h = go (same_stream n.stream x.stream) refl h (before_row rows i r n (ascending_tail row_below x rows asc) (omega (arith, l)) is)
  where
    go : (b : Bool) → same_stream n.stream x.stream ≡ b → (b || list_any (λ (y : FullName). same_stream n.stream y.stream) (take i rows)) ≡ true
        → (list_any (λ (y : FullName). same_stream n.stream y.stream) (take i rows) ≡ true → stream_below n.stream r.stream ≡ true) → stream_below n.stream r.stream ≡ true
    go true e h rest = subst (λ s. stream_below s r.stream ≡ true) (sym (same_stream-is n.stream x.stream e)) (head_below x rows i r asc (omega (arith, l)) is)
    go false e h rest = rest h

-- one more row

pub within_one : (s : Stream) (above below : ℕ) (names : List FullName) (n : FullName) → AreExactly (is_between s above below) names → among names n ≡ true → same_stream n.stream s ≡ true
within_one s above below names n h at = (and_parts (same_stream n.stream s) (nat_lt above n.number) (and_parts (same_stream n.stream s && nat_lt above n.number) (nat_lt n.number below) (sym (h.exact n) ∙ at)).0).0

pub rises_on : (rows newly_missing more joined : List FullName) (i : ℕ) (r : FullName) (s : Stream) (above below : ℕ) → ascending row_below rows ≡ true → i < length rows → r ≡ get_or rows i r → s ≡ r.stream
    → ascending name_below newly_missing ≡ true → ((n : FullName) → among newly_missing n ≡ true → list_any (λ (x : FullName). same_stream n.stream x.stream) (take i rows) ≡ true) → AreExactly (is_between s above below) more → joined ≡ newly_missing ++ more
    → ascending name_below joined ≡ true
rises_on rows newly_missing more joined i r s above below asc l is s_is rising within exactly join = ap (ascending name_below) join ∙ ascending_joined newly_missing more rising exactly.in_order (λ m n h k. lower m n h k)
  where
    lower : (m n : FullName) → among newly_missing m ≡ true → among more n ≡ true → name_below m n ≡ true
    lower m n h k =
        let at : n.stream ≡ r.stream = same_stream-is n.stream s (within_one s above below more n exactly k) ∙ s_is in
        or_left (stream_below m.stream n.stream) (same_stream m.stream n.stream && nat_lt m.number n.number) (ap (stream_below m.stream) at ∙ before_row rows i r m asc l is (within m h))

pub within_more : (rows newly_missing more joined : List FullName) (i : ℕ) (r : FullName) (s : Stream) (above below : ℕ) → i < length rows → r ≡ get_or rows i r → s ≡ r.stream
    → ((n : FullName) → among newly_missing n ≡ true → list_any (λ (x : FullName). same_stream n.stream x.stream) (take i rows) ≡ true) → AreExactly (is_between s above below) more → joined ≡ newly_missing ++ more
    → (n : FullName) → among joined n ≡ true → list_any (λ (x : FullName). same_stream n.stream x.stream) (take (i + 1) rows) ≡ true
within_more rows newly_missing more joined i r s above below l is s_is within exactly join n h =
    ap (list_any (λ (x : FullName). same_stream n.stream x.stream)) (take_more rows i r l) ∙ list_any-append (λ (x : FullName). same_stream n.stream x.stream) (take i rows) (get_or rows i r ∷ [])
    ∙ go (among newly_missing n) refl (sym (ap (λ ns. among ns n) join ∙ list_any-append (same_name n) newly_missing more) ∙ h)
  where
    or_last : (a : Bool) {b : Bool} → b ≡ true → (a || (b || false)) ≡ true
    or_last true e = refl
    or_last false e = ap (λ b. b || false) e

    go : (b : Bool) → among newly_missing n ≡ b → (b || among more n) ≡ true → (list_any (λ (x : FullName). same_stream n.stream x.stream) (take i rows) || (same_stream n.stream (get_or rows i r).stream || false)) ≡ true
    go true e h = ap (λ b. b || (same_stream n.stream (get_or rows i r).stream || false)) (within n e)
    go false e h = or_last (list_any (λ (x : FullName). same_stream n.stream x.stream) (take i rows))
        (ap (λ (k : FullName). same_stream n.stream k.stream) (sym is) ∙ ap (same_stream n.stream) (sym s_is) ∙ within_one s above below more n exactly h)

pub exact_more : (past : List Entry) (rows newly_missing more joined : List FullName) (i : ℕ) (r : FullName) (s : Stream) (above below : ℕ) → i < length rows → r ≡ get_or rows i r → s ≡ r.stream → above ≡ known past r.stream → below ≡ r.number + 1
    → ((n : FullName) → among newly_missing n ≡ is_newly_missing_by_rows past (take i rows) n) → AreExactly (is_between s above below) more → joined ≡ newly_missing ++ more → (n : FullName) → among joined n ≡ is_newly_missing_by_rows past (take (i + 1) rows) n
exact_more past rows newly_missing more joined i r s above below l is s_is above_is below_is exact exactly join n =
    ap (λ ns. among ns n) join ∙ list_any-append (same_name n) newly_missing more ∙ ap (λ b. b || among more n) (exact n) ∙ ap (λ b. is_newly_missing_by_rows past (take i rows) n || b) one
    ∙ sym (ap (λ rs. is_newly_missing_by_rows past rs n) (take_more rows i r l) ∙ list_any-append (λ (x : FullName). is_between x.stream (known past x.stream) (x.number + 1) n) (take i rows) (get_or rows i r ∷ []))
  where
    or_nothing : (b : Bool) → b ≡ (b || false)
    or_nothing true = refl
    or_nothing false = refl

    one : among more n ≡ (is_between (get_or rows i r).stream (known past (get_or rows i r).stream) ((get_or rows i r).number + 1) n || false)
    one = exactly.exact n ∙ ap (λ t. is_between t above below n) s_is ∙ ap (λ x. is_between r.stream x below n) above_is ∙ ap (λ x. is_between r.stream (known past r.stream) x n) below_is
        ∙ ap (λ (k : FullName). is_between k.stream (known past k.stream) (k.number + 1) n) is ∙ or_nothing _

-- what rows show

rows_law : (s : Bool) (k n d m : ℕ) (rest : Bool) → rest ≡ (nat_lt k n && nat_le n m) → ((s && nat_lt k n && nat_lt n (d + 1)) || rest) ≡ (nat_lt k n && nat_le n (max (if s then d else 0) m))
rows_law true k n d m rest e = rw e (grind (arith, nat_tests))
rows_law false k n d m rest e = rw e (grind (arith, nat_tests))

greatest_row : (s : Stream) (r : FullName) (rows : List FullName) → greatest_in (r ∷ rows) s ≡ max (if same_stream s r.stream then r.number else 0) (greatest_in rows s)
greatest_row s r rows = greatest-append (number_in s r) (flat_map (number_in s) rows) ∙ ap (λ k. max k (greatest_in rows s)) (one (same_stream s r.stream) r.number)
  where
    one : (b : Bool) (n : ℕ) → greatest (if b then n ∷ [] else []) ≡ (if b then n else 0)
    one true n = omega arith
    one false n = refl

fresh_shown : (past : List Entry) (rows : List FullName) (n : FullName) → is_newly_missing_by_rows past rows n ≡ (nat_lt (known past n.stream) n.number && nat_le n.number (greatest_in rows n.stream))
fresh_shown past [] n = grind (arith, nat_tests)
fresh_shown past (r ∷ rows) n =
    ap (λ b. b || is_newly_missing_by_rows past rows n) (same (same_stream n.stream r.stream) refl)
    ∙ rows_law (same_stream n.stream r.stream) (known past n.stream) n.number r.number (greatest_in rows n.stream) (is_newly_missing_by_rows past rows n) (fresh_shown past rows n)
    ∙ ap (λ x. nat_lt (known past n.stream) n.number && nat_le n.number x) (sym (greatest_row n.stream r rows))
  where
    same : (b : Bool) → same_stream n.stream r.stream ≡ b → (b && nat_lt (known past r.stream) n.number && nat_lt n.number (r.number + 1)) ≡ (b && nat_lt (known past n.stream) n.number && nat_lt n.number (r.number + 1))
    same true e = ap (λ s. nat_lt (known past s) n.number && nat_lt n.number (r.number + 1)) (sym (same_stream-is n.stream r.stream e))
    same false e = refl

-- `h` says that the name was held; `n` is its number, `k` what was known, `d` the greatest that the rows show
shown_law : (h : Bool) (n k d : ℕ) → (h ≡ true → n ≤ k) → (nat_lt k n && nat_le n d) ≡ (not (nat_le 1 n && nat_le n k && not h) && (nat_le 1 n && nat_le n (max k d) && not (h || false)))
shown_law true n k d known = let l = known refl in grind (arith, nat_tests)
shown_law false n k d known = grind (arith, nat_tests)

-- an entry that shows what these rows show, and gains nothing
pub record ShowsRows (rows : List FullName) (e : Entry) : Type 0 where
  pub shows : (s : Stream) → shows e s ≡ greatest_in rows s
  pub gains : (n : FullName) → gains e n ≡ false

pub fresh_rows : (past : List Entry) (e : Entry) (rows names : List FullName) → ShowsRows rows e → AreExactly (is_newly_missing_by_rows past rows) names → AreNewlyMissing past e names
fresh_rows past e rows names shown exactly = record { in_order = exactly.in_order; exact = λ n. exactly.exact n ∙ same n }
  where
    after : (n : FullName) → is_missing (past ++ e ∷ []) n ≡ (nat_le 1 n.number && nat_le n.number (max (known past n.stream) (greatest_in rows n.stream)) && not (is_held past n || false))
    after n = is_missing-snoc past e n
        ∙ ap (λ x. nat_le 1 n.number && nat_le n.number (max (known past n.stream) x) && not (is_held past n || gains e n)) (shown.shows n.stream)
        ∙ ap (λ x. nat_le 1 n.number && nat_le n.number (max (known past n.stream) (greatest_in rows n.stream)) && not (is_held past n || x)) (shown.gains n)

    same : (n : FullName) → is_newly_missing_by_rows past rows n ≡ (not (is_missing past n) && is_missing (past ++ e ∷ []) n)
    same n = fresh_shown past rows n ∙ shown_law (is_held past n) n.number (known past n.stream) (greatest_in rows n.stream) (held_known past n) ∙ ap (λ b. not (is_missing past n) && b) (sym (after n))
