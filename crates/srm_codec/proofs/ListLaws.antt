-- The lists of a session message are read as they are written.
use Rattle.std.proofs.Common.{◌≡◌, ℕ, zero, suc, ◌<◌, ◌≤◌, Bool, true, false, List, [], ◌∷◌, ◌++◌, length, Ok, Option, Some, None, refl, sym, ap, subst, ◌∙◌, append_assoc, arith, eq-eqb}
use Rattle.std.specs.Prelude.{◌&&◌, if◌then◌else◌}
use Rattle.std.specs.List.{flat_map, AllByRecursion}
use Rattle.std.specs.Int.{w8}
use Rattle.std.proofs.lemmas.Bool.{eqb-true, and_parts, and_from}
use Rattle.srm_names.specs.declared.echo.Echo.{Echo}
use Rattle.srm_names.specs.FullName.{FullName}
use Rattle.srm_codec.specs.declared.format.TheConstants.{LONGEST_LIST}
use Rattle.srm_names.specs.Names.{ascending, echo_below}
use Rattle.srm_names.proofs.Lists.{all_by}
use Rattle.srm_codec.specs.Spelling.{AreRows, AreEchoes, is_name, is_echo, row_below, name_bytes, echo_bytes}
use Rattle.srm_codec.specs.Judging.{◌>>=◌, Read, number_at, is_wanted, is_above, name_at, is_later_echo, echo_at, items_at, list_at}
use Rattle.srm_codec.proofs.Readers.{IsBytes, bind_ok, ok_is, Takes, Takes-then, Reads, renamed}
use Rattle.srm_codec.proofs.FieldLaws.{one_byte, wide8, number_reads, IsNext, name_reads, IsNextEcho, echo_reads}

-- each value is right behind the one before it
abbrev pub AllFrom : {X : Type 0} → (Option X → X → Type 0) → Option X → List X → Type 0
AllFrom P last [] = Unit {0}
AllFrom P last (x ∷ xs) = P last x × AllFrom P (Some x) xs

-- each value passes behind the one before it
abbrev pub passes : {X : Type 0} → (Option X → X → Bool) → Option X → List X → Bool
passes above last [] = true
passes above last (x ∷ xs) = above last x && passes above (Some x) xs

-- ---- reading them

abbrev joint : {X : Type 0} → X → List X × List ℕ → Read (List X)
joint x xs = Ok (x ∷ xs.0, xs.1)

abbrev others : {X : Type 0} → (Option X → List ℕ → Read X) → ℕ → X × List ℕ → Read (List X)
others item n x = items_at item n (Some x.0) x.1 >>= joint x.0

abbrev Counted : {X : Type 0} → (Option X → X → Type 0) → ℕ → Option X → List X → Type 0
Counted P n last xs = (length xs ≡ n) × AllFrom P last xs

none_reads : {X : Type 0} (item : Option X → List ℕ → Read X) (write : X → List ℕ) (P : Option X → X → Type 0) (last : Option X) → Reads (items_at item 0 last) (flat_map write) (Counted P 0 last)
unfolding items_at
none_reads {X} item write P last = record {
  takes = λ bytes xs rest fits e. subst (λ (p : List X × List ℕ). Takes bytes (flat_map write p.0) p.1 × Counted P 0 last p.0) (ok_is ([], bytes) (xs, rest) e) (record { parts = refl; rest_fits = fits }, (refl, tt));
  again = again;
}
  where
    again : (xs : List X) (rest : List ℕ) → Counted P 0 last xs → items_at item 0 last (flat_map write xs ++ rest) ≡ Ok (xs, rest)
    again [] rest h = refl
    again (x ∷ xs) rest h = absurd (omega (arith, h.0))

more_reads : {X : Type 0} (item : Option X → List ℕ → Read X) (write : X → List ℕ) (P : Option X → X → Type 0) (n : ℕ) → ((last : Option X) → Reads (item last) write (P last))
    → ((last : Option X) → Reads (items_at item n last) (flat_map write) (Counted P n last)) → (last : Option X) → Reads (items_at item (suc n) last) (flat_map write) (Counted P (suc n) last)
unfolding items_at
more_reads {X} item write P n each more last = record { takes = taking; again = reading }
  where
    taking : (bytes : List ℕ) (xs : List X) (rest : List ℕ) → IsBytes bytes → (item last bytes >>= others item n) ≡ Ok (xs, rest) → Takes bytes (flat_map write xs) rest × Counted P (suc n) last xs
    taking bytes xs rest fits e =
        let a = bind_ok (item last bytes) (others item n) (xs, rest) e in
        let b = bind_ok (items_at item n (Some a.0.0) a.0.1) (joint a.0.0) (xs, rest) a.2 in
        let t = (each last).takes bytes a.0.0 a.0.1 fits a.1 in
        let u = (more (Some a.0.0)).takes a.0.1 b.0.0 b.0.1 t.0.rest_fits b.1 in
        let made : Takes bytes (write a.0.0 ++ flat_map write b.0.0) b.0.1 = Takes-then bytes (write a.0.0) a.0.1 (flat_map write b.0.0) b.0.1 t.0 u.0 in
        subst (λ (p : List X × List ℕ). Takes bytes (flat_map write p.0) p.1 × Counted P (suc n) last p.0) (ok_is (a.0.0 ∷ b.0.0, b.0.1) (xs, rest) b.2) (made, (omega (arith, u.1.0), (t.1, u.1.1)))

    reading : (xs : List X) (rest : List ℕ) → Counted P (suc n) last xs → (item last (flat_map write xs ++ rest) >>= others item n) ≡ Ok (xs, rest)
    reading [] rest h = absurd (omega (arith, h.0))
    reading (x ∷ xs) rest (len, (here, after)) =
        ap (λ (bytes : List ℕ). item last bytes >>= others item n) (append_assoc (write x) (flat_map write xs) rest)
        ∙ ap (λ (read : Read X). read >>= others item n) ((each last).again x (flat_map write xs ++ rest) here)
        ∙ ap (λ (read : Read (List X)). read >>= joint x) ((more (Some x)).again xs rest (omega (arith, len), after))

items_reads : {X : Type 0} (item : Option X → List ℕ → Read X) (write : X → List ℕ) (P : Option X → X → Type 0) → ((last : Option X) → Reads (item last) write (P last))
    → (n : ℕ) (last : Option X) → Reads (items_at item n last) (flat_map write) (Counted P n last)
items_reads item write P each zero last = none_reads item write P last
items_reads item write P each (suc n) last = more_reads item write P n each (λ l. items_reads item write P each n l) last

-- a list behind its count
abbrev pub list_bytes : {X : Type 0} → (X → List ℕ) → List X → List ℕ
list_bytes write xs = length xs ∷ flat_map write xs

pub list_reads : {X : Type 0} (item : Option X → List ℕ → Read X) (write : X → List ℕ) (P : Option X → X → Type 0) → ((last : Option X) → Reads (item last) write (P last))
    → Reads (list_at item) (list_bytes write) (λ xs. (length xs ≤ LONGEST_LIST) × AllFrom P None xs)
unfolding list_at
list_reads {X} item write P each = record { takes = taking; again = reading }
  where
    counted : Reads (number_at w8) one_byte (λ n. n < 256)
    counted = number_reads w8 256 one_byte wide8

    taking : (bytes : List ℕ) (xs : List X) (rest : List ℕ) → IsBytes bytes → list_at item bytes ≡ Ok (xs, rest) → Takes bytes (list_bytes write xs) rest × ((length xs ≤ LONGEST_LIST) × AllFrom P None xs)
    taking bytes xs rest fits e =
        let a = bind_ok (number_at w8 bytes) (λ count. items_at item count.0 None count.1) (xs, rest) e in
        let t = counted.takes bytes a.0.0 a.0.1 fits a.1 in
        let u = (items_reads item write P each a.0.0 None).takes a.0.1 xs rest t.0.rest_fits a.2 in
        (Takes-then bytes (length xs ∷ []) a.0.1 (flat_map write xs) rest (subst (λ (n : ℕ). Takes bytes (n ∷ []) a.0.1) (sym u.1.0) t.0) u.0, (omega (arith, t.1, u.1.0), u.1.1))

    reading : (xs : List X) (rest : List ℕ) → (length xs ≤ LONGEST_LIST) × AllFrom P None xs → list_at item (list_bytes write xs ++ rest) ≡ Ok (xs, rest)
    reading xs rest (few, all) =
        ap (λ (read : Read ℕ). read >>= λ count. items_at item count.0 None count.1) (counted.again (length xs) (flat_map write xs ++ rest) (omega arith))
        ∙ (items_reads item write P each (length xs) None).again xs rest (refl, all)

-- ---- what such a list is

pub each_of : {X : Type 0} (P : Option X → X → Type 0) (Q : X → Type 0) → ((last : Option X) (x : X) → P last x → Q x) → (last : Option X) (xs : List X) → AllFrom P last xs → AllByRecursion Q xs
each_of P Q there last [] all = tt
each_of P Q there last (x ∷ xs) (here, after) = (there last x here, each_of P Q there (Some x) xs after)

pub passes_of : {X : Type 0} (P : Option X → X → Type 0) (above : Option X → X → Bool) → ((last : Option X) (x : X) → P last x → above last x ≡ true) → (last : Option X) (xs : List X) → AllFrom P last xs → passes above last xs ≡ true
passes_of P above there last [] all = refl
passes_of P above there last (x ∷ xs) (here, after) = and_from (above last x) (passes above (Some x) xs) (there last x here) (passes_of P above there (Some x) xs after)

pub all_from : {X : Type 0} (P : Option X → X → Type 0) (Q R : X → Type 0) (above : Option X → X → Bool) → ((last : Option X) (x : X) → Q x → R x → above last x ≡ true → P last x)
    → (last : Option X) (xs : List X) → AllByRecursion Q xs → AllByRecursion R xs → passes above last xs ≡ true → AllFrom P last xs
all_from P Q R above make last [] qs rs e = tt
all_from P Q R above make last (x ∷ xs) (q, qs) (r, rs) e =
    let k = and_parts (above last x) (passes above (Some x) xs) e in
    (make last x q r k.0, all_from P Q R above make (Some x) xs qs rs k.1)

-- what passes behind the one before it ascends
pub passes-ascending : {X : Type 0} (above : Option X → X → Bool) (below : X → X → Bool) → ((x : X) → above None x ≡ true) → ((x y : X) → above (Some x) y ≡ below x y)
    → (xs : List X) → passes above None xs ≡ ascending below xs
passes-ascending {X} above below first next [] = refl
passes-ascending {X} above below first next (x ∷ xs) = ap (λ b. b && passes above (Some x) xs) (first x) ∙ behind x xs
  where
    behind : (x : X) (xs : List X) → passes above (Some x) xs ≡ ascending below (x ∷ xs)
    behind x [] = refl
    behind x (y ∷ ys) = ap (λ b. b && passes above (Some y) ys) (next x y) ∙ ap (λ b. below x y && b) (behind y ys)

-- ---- rows and echoes

-- in a farewell the source of each row is the sender
abbrev pub wanted_in : Bool → ℕ → Option ℕ
wanted_in farewell sender = if farewell then Some sender else None

abbrev pub row_above : Option FullName → FullName → Bool
row_above last row = is_above last row.stream

abbrev pub echo_above : Option Echo → Echo → Bool
echo_above last echo = is_later_echo last echo.member

wanted_there : (farewell : Bool) (sender : ℕ) (row : FullName) → is_wanted (wanted_in farewell sender) row.stream.source ≡ true → farewell ≡ true → row.stream.source ≡ sender
wanted_there true sender row e _ = eqb-true _ _ e
wanted_there false sender row e f = absurd cc

wanted_back : (farewell : Bool) (sender : ℕ) (row : FullName) → (farewell ≡ true → row.stream.source ≡ sender) → is_wanted (wanted_in farewell sender) row.stream.source ≡ true
wanted_back true sender row h = eq-eqb _ _ (h refl)
wanted_back false sender row h = refl

pub rows_reads : (farewell : Bool) (sender : ℕ) → Reads (list_at (name_at (wanted_in farewell sender))) (list_bytes name_bytes) (AreRows farewell sender)
rows_reads farewell sender =
    let wanted : Option ℕ = wanted_in farewell sender in
    let same = passes-ascending row_above row_below (λ x. refl) (λ x y. refl) in
    renamed (list_at (name_at wanted)) (list_bytes name_bytes) (λ rows. (length rows ≤ LONGEST_LIST) × AllFrom (IsNext wanted) None rows) (AreRows farewell sender)
    (λ rows h. record {
      few = h.0;
      names = each_of (IsNext wanted) is_name (λ last x n. n.named) None rows h.1;
      rising = sym (same rows) ∙ passes_of (IsNext wanted) row_above (λ last x n. n.above) None rows h.1;
      sources = each_of (IsNext wanted) (λ row. farewell ≡ true → row.stream.source ≡ sender) (λ last x n. wanted_there farewell sender x n.from) None rows h.1;
    })
    (λ rows h. (h.few, all_from (IsNext wanted) is_name (λ row. farewell ≡ true → row.stream.source ≡ sender) row_above (λ last x q r above. record { named = q; from = wanted_back farewell sender x r; above = above }) None rows h.names h.sources (same rows ∙ h.rising)))
    (list_reads (name_at wanted) name_bytes (IsNext wanted) (name_reads wanted))

pub echoes_reads : Reads (list_at echo_at) (list_bytes echo_bytes) AreEchoes
echoes_reads =
    let same = passes-ascending echo_above echo_below (λ x. refl) (λ x y. refl) in
    renamed (list_at echo_at) (list_bytes echo_bytes) (λ echoes. (length echoes ≤ LONGEST_LIST) × AllFrom IsNextEcho None echoes) AreEchoes
    (λ echoes h. record {
      few = h.0;
      each = each_of IsNextEcho is_echo (λ last x n. n.fits) None echoes h.1;
      rising = sym (same echoes) ∙ passes_of IsNextEcho echo_above (λ last x n. n.above) None echoes h.1;
    })
    (λ echoes h. (h.few, all_from IsNextEcho is_echo (λ _. Unit {0}) echo_above (λ last x q _ above. record { fits = q; above = above }) None echoes h.each (all_by is_echo (λ _. Unit {0}) echoes (λ _ _. tt) h.each) (same echoes ∙ h.rising)))
    (list_reads echo_at echo_bytes IsNextEcho echo_reads)
