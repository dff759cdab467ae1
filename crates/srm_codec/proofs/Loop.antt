-- Reading values one after the other, as a loop does.
use Rattle.std.proofs.Common.{◌≡◌, ℕ, suc, ◌-◌, ◌+◌, ◌≤◌, ◌<◌, List, [], ◌∷◌, ◌++◌, length, Ok, Err, Option, Some, None, refl, sym, ap, ◌∙◌, append_assoc, arith}
use Rattle.std.specs.Prelude.{slice_get}
use Rattle.std.proofs.Math.Seq.{get_or-append_seam}
use Rattle.std.proofs.lemmas.List.{append-nil, length-append}
use Rattle.std.proofs.lemmas.Option.{slice_get-get_or}
use Rattle.srm_codec.specs.declared.fault.DecodeFault.{DecodeFault}
use Rattle.srm_codec.specs.Judging.{◌>>=◌, Read, items_at}

-- the last one of a list
abbrev pub newest : {X : Type 0} → List X → Option X
newest xs = slice_get xs (length xs - 1)

newest-snoc : {X : Type 0} (xs : List X) (x : X) → newest (xs ++ x ∷ []) ≡ Some x
newest-snoc xs x =
    let n : length (xs ++ x ∷ []) - 1 ≡ length xs = omega (arith, length-append xs (x ∷ [])) in
    ap (slice_get (xs ++ x ∷ [])) n
    ∙ slice_get-get_or (xs ++ x ∷ []) (length xs) x (omega (arith, length-append xs (x ∷ [])))
    ∙ ap Some (get_or-append_seam xs x [] x)

-- what was read before, and what is still read
abbrev pub with_prefix : {X : Type 0} → List X → Read (List X) → Read (List X)
with_prefix prefix read = read >>= λ x. Ok (prefix ++ x.0, x.1)

-- A loop has read the first of these values, has these bytes left, and room for the others.
pub record IsReading {X : Type 0} (item : Option X → List ℕ → Read X) (count done capacity : ℕ) (prefix : List X) (rest bytes : List ℕ) : Type 0 where
  pub read : with_prefix prefix (items_at item (count - done) (newest prefix) rest) ≡ items_at item count None bytes
  pub room : length prefix + (count - done) ≤ capacity

regroup : {X : Type 0} (prefix : List X) (x : X) (read : Read (List X)) → with_prefix prefix (read >>= λ xs. Ok (x ∷ xs.0, xs.1)) ≡ with_prefix (prefix ++ x ∷ []) read
regroup prefix x (Ok xs) = ap (λ ys. Ok (ys, xs.1)) (sym (append_assoc prefix (x ∷ []) xs.0))
regroup prefix x (Err f) = refl

pub starts : {X : Type 0} (item : Option X → List ℕ → Read X) (count capacity : ℕ) (bytes : List ℕ) → capacity ≡ count → IsReading item count 0 capacity [] bytes bytes
starts {X = X} item count capacity bytes e = record { read = whole (items_at item (count - 0) None bytes) ∙ ap (λ n. items_at item n None bytes) (omega arith); room = omega arith }
  where
    whole : (read : Read (List X)) → with_prefix [] read ≡ read
    whole (Ok x) = refl
    whole (Err f) = refl

pub goes_on : {X : Type 0} (item : Option X → List ℕ → Read X) (count done capacity larger : ℕ) (prefix : List X) (rest bytes : List ℕ) (x : X) (after : List ℕ)
    → capacity ≤ larger → done < count → item (newest prefix) rest ≡ Ok (x, after) → IsReading item count done capacity prefix rest bytes → IsReading item count (done + 1) larger (prefix ++ x ∷ []) after bytes
unfolding items_at
goes_on item count done capacity larger prefix rest bytes x after le lt h so_far =
    let k : count - done ≡ suc (count - (done + 1)) = omega arith in
    let one : with_prefix prefix (items_at item (count - done) (newest prefix) rest) ≡ with_prefix (prefix ++ x ∷ []) (items_at item (count - (done + 1)) (Some x) after) = rw (k, h) (regroup prefix x (items_at item (count - (done + 1)) (Some x) after)) in
    record {
      read = ap (λ o. with_prefix (prefix ++ x ∷ []) (items_at item (count - (done + 1)) o after)) (newest-snoc prefix x) ∙ sym one ∙ so_far.read;
      room = omega (arith, so_far.room, length-append prefix (x ∷ []));
    }

pub stops : {X : Type 0} (item : Option X → List ℕ → Read X) (count done capacity : ℕ) (prefix : List X) (rest bytes : List ℕ) (fault : DecodeFault)
    → done < count → item (newest prefix) rest ≡ Err fault → IsReading item count done capacity prefix rest bytes → items_at item count None bytes ≡ Err fault
unfolding items_at
stops item count done capacity prefix rest bytes fault lt h so_far =
    let k : count - done ≡ suc (count - (done + 1)) = omega arith in
    let one : with_prefix prefix (items_at item (count - done) (newest prefix) rest) ≡ Err fault = rw (k, h) refl in
    sym so_far.read ∙ one

pub is_done : {X : Type 0} (item : Option X → List ℕ → Read X) (count done capacity : ℕ) (prefix : List X) (rest bytes : List ℕ)
    → count ≤ done → IsReading item count done capacity prefix rest bytes → items_at item count None bytes ≡ Ok (prefix, rest)
unfolding items_at
is_done item count done capacity prefix rest bytes le so_far =
    let k : count - done ≡ 0 = omega arith in
    let one : with_prefix prefix (items_at item (count - done) (newest prefix) rest) ≡ Ok (prefix, rest) = rw k (ap (λ ys. Ok (ys, rest)) (append-nil prefix)) in
    sym so_far.read ∙ one

-- A loop has judged the first of these values up to this one, and has these bytes left.
abbrev pub IsSkimming : {X : Type 0} → (Option X → List ℕ → Read X) → ℕ → ℕ → Option X → List ℕ → List ℕ → Type 0
IsSkimming {X} item count done last rest bytes = (prefix : List X) × (newest prefix ≡ last) × IsReading item count done count prefix rest bytes

pub skim_starts : {X : Type 0} (item : Option X → List ℕ → Read X) (count : ℕ) (bytes : List ℕ) → IsSkimming item count 0 None bytes bytes
skim_starts item count bytes = ([], refl, starts item count count bytes refl)

pub skim_goes_on : {X : Type 0} (item : Option X → List ℕ → Read X) (count done : ℕ) (last : Option X) (rest bytes : List ℕ) (x : X) (after : List ℕ)
    → done < count → item last rest ≡ Ok (x, after) → IsSkimming item count done last rest bytes → IsSkimming item count (done + 1) (Some x) after bytes
skim_goes_on item count done last rest bytes x after lt h (prefix, e, so_far) =
    (prefix ++ x ∷ [], newest-snoc prefix x, goes_on item count done count count prefix rest bytes x after (omega arith) lt (ap (λ o. item o rest) e ∙ h) so_far)

pub skim_stops : {X : Type 0} (item : Option X → List ℕ → Read X) (count done : ℕ) (last : Option X) (rest bytes : List ℕ) (fault : DecodeFault)
    → done < count → item last rest ≡ Err fault → IsSkimming item count done last rest bytes → items_at item count None bytes ≡ Err fault
skim_stops item count done last rest bytes fault lt h (prefix, e, so_far) = stops item count done count prefix rest bytes fault lt (ap (λ o. item o rest) e ∙ h) so_far

pub skim_is_done : {X : Type 0} (item : Option X → List ℕ → Read X) (count done : ℕ) (last : Option X) (rest bytes : List ℕ)
    → count ≤ done → IsSkimming item count done last rest bytes → (xs : List X) × (items_at item count None bytes ≡ Ok (xs, rest))
skim_is_done item count done last rest bytes le (prefix, e, so_far) = (prefix, is_done item count done count prefix rest bytes le so_far)
