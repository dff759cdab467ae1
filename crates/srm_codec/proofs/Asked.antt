-- The names that a request asks for, bit by bit.
use Rattle.std.proofs.Common.{◌≡◌, ℕ, suc, ◌+◌, ◌-◌, ◌/◌, ◌%◌, ◌<◌, ◌≤◌, ◌==◌, Bool, true, false, List, [], ◌∷◌, ◌++◌, map, refl, ap, sym, ◌∙◌, subst, arith, append_assoc}
use Rattle.std.specs.Prelude.{if◌then◌else◌}
use Rattle.std.specs.List.{AllByRecursion}
use Rattle.std.proofs.lemmas.List.{append-nil, map-append}
use Rattle.srm_names.specs.FullName.{FullName}
use Rattle.srm_names.specs.Names.{named}
use Rattle.srm_names.specs.declared.limits.TheConstants.{DRAWOPS}
use Rattle.srm_names.proofs.Lists.{AllByRecursion-parts}
use Rattle.srm_codec.specs.Spelling.{bits_set, is_name}

-- the name of a bit
abbrev pub at_bit : FullName → ℕ → FullName
at_bit name bit = named name.stream (name.number + 1 + bit)

-- the names of the bits from this one on, whose bits stand in the rest of the mask
abbrev pub left_to_ask : FullName → ℕ → ℕ → List FullName
left_to_ask name bit rest = map (λ b. at_bit name (bit + b)) (bits_set (32 - bit) rest)

pub shifted : (name : FullName) (bit : ℕ) (bits : List ℕ) → map (λ b. at_bit name (bit + b)) (map (λ b. b + 1) bits) ≡ map (λ b. at_bit name (bit + 1 + b)) bits
shifted name bit [] = refl
shifted name bit (b ∷ bits) = ap (λ k. named name.stream k ∷ map (λ b. at_bit name (bit + b)) (map (λ b. b + 1) bits)) (omega arith) ∙ ap (λ ns. at_bit name (bit + 1 + b) ∷ ns) (shifted name bit bits)

pub bits_more : (k rest : ℕ) → bits_set (suc k) rest ≡ (if rest % 2 == 1 then 0 ∷ [] else []) ++ map (λ b. b + 1) (bits_set k (rest / 2))
unfolding bits_set
bits_more k rest = refl

pub left_step : (name : FullName) (bit rest : ℕ) → bit < 32 → left_to_ask name bit rest ≡ map (λ b. at_bit name (bit + b)) (if rest % 2 == 1 then 0 ∷ [] else []) ++ left_to_ask name (bit + 1) (rest / 2)
left_step name bit rest l =
    let e : 32 - bit ≡ suc (32 - (bit + 1)) = omega arith in
    ap (λ k. map (λ b. at_bit name (bit + b)) (bits_set k rest)) e
    ∙ ap (map (λ b. at_bit name (bit + b))) (bits_more (32 - (bit + 1)) rest)
    ∙ map-append (λ b. at_bit name (bit + b)) (if rest % 2 == 1 then 0 ∷ [] else []) (map (λ b. b + 1) (bits_set (32 - (bit + 1)) (rest / 2)))
    ∙ ap (λ ns. map (λ b. at_bit name (bit + b)) (if rest % 2 == 1 then 0 ∷ [] else []) ++ ns) (shifted name bit (bits_set (32 - (bit + 1)) (rest / 2)))

-- a bit that is set
pub left_set : (name : FullName) (bit rest : ℕ) → bit < 32 → (rest % 2 == 1) ≡ true → left_to_ask name bit rest ≡ at_bit name bit ∷ left_to_ask name (bit + 1) (rest / 2)
left_set name bit rest l e =
    left_step name bit rest l ∙ ap (λ (b : Bool). map (λ k. at_bit name (bit + k)) (if b then 0 ∷ [] else []) ++ left_to_ask name (bit + 1) (rest / 2)) e
    ∙ ap (λ k. named name.stream (name.number + 1 + k) ∷ left_to_ask name (bit + 1) (rest / 2)) (omega arith)

pub left_clear : (name : FullName) (bit rest : ℕ) → bit < 32 → (rest % 2 == 1) ≡ false → left_to_ask name bit rest ≡ left_to_ask name (bit + 1) (rest / 2)
left_clear name bit rest l e = left_step name bit rest l ∙ ap (λ (b : Bool). map (λ k. at_bit name (bit + k)) (if b then 0 ∷ [] else []) ++ left_to_ask name (bit + 1) (rest / 2)) e

-- at the end nothing is left
pub no_bits : (rest : ℕ) → bits_set 0 rest ≡ []
unfolding bits_set
no_bits rest = refl

pub none_left : (name : FullName) (bit rest : ℕ) (names all : List FullName) → 32 ≤ bit → names ++ left_to_ask name bit rest ≡ all → names ≡ all
none_left name bit rest names all l e = sym (append-nil names) ∙ ap (λ ns. names ++ ns) (sym (empty (32 - bit) (omega arith))) ∙ e
  where
    empty : (k : ℕ) → k ≡ 0 → map (λ b. at_bit name (bit + b)) (bits_set k rest) ≡ []
    empty k q = ap (λ j. map (λ b. at_bit name (bit + b)) (bits_set j rest)) q ∙ ap (map (λ b. at_bit name (bit + b))) (no_bits rest)

pub next_set : (name n : FullName) (bit rest : ℕ) (names more all : List FullName) → bit < 32 → (rest % 2 == 1) ≡ true → names ++ left_to_ask name bit rest ≡ all → n ≡ at_bit name bit → more ≡ names ++ n ∷ []
    → more ++ left_to_ask name (bit + 1) (rest / 2) ≡ all
next_set name n bit rest names more all l set e is added =
    ap (λ ns. ns ++ left_to_ask name (bit + 1) (rest / 2)) (added ∙ ap (λ m. names ++ m ∷ []) is) ∙ append_assoc names (at_bit name bit ∷ []) (left_to_ask name (bit + 1) (rest / 2))
    ∙ ap (λ ns. names ++ ns) (sym (left_set name bit rest l set)) ∙ e

pub next_clear : (name : FullName) (bit rest : ℕ) (names all : List FullName) → bit < 32 → (rest % 2 == 1) ≡ false → names ++ left_to_ask name bit rest ≡ all → names ++ left_to_ask name (bit + 1) (rest / 2) ≡ all
next_clear name bit rest names all l clear e = ap (λ ns. names ++ ns) (sym (left_clear name bit rest l clear)) ∙ e

-- a bit that is set names a number within the limit
pub within : (name : FullName) (bit rest : ℕ) (names all : List FullName) → bit < 32 → (rest % 2 == 1) ≡ true → names ++ left_to_ask name bit rest ≡ all → AllByRecursion is_name all → name.number + 1 + bit ≤ DRAWOPS
within name bit rest names all l set e good =
    let parts = AllByRecursion-parts is_name names (left_to_ask name bit rest) (subst (AllByRecursion is_name) (sym e) good) in
    (subst (AllByRecursion is_name) (left_set name bit rest l set) parts.1).0.3
