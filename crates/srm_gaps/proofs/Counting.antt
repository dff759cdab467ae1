-- Different numbers below a bound: they are no more than the bound, and where they are as many, each is there.
use Rattle.std.proofs.Common.{◌≡◌, ◌≢◌, ℕ, zero, suc, ◌==◌, ◌+◌, ◌≤◌, ◌<◌, Bool, true, false, not, List, [], ◌∷◌, length, refl, ap, sym, ◌∙◌, subst, inl, inr, arith}
use Rattle.std.specs.Prelude.{◌⊎◌, filter, cond}
use Rattle.std.specs.List.{list_any, AllByRecursion}
use Rattle.std.proofs.lemmas.Bool.{eqb-true, eq-eqb, cases_eq}
use Rattle.srm_names.proofs.Lists.{Has, Has-filter, any_Has, none_passes}

-- each number differs from those behind it
abbrev pub AreApart : List ℕ → Type 0
AreApart [] = Unit {0}
AreApart (m ∷ ms) = AllByRecursion (λ (n : ℕ). n ≢ m) ms × AreApart ms

abbrev without : ℕ → List ℕ → List ℕ
without n ms = filter (λ (k : ℕ). not (k == n)) ms

abbrev Below : ℕ → List ℕ → Type 0
Below n ms = AllByRecursion (λ (k : ℕ). k < n) ms

same_or : (m n : ℕ) (b : Bool) → (m == n) ≡ b → cond b (m ≡ n) (m ≢ n)
same_or m n true q = eqb-true m n q
same_or m n false q = λ e. let same : (m == n) ≡ true = eq-eqb m n e in absurd (cc)

none_left_out : (n : ℕ) (ms : List ℕ) → AllByRecursion (λ (k : ℕ). k ≢ n) ms → without n ms ≡ ms
none_left_out n [] all = refl
none_left_out n (m ∷ ms) all = go (m == n) refl (none_left_out n ms all.1)
  where
    go : (b : Bool) → (m == n) ≡ b → without n ms ≡ ms → cond (not (m == n)) (m ∷ without n ms) (without n ms) ≡ m ∷ ms
    go true q more = absurd (all.0 (eqb-true m n q))
    go false q more = ap (λ (b : Bool). cond (not b) (m ∷ without n ms) (without n ms)) q ∙ ap (λ w. m ∷ w) more

one_fewer : (n : ℕ) (ms : List ℕ) → AreApart ms → length ms ≤ length (without n ms) + 1
one_fewer n [] apart = omega arith
one_fewer n (m ∷ ms) apart = go (m == n) refl (one_fewer n ms apart.1)
  where
    go : (b : Bool) → (m == n) ≡ b → length ms ≤ length (without n ms) + 1 → suc (length ms) ≤ length (cond (not (m == n)) (m ∷ without n ms) (without n ms)) + 1
    go true q more =
        let same : without n ms ≡ ms = none_left_out n ms (subst (λ (k : ℕ). AllByRecursion (λ (j : ℕ). j ≢ k) ms) (eqb-true m n q) apart.0) in
        let is : length (cond (not (m == n)) (m ∷ without n ms) (without n ms)) ≡ length ms = ap (λ (b : Bool). length (cond (not b) (m ∷ without n ms) (without n ms))) q ∙ ap length same in
        omega arith
    go false q more =
        let is : length (cond (not (m == n)) (m ∷ without n ms) (without n ms)) ≡ suc (length (without n ms)) = ap (λ (b : Bool). length (cond (not b) (m ∷ without n ms) (without n ms))) q in
        omega arith

-- what holds of each number, and of those that are kept
kept_all : (P : ℕ → Type 0) (n : ℕ) (ms : List ℕ) → AllByRecursion P ms → AllByRecursion P (without n ms)
kept_all P n [] all = tt
kept_all P n (m ∷ ms) all = go (not (m == n)) (kept_all P n ms all.1)
  where
    go : (b : Bool) → AllByRecursion P (without n ms) → AllByRecursion P (cond b (m ∷ without n ms) (without n ms))
    go true more = (all.0, more)
    go false more = more

kept_below : (n : ℕ) (ms : List ℕ) → Below (suc n) ms → Below n (without n ms)
kept_below n [] all = tt
kept_below n (m ∷ ms) all = subst (λ (w : List ℕ). Below n w) refl (go (m == n) refl (kept_below n ms all.1))
  where
    go : (b : Bool) → (m == n) ≡ b → Below n (without n ms) → Below n (cond (not (m == n)) (m ∷ without n ms) (without n ms))
    go true q more = subst (λ (b : Bool). Below n (cond (not b) (m ∷ without n ms) (without n ms))) (sym q) more
    go false q more =
        let l : m < suc n = all.0 in
        let differ : m ≢ n = λ e. let same : (m == n) ≡ true = eq-eqb m n e in absurd (cc) in
        subst (λ (b : Bool). Below n (cond (not b) (m ∷ without n ms) (without n ms))) (sym q) (omega (arith, l, differ), more)

kept_apart : (n : ℕ) (ms : List ℕ) → AreApart ms → AreApart (without n ms)
kept_apart n [] apart = tt
kept_apart n (m ∷ ms) apart = go (not (m == n)) (kept_apart n ms apart.1)
  where
    go : (b : Bool) → AreApart (without n ms) → AreApart (cond b (m ∷ without n ms) (without n ms))
    go true more = (kept_all (λ (k : ℕ). k ≢ m) n ms apart.0, more)
    go false more = more

pub no_more : (n : ℕ) (ms : List ℕ) → AreApart ms → Below n ms → length ms ≤ n
no_more zero [] apart below = omega arith
no_more zero (m ∷ ms) apart below = let l : m < zero = below.0 in absurd (omega (arith, l))
no_more (suc n) ms apart below =
    let few : length (without n ms) ≤ n = no_more n (without n ms) (kept_apart n ms apart) (kept_below n ms below) in
    let one : length ms ≤ length (without n ms) + 1 = one_fewer n ms apart in
    omega (arith, few, one)

-- below the bound, and not the last below it
lower : (n : ℕ) (ms : List ℕ) → Below (suc n) ms → ((m : ℕ) → Has m ms → m ≢ n) → Below n ms
lower n [] below differ = tt
lower n (m ∷ ms) below differ =
    let l : m < suc n = below.0 in
    let other : m ≢ n = differ m (inl refl) in
    (omega (arith, l, other), lower n ms below.1 (λ k there. differ k (inr there)))

pub each_there : (n : ℕ) (ms : List ℕ) → AreApart ms → Below n ms → n ≤ length ms → (k : ℕ) → k < n → Has k ms
each_there zero ms apart below many k l = absurd (omega (arith, l))
each_there (suc n) ms apart below many k l = go (cases_eq k n) (each_there n (without n ms) (kept_apart n ms apart) (kept_below n ms below))
  where
    last : (b : Bool) → list_any (λ (j : ℕ). j == n) ms ≡ b → Has n ms
    last true q = let (m, there, is) = any_Has (λ (j : ℕ). j == n) ms q in subst (λ (j : ℕ). Has j ms) (eqb-true m n is) there
    last false q =
        let under : Below n ms = lower n ms below (λ m there e. let same : (m == n) ≡ true = eq-eqb m n e in let other : (m == n) ≡ false = none_passes (λ (j : ℕ). j == n) ms m q there in absurd (cc)) in
        let few : length ms ≤ n = no_more n ms apart under in
        absurd (omega (arith, few, many))

    go : ((k ≡ n) ⊎ (k ≢ n)) → (n ≤ length (without n ms) → (j : ℕ) → j < n → Has j (without n ms)) → Has k ms
    go (inl same) more = subst (λ (j : ℕ). Has j ms) (sym same) (last (list_any (λ (j : ℕ). j == n) ms) refl)
    go (inr differ) more =
        let one : length ms ≤ length (without n ms) + 1 = one_fewer n ms apart in
        Has-filter (λ (j : ℕ). not (j == n)) k ms (more (omega (arith, one, many)) k (omega (arith, l, differ)))
