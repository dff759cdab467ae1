-- What wires tell, one call after another.
use Rattle.std.proofs.Common.{◌≡◌, ℕ, ◌+◌, ◌-◌, ◌^◌, min, ◌<◌, ◌≤◌, ◌||◌, Bool, true, false, List, [], ◌∷◌, ◌++◌, refl, ap, sym, ◌∙◌, subst, inl, inr, arith, append_assoc}
use Rattle.std.specs.Prelude.{◌⊎◌, Result, Ok, Err, is_err, Option, Some, None, option_map, not, ◌==◌}
use Rattle.std.specs.Bool.{OnFalse}
use Rattle.std.proofs.lemmas.Bool.{cases_lt}
use Rattle.std.proofs.lemmas.List.{append-nil, map-append}
use Rattle.std.proofs.lemmas.List.Elements.{filter-append}
use Rattle.srm_names.specs.Histories.{count_up}
use Rattle.srm_names.proofs.Snoc.{up_to_more}
use Rattle.srm_wire.specs.declared.sent.Sent.{Sent}
use Rattle.srm_wire.specs.Wires.{Told, TellsMore, told_more, CountsIf, RoseOrFull, counted_with, AreSomeOf, Sends, bytes_to, sent_by, but, others, sends_to}

told_same : (o : Option Told) → o ≡ option_map (told_more [] []) o
told_same None = refl
told_same (Some t) = ap (λ (x : Told). Some x) (ap (λ came. record { came = came; went = t.went }) (sym (append-nil t.came)) ∙ ap (λ went. record { came = t.came ++ []; went = went }) (sym (append-nil t.went)))

-- nothing was told
pub tells_nothing : (o : Option Told) → TellsMore [] [] o o
tells_nothing o = record { told = told_same o }

told_twice : (a c : List (Option (List ℕ))) (b d : List Sent) (o : Option Told) → option_map (told_more c d) (option_map (told_more a b) o) ≡ option_map (told_more (a ++ c) (b ++ d)) o
told_twice a c b d None = refl
told_twice a c b d (Some t) = ap (λ (x : Told). Some x) (ap (λ came. record { came = came; went = (t.went ++ b) ++ d }) (append_assoc t.came a c) ∙ ap (λ went. record { came = t.came ++ (a ++ c); went = went }) (append_assoc t.went b d))

-- what was told, and then more
pub tells_on : (a c : List (Option (List ℕ))) (b d : List Sent) (x y z : Option Told) → TellsMore a b x y → TellsMore c d y z → TellsMore (a ++ c) (b ++ d) x z
tells_on a c b d x y z h k = record { told = k.told ∙ ap (option_map (told_more c d)) h.told ∙ told_twice a c b d x }

others_more : (me n : ℕ) → others me (n + 1) ≡ others me n ++ but me (n ∷ [])
others_more me n = ap (but me) (up_to_more n) ∙ filter-append (λ m. not (m == me)) (count_up 0 n) (n ∷ [])

pub sends_more : (me n : ℕ) (bytes : List ℕ) → sends_to (others me (n + 1)) bytes ≡ sends_to (others me n) bytes ++ sends_to (but me (n ∷ [])) bytes
sends_more me n bytes = ap (λ ms. sends_to ms bytes) (others_more me n) ∙ map-append (λ to. record { to = to; bytes = bytes }) (others me n) (but me (n ∷ []))

pub counts_on : (a b : Bool) (x y z : ℕ) → CountsIf a x y → CountsIf b y z → CountsIf (a || b) x z
counts_on true b x y z h k = (omega arith, rose_on x y z h.1 k.0)
  where
    rose_on : (x y z : ℕ) → RoseOrFull x y → y ≤ z → RoseOrFull x z
    rose_on x y z (inl rose) le = inl (omega arith)
    rose_on x y z (inr full) le = inr (omega arith)
counts_on false true x y z h k = (omega arith, rose_before x y z h.0 k.1)
  where
    rose_before : (x y z : ℕ) → x ≤ y → RoseOrFull y z → RoseOrFull x z
    rose_before x y z le (inl rose) = inl (omega arith)
    rose_before x y z le (inr full) = inr full
counts_on false false x y z h k = (omega arith, tt)

-- some of all these: some of the first, and then some of the others
some_on : {A : Type 0} (xs all ys more : List A) → AreSomeOf xs all → AreSomeOf ys more → AreSomeOf (xs ++ ys) (all ++ more)
some_on [] [] ys more h k = k
some_on {A} [] (a ∷ all) ys more h k = skip ys (all ++ more) (some_on [] all ys more tt k)
  where
    skip : (ys rest : List A) → AreSomeOf ys rest → AreSomeOf ys (a ∷ rest)
    skip [] rest h = tt
    skip (y ∷ ys) rest h = inr h
some_on (x ∷ xs) [] ys more h k = absurd h
some_on (x ∷ xs) (a ∷ all) ys more (inl (is, h)) k = inl (is, some_on xs all ys more h k)
some_on (x ∷ xs) (a ∷ all) ys more (inr h) k = inr (some_on (x ∷ xs) all ys more h k)

-- some sends, and then more
pub sends_on : (a b : Bool) (went more : List Sent) (x y z : ℕ) (s t u : Option Told) → Sends a went x y s t → Sends b more y z t u → Sends (a || b) (went ++ more) x z s u
sends_on a b went more x y z s t u h k = record {
  failures = counts_on a b x y z h.failures k.failures;
  went = h.went ++ k.went;
  some = some_on h.went went k.went more h.some k.some;
  whole = both a b h.whole k.whole;
  tells = tells_on [] [] h.went k.went s t u h.tells k.tells;
}
  where
    both : (a b : Bool) → OnFalse a (h.went ≡ went) → OnFalse b (k.went ≡ more) → OnFalse (a || b) (h.went ++ k.went ≡ went ++ more)
    both true b p q = tt
    both false true p q = tt
    both false false p q = ap (λ ss. ss ++ k.went) p ∙ ap (λ ss. went ++ ss) q

pub sends_none : (x : ℕ) (t : Option Told) → Sends false [] x x t t
sends_none x t = record { failures = (omega arith, tt); went = []; some = tt; whole = refl; tells = tells_nothing t }

-- one was sent, or the send failed
pub sends_one : {T E : Type 0} (r : Result T E) (to : ℕ) (bytes : List ℕ) (all : List Sent) (x y : ℕ) (s t : Option Told) → all ≡ bytes_to to bytes ∷ [] → CountsIf (is_err r) x y → TellsMore [] (sent_by to bytes r) s t → Sends (is_err r) all x y s t
sends_one (Ok a) to bytes all x y s t is counts tells = record { failures = counts; went = bytes_to to bytes ∷ []; some = rw is (inl (refl, tt)); whole = sym is; tells = tells }
sends_one (Err e) to bytes all x y s t is counts tells = record { failures = counts; went = []; some = tt; whole = tt; tells = tells }

-- one member more
pub sends_to_more : (a b : Bool) (me n : ℕ) (bytes : List ℕ) (x y z : ℕ) (s t u : Option Told) → Sends a (sends_to (others me n) bytes) x y s t → Sends b (sends_to (but me (n ∷ [])) bytes) y z t u → Sends (a || b) (sends_to (others me (n + 1)) bytes) x z s u
sends_to_more a b me n bytes x y z s t u h k = subst (λ went. Sends (a || b) went x z s u) (sym (sends_more me n bytes)) (sends_on a b (sends_to (others me n) bytes) (sends_to (but me (n ∷ [])) bytes) x y z s t u h k)

-- a failure of the wire below
pub counts_below : {T E : Type 0} (r : Result T E) (old new own : ℕ) → CountsIf (is_err r) old new → CountsIf (is_err r) (counted_with old own) (counted_with new own)
counts_below (Ok x) old new own h = (omega (arith, h.0), tt)
counts_below (Err e) old new own h = (omega (arith, h.0), rose old new own h.1)
  where
    rose : (old new own : ℕ) → RoseOrFull old new → RoseOrFull (counted_with old own) (counted_with new own)
    rose old new own (inl less) = which (cases_lt (new + own) (2 ^ 64 - 1))
      where
        which : ((new + own < 2 ^ 64 - 1) ⊎ (2 ^ 64 - 1 ≤ new + own)) → RoseOrFull (counted_with old own) (counted_with new own)
        which (inl few) = inl (omega arith)
        which (inr full) = inr (omega arith)
    rose old new own (inr full) = inr (omega arith)

-- a failure of the wire itself
pub counts_own : (below own more : ℕ) → more ≡ min (own + 1) (2 ^ 64 - 1) → (counted_with below own ≤ counted_with below more) × RoseOrFull (counted_with below own) (counted_with below more)
counts_own below own more is = (omega arith, which (cases_lt (below + own) (2 ^ 64 - 1)))
  where
    which : ((below + own < 2 ^ 64 - 1) ⊎ (2 ^ 64 - 1 ≤ below + own)) → RoseOrFull (counted_with below own) (counted_with below more)
    which (inl few) = inl (omega arith)
    which (inr full) = inr (omega arith)
