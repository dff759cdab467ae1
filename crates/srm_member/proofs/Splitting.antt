-- The first line of a text.
use Rattle.std.proofs.Common.{◌≡◌, ◌≢◌, ℕ, zero, suc, ◌+◌, ◌-◌, ◌<◌, ◌==◌, List, [], ◌∷◌, length, refl, ap, ◌∙◌, sym, arith, rules}
use Rattle.std.specs.Prelude.{take, drop, if◌then◌else◌}
use Rattle.std.proofs.lemmas.List.{take_rest, length-drop}
use Rattle.srm_member.specs.Lines.{lines_of, before_first, IsLineEnd, HasFirstLine}

-- a byte that is no line end stands in the first line
pub other : (c : ℕ) (ls : List (List ℕ)) → c ≢ 10 → (if c == 10 then [] ∷ ls else before_first c ls) ≡ before_first c ls
other c ls h = grind (rules, h)

-- behind the first byte
behind : (c : ℕ) (cs : List ℕ) (n : ℕ) → IsLineEnd (c ∷ cs) (suc n) → IsLineEnd cs n
behind c cs n h = record { within = omega (arith, h.within); before = λ k few. h.before (suc k) (omega (arith, few)); there = λ few. h.there (omega (arith, few)) }

next_is : (text : List ℕ) (n : ℕ) → IsLineEnd text n → n < length text → lines_of text ≡ take n text ∷ lines_of (drop (n + 1) text)
next_is [] n h few = absurd (omega (arith, few))
next_is (c ∷ cs) zero h few = rw (h.there few) refl
next_is (c ∷ cs) (suc n) h few =
    let e : suc n + 1 ≡ suc (n + 1) = omega arith in
    rw e (other c (lines_of cs) (h.before 0 (omega arith)) ∙ ap (before_first c) (next_is cs n (behind c cs n h) (omega (arith, few))))

pub cut : (text : List ℕ) (n : ℕ) → IsLineEnd text n → n < length text → HasFirstLine text (take n text) (take (length text - (n + 1)) (drop (n + 1) text))
cut text n h few = record {
  lines = next_is text n h few ∙ ap (λ left. take n text ∷ lines_of left) (sym (take_rest text (n + 1)));
  less = rw (take_rest text (n + 1)) (omega (arith, few, length-drop (n + 1) text));
}

last_is : (text : List ℕ) → IsLineEnd text (length text) → 0 < length text → lines_of text ≡ text ∷ []
last_is [] h some = absurd (omega (arith, some))
last_is (c ∷ []) h some = other c [] (h.before 0 (omega arith))
last_is (c ∷ d ∷ ds) h some = other c (lines_of (d ∷ ds)) (h.before 0 (omega arith)) ∙ ap (before_first c) (last_is (d ∷ ds) (behind c (d ∷ ds) (length (d ∷ ds)) h) (omega arith))

pub whole : (text : List ℕ) → IsLineEnd text (length text) → 0 < length text → HasFirstLine text text []
whole text h some = record { lines = last_is text h some; less = some }
