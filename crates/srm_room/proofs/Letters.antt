-- Characters of a text, one after the other.
use Rattle.std.proofs.Common.{◌≡◌, ℕ, suc, ◌+◌, ◌≤◌, ◌<◌, ◌&&◌, Bool, true, false, List, [], ◌∷◌, ◌++◌, length, chars, encode_utf8, IsUtf8, nat_le, refl, sym, ap, ◌∙◌, arith}
use Rattle.std.specs.List.{list_all}
use Rattle.std.proofs.lemmas.Str.{chars_past_char, IsUtf8-past_char, chars-nil}
use Rattle.std.proofs.lemmas.List.{nil_from_length}
use Rattle.std.proofs.lemmas.Bool.Decides.{nat_tests}

-- what is left of a text is as right as the text
pub record AllSoFar (test : ℕ → Bool) (whole rest : List ℕ) : Type 0 where
  pub utf8 : IsUtf8 rest
  pub same : list_all test (chars rest) ≡ list_all test (chars whole)

module _ (test : ℕ → Bool) (whole rest behind : List ℕ) (c : ℕ) (so : AllSoFar test whole rest) (parts : rest ≡ encode_utf8 c ++ behind) where
  past : list_all test (chars rest) ≡ (test c && list_all test (chars behind))
  past = ap (list_all test) (chars_past_char rest behind c so.utf8 parts)

  pub goes_on : test c ≡ true → AllSoFar test whole behind
  goes_on passed =
      let one : (test c && list_all test (chars behind)) ≡ list_all test (chars behind) = rw passed in
      record { utf8 = IsUtf8-past_char rest behind c so.utf8 parts; same = sym one ∙ sym past ∙ so.same }

  pub stops : test c ≡ false → list_all test (chars whole) ≡ false
  stops failed =
      let one : (test c && list_all test (chars behind)) ≡ false = rw failed in
      sym so.same ∙ past ∙ one

pub ends : (test : ℕ → Bool) (whole rest : List ℕ) → AllSoFar test whole rest → length rest ≡ 0 → list_all test (chars whole) ≡ true
ends test whole rest so none = sym so.same ∙ ap (λ (t : List ℕ). list_all test (chars t)) (nil_from_length rest none) ∙ ap (list_all test) chars-nil

-- so many characters were counted, and the others are left
pub record CountSoFar (whole rest : List ℕ) (count : ℕ) : Type 0 where
  pub utf8 : IsUtf8 rest
  pub low : count ≤ 40
  pub sum : count + length (chars rest) ≡ length (chars whole)

module _ (whole rest behind : List ℕ) (count c : ℕ) (so : CountSoFar whole rest count) (parts : rest ≡ encode_utf8 c ++ behind) where
  one_less : length (chars rest) ≡ suc (length (chars behind))
  one_less = ap length (chars_past_char rest behind c so.utf8 parts)

  pub counts_on : count < 40 → CountSoFar whole behind (count + 1)
  counts_on lt = record {
    utf8 = IsUtf8-past_char rest behind c so.utf8 parts;
    low = omega (arith, lt);
    sum = let less = one_less in let sum = so.sum in omega (arith, less, sum);
  }

  pub too_long : count ≡ 40 → false ≡ (nat_le 1 (length (chars whole)) && nat_le (length (chars whole)) 40)
  too_long full =
      let less = one_less in
      let sum = so.sum in
      let long : 40 < length (chars whole) = omega (arith, less, sum, full) in
      grind (arith, nat_tests, long)

pub counted_all : (whole rest : List ℕ) (count : ℕ) → CountSoFar whole rest count → length rest ≡ 0 → count ≡ length (chars whole)
counted_all whole rest count so none =
    let left : length (chars rest) ≡ 0 = ap (λ (t : List ℕ). length (chars t)) (nil_from_length rest none) ∙ ap length chars-nil in
    let sum = so.sum in
    omega (arith, left, sum)
