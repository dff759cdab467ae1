-- What parsing accepts of decimal numbers.
use Rattle.std.proofs.Common.{◌≡◌, ℕ, zero, suc, ◌<◌, ◌^◌, ◌⊎◌, inl, inr, List, length, get_or, Ok, subst, sym, ◌∙◌, ap, refl, arith}
use Rattle.std.specs.Prelude.{Result}
use Rattle.std.specs.Fmt.{decimal}
use Rattle.std.specs.Str.Parse.{AllDigits, digits_value, ParsesUnsigned}
use Rattle.std.proofs.lemmas.Fmt.{decimal-digits_value, decimal_digit, decimal_is_IsNumeral, first_decimal}
use Rattle.std.proofs.lemmas.Str.Parse.{IsNumeralModel, numerals_by_value, tells_digits, parse_plain, not_in_digits}
use Rattle.srm_script.specs.Decimals.{IsPadded}

own : IsNumeralModel (AllDigits 10) (digits_value 10)
own = numerals_by_value (AllDigits 10) tells_digits

-- what is printed begins with no plus, and with a zero only where that is all
pub unpadded_decimal : (n : ℕ) → n < 2 ^ 64 → IsPadded (decimal n) → ⊥
unpadded_decimal n h (inl plus) =
    let numeral = decimal_is_IsNumeral n h in
    not_in_digits own (decimal n) 43 numeral.0.1 (λ range. absurd (omega arith)) 0 numeral.0.0 plus
unpadded_decimal zero h (inr padded) =
    let one : length (decimal 0) ≡ 1 = ap length (decimal_digit 0 (omega arith)) in
    absurd (omega arith)
unpadded_decimal (suc n) h (inr padded) =
    let above : 48 < get_or (decimal (suc n)) 0 0 = first_decimal (suc n) (omega arith) h in
    absurd (omega (arith, padded.0))

one_or_more : (n : ℕ) → 0 < n → (n ≡ 1) ⊎ (1 < n)
one_or_more zero h = absurd (omega arith)
one_or_more (suc zero) h = inl refl
one_or_more (suc (suc n)) h = inr (omega arith)

-- what is read is spelled as it is printed, unless it begins so
pub parsed_is_decimal : {E : Type 0} (bs : List ℕ) (n : ℕ) (r : Result ℕ E) → ParsesUnsigned 64 10 bs r → r ≡ Ok n
    → (IsPadded bs → ⊥) → bs ≡ decimal n
parsed_is_decimal {E} bs n r h e unpadded =
    let P : Result ℕ E → Type 0 = λ r. ParsesUnsigned 64 10 bs r in
    let k = parse_plain own {E = E} 64 bs (Ok n) (subst P e h) (λ plus. unpadded (inl plus)) in
    let P-nonempty : 0 < length bs = k.0.1 in
    let alone : get_or bs 0 0 ≡ 48 → length bs ≡ 1 = λ zero-first.
    elim (one_or_more (length bs) P-nonempty) [ inl one ↦ one | inr more ↦ absurd (unpadded (inr (zero-first, more))) ] in
    sym (decimal-digits_value own bs k.0.0 k.0.1 alone k.0.2) ∙ ap decimal (sym k.1)
