use Rattle.std.proofs.Common.{◌≡◌, true, false, ◌<◌, ◌^◌, Ok, refl, sym, subst, ◌∙◌, arith}
use Rattle.std.proofs.lemmas.Fmt.{parse-decimal}
use Rattle.srm_script.specs.Decimals.{IsPadded}
use Rattle.srm_script.proofs.Decimals.{unpadded_decimal, parsed_is_decimal}
use Rattle.srm_script.proofs.script.number.read_number.Goals as goal

pub returns-then-is_padded-clause-none : goal.returns-then-is_padded-clause-none
returns-then-is_padded-clause-none c number (le, spelled) =
    let fits : number < 2 ^ 64 = omega arith in
    unpadded_decimal number fits (subst IsPadded (c.as_bytes.ensures.value ∙ spelled) (c.if-is_padded.ensures.0 refl))

pub returns-in-Ok-clause-some : goal.returns-in-Ok-clause-some
returns-in-Ok-clause-some c = (
  c.if-number-greatest.true,
  parsed_is_decimal c.args.text.now _ _ c.parse.ensures.value.0 c.in-Ok.is
      (λ padded. let wrong : false ≡ true = c.if-is_padded.ensures.1 (subst IsPadded (sym c.as_bytes.ensures.value) padded) in cc),
)

pub returns-in_default-clause-none : goal.returns-in_default-clause-none
returns-in_default-clause-none c number (le, spelled) =
    let fits : number < 2 ^ 64 = omega arith in
    let parsed : c.parse.result ≡ Ok number = parse-decimal 64 number c.args.text.now _ fits fits spelled c.parse.ensures.value.0 in
    let same : c.in-Ok.number ≡ number = cc in
    absurd (omega arith)

pub returns-in_default-2-clause-none : goal.returns-in_default-2-clause-none
returns-in_default-2-clause-none c number (le, spelled) =
    let fits : number < 2 ^ 64 = omega arith in
    let parsed : c.parse.result ≡ Ok number = parse-decimal 64 number c.args.text.now _ fits fits spelled c.parse.ensures.value.0 in
    cc
