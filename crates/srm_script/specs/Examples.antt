-- Numbers of a script, the statuses of its faults, and the lines for takes, on examples.
use Rattle.std.specs.Prelude.{◌≡◌, [], ◌∷◌, ◌++◌, map, codes, None, Some, refl}
use Rattle.std.specs.Fmt.{digits}
use Rattle.std.proofs.Common.{arith, inl, inr}
use Rattle.srm_names.specs.declared.limits.TheConstants.{LATEST_MOMENT}
use Rattle.srm_names.specs.declared.page_msg.PageMsg.TheVariants.{Open, Draw, Left, Close}
use Rattle.srm_script.specs.declared.fault.ScriptFault.TheVariants.{StandardInput, TooLong, BadLine, Output, Memory}
use Rattle.srm_script.specs.Decimals.{IsDecimalUpTo, IsPadded}
use Rattle.srm_script.specs.Statuses.{status_of}
use Rattle.srm_script.specs.TookLines.{page_text, body_text, took_text, gone_text}

zero_is_a_number : IsDecimalUpTo 31 (codes "0") 0
unfolding digits
zero_is_a_number = (omega arith, refl)

the_greatest_member : IsDecimalUpTo 31 (codes "31") 31
unfolding digits
the_greatest_member = (omega arith, refl)

the_greatest_moment : IsDecimalUpTo LATEST_MOMENT (codes "281474976710656") LATEST_MOMENT
unfolding digits
the_greatest_moment = (omega arith, refl)

a_leading_zero : IsPadded (codes "01")
a_leading_zero = inr (refl, omega arith)

a_plus : IsPadded (codes "+1")
a_plus = inl refl

statuses : map status_of (StandardInput ∷ TooLong ∷ BadLine 7 ∷ Output ∷ Memory ∷ []) ≡ 1 ∷ 1 ∷ 1 ∷ 1 ∷ 4 ∷ []
statuses = refl

a_page : page_text (record { creator = 31; number = 65535 }) ≡ codes "31.65535"
unfolding digits
a_page = refl

-- the bytes 61 00 1f 20 7e 7f 80 ff 0d 7a
a_body : body_text (0x61 ∷ 0x00 ∷ 0x1F ∷ 0x20 ∷ 0x7E ∷ 0x7F ∷ 0x80 ∷ 0xFF ∷ 0x0D ∷ 0x7A ∷ []) ≡ codes "a?? ~????z"
a_body = refl

an_opened_page : took_text 0 0 (Some (Open (record { creator = 0; number = 0 }))) ≡ codes "took 0 0 open 0.0"
unfolding digits
an_opened_page = refl

a_stroke : took_text 1 0 (Some (Draw (record { name = record { stream = record { source = 2; page = record { creator = 0; number = 0 } }; number = 65536 }; stamp = 5; body = codes "hi" }))) ≡ codes "took 1 0 draw 2 65536 hi"
unfolding digits
a_stroke = refl

an_empty_stroke : took_text 0 0 (Some (Draw (record { name = record { stream = record { source = 0; page = record { creator = 0; number = 0 } }; number = 1 }; stamp = 5; body = [] }))) ≡ codes "took 0 0 draw 0 1 "
unfolding digits
an_empty_stroke = refl

who_left : took_text 1 7 (Some (Left 31)) ≡ codes "took 1 7 left 31"
unfolding digits
who_left = refl

a_close : took_text 0 7 (Some Close) ≡ codes "took 0 7 close"
unfolding digits
a_close = refl

nothing : took_text 1 0 None ≡ codes "took 1 0 none"
unfolding digits
nothing = refl

a_member_is_gone : gone_text 31 ≡ codes "gone 31"
unfolding digits
a_member_is_gone = refl
