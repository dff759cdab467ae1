-- The definitions at worked examples.
use Rattle.std.specs.Prelude.{◌≡◌, ℕ, true, false, List, [], ◌∷◌, Some, None, Ok, Err, refl}
use Rattle.std.proofs.Common.{arith, ap}
use Rattle.srm_names.specs.declared.page.Page.{Page}
use Rattle.srm_control.specs.declared.command.PageCommand.{PageCommand}
use Rattle.srm_control.specs.declared.command.PageCommand.TheVariants.{Show, Begin}
use Rattle.srm_control.specs.declared.command.PageRefusal.TheVariants.{NoSlot}
use Rattle.srm_control.specs.declared.command.PageAnswer.{PageAnswer}
use Rattle.srm_control.specs.Line.{line_view, Puts, Takes}
use Rattle.srm_control.specs.Ends.{LineId, CommandsView, new_commands, Finds, Answers}

-- LINES

-- what is put stands behind, and what is taken comes from the front
puts_third : Puts {T = ℕ} (line_view true false (1 ∷ 2 ∷ []) []) 3 (line_view true false (1 ∷ 2 ∷ 3 ∷ []) [])
puts_third = refl

takes_first : Takes {T = ℕ} (line_view false true [] []) 1 (line_view false true [] (1 ∷ []))
takes_first = refl

-- THE NODE'S END

some_answer : (answers : List PageAnswer) (a : PageAnswer) → [] ≡ a ∷ answers → ⊥
some_answer answers a same = cc

abbrev page : ℕ → Page
page number = record { creator = 0; number = number }

module _ (out : LineId PageCommand) (back : LineId PageAnswer) where
  abbrev idle : CommandsView
  idle = new_commands out back

  -- nothing was commanded: that is a look too
  none_there : Finds None idle (record idle { looks = 1 })
  none_there = refl

  -- a look that wasn't taken isn't one that found nothing
  not_without_a_look : Finds None idle idle → ⊥
  not_without_a_look h = omega (arith, ap (λ (d : CommandsView). d.looks) h)

  -- the greatest number of looks is followed by 0
  after_the_last_look : Finds None (record idle { looks = 18446744073709551615 }) idle
  after_the_last_look = refl

  abbrev begun : CommandsView
  begun = record idle { taken = Begin ∷ []; hand = Some Begin; looks = 1 }

  -- the next command is taken, and in hand until it is answered
  finds_one : Finds (Some Begin) idle begun
  finds_one = refl

  finds_it_again : Finds (Some Begin) begun (record begun { looks = 2 })
  finds_it_again = (refl, refl)

  -- no other is taken meanwhile
  not_another : (d : CommandsView) → Finds (Some (Show (page 3))) begun d → ⊥
  not_another d h = let same : Some (Show (page 3)) ≡ Some Begin = h.0 in cc

  -- it is answered once
  shows_a_new_page : Answers (Ok (page 1)) begun (record begun { hand = None; answered = record { command = Begin; outcome = Ok (page 1) } ∷ [] })
  shows_a_new_page = refl

  -- a refusal is an answer like any other
  refuses : Answers (Err NoSlot) begun (record begun { hand = None; answered = record { command = Begin; outcome = Err NoSlot } ∷ [] })
  refuses = refl

  -- nobody is told where the control is gone
  tells_nobody : Answers (Ok (page 1)) begun (record begun { hand = None; gone = true })
  tells_nobody = refl

  -- and else an answer isn't left out
  not_left_out : Answers (Ok (page 1)) begun (record begun { hand = None }) → ⊥
  not_left_out h = some_answer [] _ (ap (λ (d : CommandsView). d.answered) h)

  -- nothing is answered that wasn't commanded
  no_answer : Answers (Ok (page 1)) idle idle
  no_answer = refl
