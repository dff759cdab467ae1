-- What a live member drew of what was typed, at worked examples.
use Rattle.std.specs.Prelude.{◌≡◌, ℕ, false, List, [], ◌∷◌, ◌++◌, codes, refl, Option, Some, None, Ok}
use Rattle.std.proofs.Common.{inl, arith}
use Rattle.srm_names.specs.declared.page.Page.{Page}
use Rattle.srm_names.specs.Names.{first_page}
use Rattle.srm_control.specs.declared.command.PageCommand.TheVariants as commands
use Rattle.srm_control.specs.Ends.{CommandsView}
use Rattle.srm_script.specs.declared.fault.ScriptFault.TheVariants.{Memory, StandardInput}
use Rattle.srm_member.specs.declared.fault.MemberFault.TheVariants.{Script}
use Rattle.srm_member.specs.Strokes.{stroke_on}
use Rattle.srm_live.specs.Asking.{Answers, AreAmong, answer_to, commands_of}
use Rattle.srm_live.specs.LiveRuns.{IsTyped}
use Rattle.srm_live.specs.LiveStatuses.{fault_if_cut}

-- two lines, and what follows the one that tells the member to leave
abbrev typed : List ℕ
typed = codes "a" ++ 10 ∷ codes "b" ++ 10 ∷ codes "/leave" ++ 10 ∷ codes "c" ++ 10 ∷ []

both_were_drawn : IsTyped typed None (stroke_on first_page 0 (codes "a") ∷ stroke_on first_page 0 (codes "b") ∷ [])
both_were_drawn = record { answers = []; are_given = tt; asked = refl; begun = omega arith; drawn = refl }

-- a run that lacks the second isn't whole
one_is_not_both : IsTyped typed None (stroke_on first_page 0 (codes "a") ∷ []) → ⊥
one_is_not_both h = none h.answers h.asked h.drawn
  where
    none : (answers : Answers) → [] ≡ commands_of answers → stroke_on first_page 0 (codes "a") ∷ [] ≡ stroke_on first_page 0 (codes "a") ∷ stroke_on first_page 0 (codes "b") ∷ [] → ⊥
    none answers asked drawn = cc

-- a page that was asked for, and the stroke there
abbrev shown : Page
shown = record { creator = 0; number = 1 }

abbrev answered : Answers
answered = answer_to (commands.Show shown) (Ok shown) ∷ []

-- what is drawn behind a command stands on the page of its answer
a_page_was_shown : (c : CommandsView) → c.taken ≡ commands.Show shown ∷ [] → c.answered ≡ answered → IsTyped (codes "/page 0.1" ++ 10 ∷ codes "a") (Some c) (stroke_on shown 0 (codes "a") ∷ [])
a_page_was_shown c taken given = record { answers = answered; are_given = rw given (inl (refl, tt)); asked = refl; begun = rw taken (omega arith); drawn = refl }

-- without its answer the run isn't whole, though nothing can be drawn behind it
an_answer_is_missing : IsTyped (codes "/new") None [] → ⊥
an_answer_is_missing h = none h.answers h.are_given h.asked
  where
    none : (answers : Answers) → AreAmong answers [] → commands.Begin ∷ [] ≡ commands_of answers → ⊥
    none [] among asked = cc
    none (a ∷ more) among asked = among

-- STATUSES

a_cut_run_is_out_of_memory : fault_if_cut false None ≡ Some (Script Memory)
a_cut_run_is_out_of_memory = refl

but_for_another_fault : fault_if_cut false (Some (Script StandardInput)) ≡ Some (Script StandardInput)
but_for_another_fault = refl
