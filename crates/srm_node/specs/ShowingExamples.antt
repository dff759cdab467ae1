-- What a node shows and begins for another thread, at worked examples.
use Rattle.std.specs.Prelude.{◌≡◌, ℕ, [], ◌∷◌, Some, None, Ok, Err, refl}
use Rattle.std.proofs.Common.{ap}
use Rattle.srm_names.specs.declared.page.Page.{Page}
use Rattle.srm_control.specs.declared.command.PageCommand.{PageCommand}
use Rattle.srm_control.specs.declared.command.PageCommand.TheVariants.{Show, Begin}
use Rattle.srm_control.specs.declared.command.PageRefusal.TheVariants as refusals
use Rattle.srm_control.specs.declared.command.PageAnswer.{PageAnswer}
use Rattle.srm_control.specs.Ends.{LineId, CommandsView, new_commands}
use Rattle.srm_entries.specs.declared.fault.AgentFault.TheVariants as faults
use Rattle.srm_entries.specs.declared.entry.Entry.{Entry}
use Rattle.srm_entries.specs.declared.entry.Input.TheVariants.{Showed}
use Rattle.srm_entries.specs.declared.entry.Verdict.TheVariants.{Done, Refused}
use Rattle.srm_entries.specs.declared.state.AgentState.TheVariants.{Active}
use Rattle.srm_entries.specs.Sample.{config, entry, quiet}
use Rattle.srm_world.specs.Traces.{Journal}
use Rattle.srm_node.specs.TurnSample.{journal}
use Rattle.srm_node.specs.Showing.{page_of, outcome_of, Obeys, ObeysCut, ShowsAsked, ShowsAskedCut}

abbrev page : ℕ → Page
page number = record { creator = 0; number = number }

-- a new member's next page is its number 1, since the table has the first page
next_page : page_of (config 0) [] Begin ≡ Some (page 1)
next_page = refl

-- behind a page that it began and shows, the next one
page_behind : page_of (config 0) (entry 0 1 (Showed (page 4)) (quiet Active) ∷ []) Begin ≡ Some (page 5)
page_behind = refl

-- what is told: the page that is shown, or why none is
told_of : outcome_of (page 3) Done ≡ Ok (page 3)
told_of = refl

told_of_a_full_table : outcome_of (page 3) (Refused faults.PageLimit) ≡ Err refusals.NoSlot
told_of_a_full_table = refl

told_of_a_member_that_left : outcome_of (page 3) (Refused faults.Gone) ≡ Err refusals.Gone
told_of_a_member_that_left = refl

module _ (out : LineId PageCommand) (back : LineId PageAnswer) where
  abbrev idle : CommandsView
  idle = new_commands out back

  -- PAGE 3 IS ASKED FOR

  abbrev shows : Entry
  shows = entry 0 1 (Showed (page 3)) (quiet Active)

  abbrev in_hand : CommandsView
  in_hand = record idle { taken = Show (page 3) ∷ []; hand = Some (Show (page 3)); looks = 1 }

  abbrev answered : CommandsView
  answered = record in_hand { hand = None; answered = record { command = Show (page 3); outcome = Ok (page 3) } ∷ [] }

  -- it has its one entry at the turn's moment, and its answer
  shows_it : ShowsAsked 1 (journal []) (journal (shows ∷ [])) (Some idle) (Some answered)
  shows_it = (
    answered,
    refl,
    record {
      found = Some (Show (page 3));
      seen = in_hand;
      finds = refl;
      obeys = record { outcome = Ok (page 3); out = record { entry = shows; grown = refl; moment = refl; input = refl; came = refl }; answers = refl };
    },
  )

  -- NOTHING IS ASKED FOR

  -- where nothing is asked for, the journal is as before
  finds_nothing : ShowsAsked 1 (journal []) (journal []) (Some idle) (Some (record idle { looks = 1 }))
  finds_nothing = (record idle { looks = 1 }, refl, record { found = None; seen = record idle { looks = 1 }; finds = refl; obeys = (refl, refl) })

  -- and so it is of a node without a control
  has_no_control : ShowsAsked 1 (journal []) (journal []) None None
  has_no_control = (refl, refl)

  -- which shows nothing by itself
  shows_nothing_unasked : ShowsAsked 1 (journal []) (journal (shows ∷ [])) None None → ⊥
  shows_nothing_unasked h = let none : shows ∷ [] ≡ [] = ap (λ (j : Journal). j.entries) h.0 in cc

  -- OUT OF MEMORY

  -- the command is in hand for the next turn
  keeps_it : ShowsAskedCut (journal []) (journal []) (Some idle) (Some in_hand)
  keeps_it = (in_hand, refl, record { command = Show (page 3); finds = refl; same = refl })

  -- the next turn finds it again, and takes no other
  shows_it_then : Obeys 2 (journal []) (journal (entry 0 2 (Showed (page 3)) (quiet Active) ∷ [])) in_hand (record answered { looks = 2 })
  shows_it_then = record {
    found = Some (Show (page 3));
    seen = record in_hand { looks = 2 };
    finds = (refl, refl);
    obeys = record { outcome = Ok (page 3); out = record { entry = entry 0 2 (Showed (page 3)) (quiet Active); grown = refl; moment = refl; input = refl; came = refl }; answers = refl };
  }

  -- one that isn't in hand is lost, and no turn is cut so
  not_lost : ObeysCut (journal []) (journal []) idle (record in_hand { hand = None }) → ⊥
  not_lost cut = let kept : None ≡ Some cut.command = ap (λ (d : CommandsView). d.hand) cut.finds in cc
