-- How a node shows and begins the pages that another thread asks for.
use Rattle.std.specs.Prelude.{◌≡◌, ℕ, List, Option, Some, None, Result, Ok, Err}
use Rattle.srm_names.specs.declared.page.Page.{Page}
use Rattle.srm_control.specs.declared.command.PageCommand.{PageCommand}
use Rattle.srm_control.specs.declared.command.PageCommand.TheVariants.{Show, Begin}
use Rattle.srm_control.specs.declared.command.PageRefusal.{PageRefusal}
use Rattle.srm_control.specs.declared.command.PageRefusal.TheVariants as refusals
use Rattle.srm_control.specs.Ends.{CommandsView, Finds, Answers}
use Rattle.srm_entries.specs.declared.fault.AgentFault.{AgentFault}
use Rattle.srm_entries.specs.declared.fault.AgentFault.TheVariants.{PageLimit}
use Rattle.srm_entries.specs.declared.entry.Entry.{Entry}
use Rattle.srm_entries.specs.declared.entry.Input.TheVariants.{Showed}
use Rattle.srm_entries.specs.declared.entry.Verdict.{Verdict}
use Rattle.srm_entries.specs.declared.entry.Verdict.TheVariants.{Refused}
use Rattle.srm_entries.specs.Configs.{Config}
use Rattle.srm_entries.specs.Promises.{page_to_come}
use Rattle.srm_world.specs.Traces.{Journal}
use Rattle.srm_world.specs.Recording.{with_entry, IsAt}

-- the page of a command: the one that it names, or the member's next one, if there is one
abbrev pub page_of : Config → List Entry → PageCommand → Option Page
page_of c es (Show page) = Some page
page_of c es Begin = page_to_come c es

-- what is told of a refusal: the table has no slot, or the member has left
abbrev pub refusal_of : AgentFault → PageRefusal
refusal_of PageLimit = refusals.NoSlot
refusal_of _ = refusals.Gone

-- what came of a page's showing, by the verdict of its entry
abbrev pub outcome_of : Page → Verdict → Result Page PageRefusal
outcome_of page (Refused fault) = Err (refusal_of fault)
outcome_of page _ = Ok page

-- the journal has one more entry, of this page's showing, and this came of it
pub record ShowsOne (now : ℕ) (page : Page) (outcome : Result Page PageRefusal) (old new : Journal) : Type 0 where
  pub entry : Entry
  pub grown : new ≡ with_entry old entry
  pub moment : IsAt now old entry
  pub input : entry.input ≡ Showed page
  pub came : outcome ≡ outcome_of page entry.verdict

-- The page of a command has its one entry; where there is none, nothing is entered.
abbrev pub CarriesOut : ℕ → Option Page → Result Page PageRefusal → Journal → Journal → Type 0
CarriesOut now (Some page) outcome old new = ShowsOne now page outcome old new
CarriesOut now None outcome old new = (outcome ≡ Err refusals.NoNewPage) × (new ≡ old)

-- the command was carried out, and answered with what came of it
pub record ObeysCommand (now : ℕ) (command : PageCommand) (old new : Journal) (seen to : CommandsView) : Type 0 where
  pub outcome : Result Page PageRefusal
  pub out : CarriesOut now (page_of old.start.config old.entries command) outcome old new
  pub answers : Answers outcome seen to

-- so it was with the command that a look found, if it found one
abbrev pub ObeysFound : ℕ → Option PageCommand → Journal → Journal → CommandsView → CommandsView → Type 0
ObeysFound now None old new seen to = (new ≡ old) × (to ≡ seen)
ObeysFound now (Some command) old new seen to = ObeysCommand now command old new seen to

-- the control was looked at once, and a command that was found was carried out and answered
pub record Obeys (now : ℕ) (old new : Journal) (from to : CommandsView) : Type 0 where
  pub found : Option PageCommand
  pub seen : CommandsView
  pub finds : Finds found from seen
  pub obeys : ObeysFound now found old new seen to

-- memory ran out: the command that was found is in hand, and nothing was entered
pub record ObeysCut (old new : Journal) (from to : CommandsView) : Type 0 where
  pub command : PageCommand
  pub finds : Finds (Some command) from to
  pub same : new ≡ old

-- A node without a control does nothing here.
abbrev pub ShowsAsked : ℕ → Journal → Journal → Option CommandsView → Option CommandsView → Type 0
ShowsAsked now old new None to = (new ≡ old) × (to ≡ None)
ShowsAsked now old new (Some from) to = (next : CommandsView) × (to ≡ Some next) × Obeys now old new from next

-- A node without a control can't run out of memory here.
abbrev pub ShowsAskedCut : Journal → Journal → Option CommandsView → Option CommandsView → Type 0
ShowsAskedCut old new None to = ⊥
ShowsAskedCut old new (Some from) to = (next : CommandsView) × (to ≡ Some next) × ObeysCut old new from next
