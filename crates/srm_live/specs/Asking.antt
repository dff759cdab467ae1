-- What who types asks the node for, and what it answers.
use Rattle.std.specs.Prelude.{◌≡◌, ◌⊎◌, ℕ, ◌+◌, ◌≤◌, map, Bool, true, false, List, [], ◌∷◌, ◌++◌, Option, Some, None, Result, Ok, Err, if◌then◌else◌}
use Rattle.srm_names.specs.declared.page.Page.{Page}
use Rattle.srm_names.specs.Names.{same_page}
use Rattle.srm_control.specs.declared.command.PageCommand.{PageCommand}
use Rattle.srm_control.specs.declared.command.PageCommand.TheVariants as commands
use Rattle.srm_control.specs.declared.command.PageRefusal.{PageRefusal}
use Rattle.srm_control.specs.declared.command.PageAnswer.{PageAnswer}
use Rattle.srm_control.specs.Ends.{ControlView, CommandsView}
use Rattle.srm_live.specs.declared.command.Command.TheVariants.{Show, Begin}
use Rattle.srm_live.specs.declared.typed.Typed.{Typed}
use Rattle.srm_live.specs.declared.typed.Typed.TheVariants.{Order}

-- answers of a node to commands about its pages, in order
abbrev pub Answers : Type 0
Answers = List PageAnswer

abbrev pub answer_to : PageCommand → Result Page PageRefusal → PageAnswer
answer_to command outcome = record { command = command; outcome = outcome }

abbrev pub same_command : PageCommand → PageCommand → Bool
same_command (commands.Show a) (commands.Show b) = same_page a b
same_command commands.Begin commands.Begin = true
same_command _ _ = false

-- what a line asks the node for: to show a page, or to begin one
abbrev pub asked_by : Typed → Option PageCommand
asked_by (Order (Some (Show page))) = Some (commands.Show page)
asked_by (Order (Some Begin)) = Some commands.Begin
asked_by _ = None

-- the same as a list
abbrev pub asked_list : Option PageCommand → List PageCommand
asked_list None = []
asked_list (Some command) = command ∷ []

-- what these are the answers to, in order
abbrev pub commands_of : Answers → List PageCommand
commands_of answers = map (λ (a : PageAnswer). a.command) answers

-- the page where who types stands behind an answer: the one that is shown, or the one of before
abbrev pub page_after : Page → Result Page PageRefusal → Page
page_after page (Ok shown) = shown
page_after page (Err refusal) = page

-- where who types stands, and what the node answers from there on
pub record Place : Type 0 where
  pub page : Page
  pub answers : Answers

-- Behind a command who types stands where its answer says. Without an answer to this command they go on nowhere.
abbrev pub place_answered : PageCommand → Page → Answers → Option Place
place_answered command page [] = None
place_answered command page (a ∷ answers) = if same_command a.command command then Some (record { page = page_after page a.outcome; answers = answers }) else None

abbrev pub place_asked : Option PageCommand → Place → Option Place
place_asked None place = Some place
place_asked (Some command) place = place_answered command place.page place.answers

-- the place behind a line
abbrev pub place_after : Typed → Place → Option Place
place_after typed place = place_asked (asked_by typed) place

-- these stand among all, each once and in order
abbrev pub AreAmong : Answers → Answers → Type 0
AreAmong [] all = Unit {0}
AreAmong (a ∷ some) [] = ⊥
AreAmong (a ∷ some) (b ∷ all) = ((a ≡ b) × AreAmong some all) ⊎ AreAmong (a ∷ some) all

-- how many of these begin a page
abbrev pub begins : List PageCommand → ℕ
begins [] = 0
begins (commands.Show page ∷ cs) = begins cs
begins (commands.Begin ∷ cs) = begins cs + 1

abbrev pub begins_in : Answers → ℕ
begins_in answers = begins (commands_of answers)

-- a control took more answers, and among them are these
pub record Takes (some : Answers) (old new : ControlView) : Type 0 where
  pub took : Answers
  pub is : new ≡ record old { answers = old.answers ++ took; waiting = new.waiting }
  pub among : AreAmong some took

-- A control sent commands and took answers, and among these are some. The commands begin no more pages than these answers are of, or so many more.
pub record HearsBut (more : ℕ) (some : Answers) (old new : ControlView) : Type 0 where
  pub sent : List PageCommand
  pub took : Answers
  pub is : new ≡ record old { commanded = old.commanded ++ sent; answers = old.answers ++ took; waiting = new.waiting }
  pub among : AreAmong some took
  pub begun : begins sent ≤ begins_in some + more

abbrev pub Hears : Answers → ControlView → ControlView → Type 0
Hears some old new = HearsBut 0 some old new

-- the last command may have no answer yet
abbrev pub HearsLast : Answers → ControlView → ControlView → Type 0
HearsLast some old new = HearsBut 1 some old new

-- the commands that a node took of its control, if it has one, and what it answered
abbrev pub taken_by : Option CommandsView → List PageCommand
taken_by None = []
taken_by (Some c) = c.taken

abbrev pub answered_by : Option CommandsView → Answers
answered_by None = []
answered_by (Some c) = c.answered
