-- What contracts see of the two ends of a control.
use Rattle.std.specs.Prelude.{◌≡◌, ℕ, ◌+◌, ◌%◌, ◌^◌, Bool, true, false, List, [], ◌∷◌, ◌++◌, Option, Some, None, Result, MatchBool}
use Rattle.atomic_table.specs.Seated.{TableId}
use Rattle.atomic_table.specs.declared.badge.Badge.{Badge}
use Rattle.crossbeam_channel.specs.declared.flavors.array.Key.{Key}
use Rattle.crossbeam_channel.specs.Claims.{Pass}
use Rattle.srm_names.specs.declared.page.Page.{Page}
use Rattle.srm_control.specs.declared.command.PageCommand.{PageCommand}
use Rattle.srm_control.specs.declared.command.PageRefusal.{PageRefusal}
use Rattle.srm_control.specs.declared.command.PageAnswer.{PageAnswer}
use Rattle.srm_control.specs.declared.line.LineView.{LineView}

-- which line it is, by the two tables of its channel
pub record LineId (T : Type 0) : Type 0 where
  pub board : TableId
  pub messages : Badge (Key T)

abbrev pub line_of : {T : Type 0} → Pass T (LineView T) → LineId T
line_of p = record { board = p.table_id; messages = p.me.0.of }

-- what a control commanded, the answers that it took, how many of its commands have none yet, and its two lines
pub record ControlView : Type 0 where
  pub commanded : List PageCommand
  pub answers : List PageAnswer
  pub waiting : ℕ
  pub out : LineId PageCommand
  pub back : LineId PageAnswer

abbrev pub new_control : LineId PageCommand → LineId PageAnswer → ControlView
new_control out back = record { commanded = []; answers = []; waiting = 0; out = out; back = back }

-- of the node's end: the commands that it took, the one that it has yet to answer, what it answered, how often it looked for a command, modulo 2^64, whether the
-- control was found gone, and the two lines
pub record CommandsView : Type 0 where
  pub taken : List PageCommand
  pub hand : Option PageCommand
  pub answered : List PageAnswer
  pub looks : ℕ
  pub gone : Bool
  pub out : LineId PageCommand
  pub back : LineId PageAnswer

abbrev pub new_commands : LineId PageCommand → LineId PageAnswer → CommandsView
new_commands out back = record { taken = []; hand = None; answered = []; looks = 0; gone = false; out = out; back = back }

-- behind one look more
abbrev pub looked_once : CommandsView → CommandsView
looked_once d = record d { looks = (d.looks + 1) % 2 ^ 64 }

-- with the command that was found, if one was: it is taken, and in hand
abbrev pub with_found : Option PageCommand → CommandsView → CommandsView
with_found None d = d
with_found (Some command) d = record d { taken = d.taken ++ command ∷ []; hand = Some command }

-- A look finds the command in hand, or else the next one, if there is one.
abbrev pub FindsBehind : Option PageCommand → Option PageCommand → CommandsView → CommandsView → Type 0
FindsBehind (Some command) found old new = (found ≡ Some command) × (new ≡ looked_once old)
FindsBehind None found old new = new ≡ with_found found (looked_once old)

abbrev pub Finds : Option PageCommand → CommandsView → CommandsView → Type 0
Finds found old new = FindsBehind old.hand found old new

-- The command in hand is answered, unless the control is gone, and none is in hand then.
abbrev pub AnswersThat : Option PageCommand → Result Page PageRefusal → CommandsView → CommandsView → Type 0
AnswersThat None outcome old new = new ≡ old
AnswersThat (Some command) outcome old new = MatchBool new.gone
    (new ≡ record old { hand = None; gone = true })
    (new ≡ record old { hand = None; gone = false; answered = old.answered ++ record { command = command; outcome = outcome } ∷ [] })

abbrev pub Answers : Result Page PageRefusal → CommandsView → CommandsView → Type 0
Answers outcome old new = AnswersThat old.hand outcome old new
