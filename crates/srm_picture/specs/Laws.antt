-- What holds of all pictures: the entries decide what they show.
use Rattle.std.specs.Prelude.{◌≡◌, List, Option, Some}
use Rattle.srm_entries.specs.declared.entry.Entry.{Entry}
use Rattle.srm_picture.specs.declared.bracket.Bracket.{Bracket}
use Rattle.srm_picture.specs.declared.bracket.BracketEnd.{BracketEnd}
use Rattle.srm_picture.specs.declared.action.LocalAction.{LocalAction}
use Rattle.srm_picture.specs.declared.action.LocalActionKind.{LocalActionKind}
use Rattle.srm_picture.specs.OneThat.{IsOneThat}
use Rattle.srm_picture.specs.Brackets.{Timer, EndIs, AreBrackets}
use Rattle.srm_picture.specs.Actions.{Shows, AreActions}

-- a timer has exactly one end, or none
abbrev pub OneEndLaw : Type 0
OneEndLaw = (es : List Entry) (t : Timer) → (end : Option BracketEnd) × EndIs es t end × ((other : Option BracketEnd) → EndIs es t other → other ≡ end)

-- an entry shows exactly one kind, or none
abbrev pub OneKindLaw : Type 0
OneKindLaw = (e : Entry) → (kind : Option LocalActionKind) × IsOneThat (Shows e) kind × ((other : LocalActionKind) → Shows e other → kind ≡ Some other)

-- of given entries exactly one list of brackets is right
abbrev pub OneBracketsLaw : Type 0
OneBracketsLaw = (es : List Entry) → (bs : List Bracket) × AreBrackets es bs × ((others : List Bracket) → AreBrackets es others → others ≡ bs)

-- and exactly one list of local actions
abbrev pub OneActionsLaw : Type 0
OneActionsLaw = (es : List Entry) → (actions : List LocalAction) × AreActions es actions × ((others : List LocalAction) → AreActions es others → others ≡ actions)
