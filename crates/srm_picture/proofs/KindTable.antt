-- The kind of local action that an entry shows, case by case.
use Rattle.std.specs.Prelude.{ℕ, Bool, List, Option, Some, None, option_map, option_to_list, if◌then◌else◌}
use Rattle.srm_names.specs.declared.page_msg.PageMsg.{PageMsg}
use Rattle.srm_entries.specs.declared.entry.Entry.{Entry}
use Rattle.srm_entries.specs.declared.entry.Effects.{Effects}
use Rattle.srm_entries.specs.declared.entry.Input.{Input}
use Rattle.srm_entries.specs.declared.entry.Input.TheVariants.{Drew as Draws, Ticked, Showed, AskedLeave, Gave as Gives, Took as Takes}
use Rattle.srm_entries.specs.declared.entry.Verdict.{Verdict}
use Rattle.srm_entries.specs.declared.entry.Verdict.TheVariants.{Done, Refused}
use Rattle.srm_entries.specs.Effects.{becomes_gone}
use Rattle.srm_picture.specs.declared.action.LocalActionKind.{LocalActionKind}
use Rattle.srm_picture.specs.declared.action.LocalActionKind.TheVariants.{Drew, Gave, Took, Other, Gone}
use Rattle.srm_picture.specs.declared.action.LocalAction.{LocalAction}
use Rattle.srm_picture.specs.Actions.{action, message_kind}

abbrev pub option_kind : LocalActionKind → Option PageMsg → Option LocalActionKind
option_kind kind message = option_map (message_kind kind) message

abbrev pub gone_kind : Bool → Option LocalActionKind
gone_kind gone = if gone then Some Gone else None

abbrev pub farewell_kind : Effects → Option LocalActionKind
farewell_kind f = gone_kind (becomes_gone f)

abbrev pub done_kind : Input → Effects → Option LocalActionKind
done_kind (Draws page body) f = Some Drew
done_kind (Gives slot) f = option_kind Gave f.message
done_kind (Takes slot) f = option_kind Took f.message
done_kind (Showed page) f = Some Other
done_kind AskedLeave f = Some Other
done_kind Ticked f = farewell_kind f
done_kind _ f = None

abbrev pub kind_for : Verdict → Input → Effects → Option LocalActionKind
kind_for Done input f = done_kind input f
kind_for (Refused fault) input f = Some Other
kind_for _ input f = None

abbrev pub action_kind : Entry → Option LocalActionKind
action_kind e = kind_for e.verdict e.input e.effects

abbrev pub actions_at : ℕ × Entry → List LocalAction
actions_at r = option_to_list (option_map (action r) (action_kind r.1))
