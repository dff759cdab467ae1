-- The lines behind a member's calls: what its page workers took, and that this is all.
use Rattle.std.specs.Prelude.{ℕ, ◌==◌, List, map, if◌then◌else◌, Option, Some, None, Vec}
use Rattle.std.specs.List.{filter_map, flat_map, enumerate_from}
use Rattle.std.specs.Global.{Global}
use denote.Ref.{Bor}
use Rattle.srm_names.specs.declared.limits.TheConstants.{PAGES}
use Rattle.srm_names.specs.declared.page_msg.PageMsg.{PageMsg}
use Rattle.srm_names.specs.Histories.{count_up}
use Rattle.srm_frames.specs.declared.line.Line.{Line}
use Rattle.srm_frames.specs.declared.line.Call.{Call}
use Rattle.srm_frames.specs.declared.line.Call.TheVariants.{Took, Ended}

-- what was taken in each slot
abbrev pub taken_in : List (Vec PageMsg Global) → List (List PageMsg)
taken_in lists = map (λ list. list.items) lists

-- the same, of lists that are lent
abbrev pub lent : List (Bor (List PageMsg)) → List (List PageMsg)
lent lists = map (λ (list : Bor (List PageMsg)). list.now) lists

abbrev pub take_at : ℕ → ℕ → PageMsg → Line
take_at last slot message = record { moment = last; call = Took slot message }

-- what was taken in a slot, in order, at the last moment in the record
abbrev pub slot_lines : ℕ → ℕ → List PageMsg → List Line
slot_lines last slot messages = map (take_at last slot) messages

abbrev pub listed_lines : ℕ → ℕ × List PageMsg → List Line
listed_lines last listed = slot_lines last listed.0 listed.1

-- what was taken, slot by slot
abbrev pub takes_at : ℕ → List (List PageMsg) → List Line
takes_at last lists = flat_map (listed_lines last) (enumerate_from 0 lists)

abbrev pub end_at : ℕ → Line
end_at last = record { moment = last; call = Ended }

-- what a line says was taken in a slot
abbrev pub took_in : ℕ → Call → Option PageMsg
took_in slot (Took other message) = if other == slot then Some message else None
took_in slot _ = None

-- what lines say was taken in a slot, in order
abbrev pub list_in : List Line → ℕ → List PageMsg
list_in lines slot = filter_map (λ (l : Line). took_in slot l.call) lines

-- the same, slot by slot
abbrev pub lists_in : List Line → List (List PageMsg)
lists_in lines = map (list_in lines) (count_up 0 PAGES)
