-- What one tab is told, in all its frames.
use Rattle.std.specs.Prelude.{◌≡◌, ℕ, ◌+◌, ◌==◌, ◌&&◌, nat_le, Bool, List, [], ◌∷◌, ◌++◌, length, if◌then◌else◌, ⊤}
use Rattle.srm_names.specs.Histories.{IsPrefix}
use Rattle.srm_slate.specs.declared.cursor.Cursor.{Cursor}
use Rattle.srm_slate.specs.declared.record.TheConstants.{TOLD}
use Rattle.srm_slate.specs.declared.taken.Taken.{Taken}
use Rattle.srm_slate.specs.RecordView.{RecordView}
use Rattle.srm_slate.specs.Slates.{told_from}

-- A frame for each tab that is at `before`, made when the slate showed these messages. Then the tab is at `after`.
pub record SheetView : Type 0 where
  pub before : Cursor
  pub after : Cursor
  pub shown : List Taken
  pub has_more : Bool

-- A tab that had so many messages when it came, where it is now, and the frames that it was told, oldest first.
pub record TabView : Type 0 where
  pub first : ℕ
  pub at : Cursor
  pub frames : List SheetView

-- the messages of a frame: the next ones of those that the slate showed
abbrev pub told : SheetView → List Taken
told sheet = told_from sheet.before.from sheet.shown

-- the messages of all frames, one after another
abbrev pub all_told : List SheetView → List Taken
all_told [] = []
all_told (sheet ∷ sheets) = told sheet ++ all_told sheets

-- A frame is made of what the slate shows, and its end is as many messages later as it has. It has as many as a frame may have exactly where it says that there may be more.
pub record IsSheetOf (at : Cursor) (slate : RecordView) (sheet : SheetView) : Type 0 where
  pub before : sheet.before ≡ at
  pub shown : sheet.shown ≡ slate.taken
  pub from : sheet.after.from ≡ at.from + length (told sheet)
  pub seen : sheet.after.seen ≡ slate.happenings.count
  pub has_more : sheet.has_more ≡ nat_le TOLD (length (told sheet))

-- the tab is told a frame
abbrev pub told_sheet : SheetView → TabView → TabView
told_sheet sheet tab = record tab { at = sheet.after; frames = tab.frames ++ sheet ∷ [] }

-- the frame is for where the tab is
abbrev pub is_for : SheetView → TabView → Bool
is_for sheet tab = tab.at.from == sheet.before.from && tab.at.seen == sheet.before.seen

-- a tab is told a frame that is for where it is, and no other
abbrev pub told_if : SheetView → TabView → TabView
told_if sheet tab = if is_for sheet tab then told_sheet sheet tab else tab

-- each frame begins where the one before ended, the first at so many messages
abbrev pub Follow : ℕ → List SheetView → Type 0
Follow from [] = ⊤
Follow from (sheet ∷ sheets) = (sheet.before.from ≡ from) × Follow (from + length (told sheet)) sheets

-- whenever a frame was made, the slate showed a prefix of these messages
abbrev pub AreOf : List Taken → List SheetView → Type 0
AreOf taken [] = ⊤
AreOf taken (sheet ∷ sheets) = IsPrefix sheet.shown taken × AreOf taken sheets

-- Whoever came with a prefix of what was taken, and puts behind it what all the frames told, has a prefix of it: each message once, and in order.
abbrev pub TellsPrefix : Type 0
TellsPrefix = (tab : TabView) (had taken : List Taken) → length had ≡ tab.first → IsPrefix had taken → Follow tab.first tab.frames → AreOf taken tab.frames → IsPrefix (had ++ all_told tab.frames) taken
