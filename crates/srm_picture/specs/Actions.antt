-- Local actions: what happens at one member alone.
use Rattle.std.specs.Prelude.{◌≡◌, ◌↔◌, ℕ, nat_lt, Bool, true, false, List, ◌++◌, length, map, slice_get, Contains, Option, Some, option_map, option_to_list}
use Rattle.srm_names.specs.declared.page.Page.{Page}
use Rattle.srm_names.specs.declared.drawop.Drawop.{Drawop}
use Rattle.srm_names.specs.declared.page_msg.PageMsg.{PageMsg}
use Rattle.srm_names.specs.declared.page_msg.PageMsg.TheVariants.{Draw}
use Rattle.srm_names.specs.Names.{ascending}
use Rattle.srm_entries.specs.declared.entry.Entry.{Entry}
use Rattle.srm_entries.specs.declared.entry.Input.TheVariants.{Drew as Draws, Ticked, Showed, AskedLeave, Gave as Gives, Took as Takes}
use Rattle.srm_entries.specs.declared.entry.Verdict.TheVariants.{Refused}
use Rattle.srm_entries.specs.declared.fault.AgentFault.{AgentFault}
use Rattle.srm_entries.specs.Entries.{done}
use Rattle.srm_entries.specs.Effects.{becomes_gone}
use Rattle.srm_picture.specs.declared.action.LocalActionKind.{LocalActionKind}
use Rattle.srm_picture.specs.declared.action.LocalActionKind.TheVariants.{Drew, Gave, Took, Other, Gone}
use Rattle.srm_picture.specs.declared.action.LocalAction.{LocalAction}
use Rattle.srm_picture.specs.ByEntry.{point_of}
use Rattle.srm_picture.specs.OneThat.{IsOneThat}

abbrev pub is_drawop : PageMsg → Bool
is_drawop (Draw drawop) = true
is_drawop _ = false

-- the kind of a message that is given or taken: this one if it is a drawop
abbrev pub message_kind : LocalActionKind → PageMsg → LocalActionKind
message_kind kind (Draw drawop) = kind
message_kind kind _ = Other

-- The kind of local action that an entry shows: a drawop was drawn, given or taken; the member sent its farewell and is gone; another
-- message was given or taken, the member showed a page or began to leave, or a call failed.
pub data Shows (e : Entry) : LocalActionKind → Type 0 where
  drew : (page : Page) (body : List ℕ) → done e ≡ Some (Draws page body) → Shows e Drew
  gave : (slot : ℕ) (drawop : Drawop) → done e ≡ Some (Gives slot) → e.effects.message ≡ Some (Draw drawop) → Shows e Gave
  took : (slot : ℕ) (drawop : Drawop) → done e ≡ Some (Takes slot) → e.effects.message ≡ Some (Draw drawop) → Shows e Took
  went : done e ≡ Some Ticked → becomes_gone e.effects ≡ true → Shows e Gone
  gave_other : (slot : ℕ) (message : PageMsg) → done e ≡ Some (Gives slot) → e.effects.message ≡ Some message → is_drawop message ≡ false → Shows e Other
  took_other : (slot : ℕ) (message : PageMsg) → done e ≡ Some (Takes slot) → e.effects.message ≡ Some message → is_drawop message ≡ false → Shows e Other
  showed : (page : Page) → done e ≡ Some (Showed page) → Shows e Other
  asked : done e ≡ Some AskedLeave → Shows e Other
  refused : (fault : AgentFault) → e.verdict ≡ Refused fault → Shows e Other

-- the action of this kind, after all datagrams that its entry sent
abbrev pub action : ℕ × Entry → LocalActionKind → LocalAction
action r kind = record { at = point_of r; nth = length r.1.effects.outs; kind = kind }

-- the action is of an entry that shows its kind
pub record IsAction (es : List Entry) (a : LocalAction) : Type 0 where
  pub entry : Entry
  pub there : slice_get es a.at.entry ≡ Some entry
  pub shows : Shows entry a.kind
  pub is : a ≡ action (a.at.entry, entry) a.kind

-- the actions with that of one more entry, if it shows a kind
pub record AddsAction (index : ℕ) (e : Entry) (old new : List LocalAction) : Type 0 where
  pub kind : Option LocalActionKind
  pub shown : IsOneThat (Shows e) kind
  pub new_are : new ≡ old ++ option_to_list (option_map (action (index, e)) kind)

abbrev pub index_of : LocalAction → ℕ
index_of a = a.at.entry

-- all actions of the entries and no others, in order of the entries, at most one of each
pub record AreActions (es : List Entry) (actions : List LocalAction) : Type 0 where
  pub in_order : ascending nat_lt (map index_of actions) ≡ true
  pub exact : (a : LocalAction) → Contains actions a ↔ IsAction es a
