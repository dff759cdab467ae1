-- What a whole run of a member comes to: what its workers took, back to what the journal gave, and what was drawn, back to what was dealt to its producers.
use Rattle.std.specs.Prelude.{◌≡◌, ℕ, ◌<◌, Bool, List, map, length, slice_get, Some}
use Rattle.srm_names.specs.declared.limits.TheConstants.{PAGES, PENS}
use Rattle.srm_names.specs.declared.page_msg.PageMsg.{PageMsg}
use Rattle.srm_names.specs.Histories.{IsPrefix}
use Rattle.srm_pages.specs.declared.stroke.Stroke.{Stroke}
use Rattle.srm_pages.specs.Ends.{FeedView, TapView, PenView}
use Rattle.srm_pages.specs.Ink.{strokes_of}
use Rattle.srm_entries.specs.Giving.{given}
use Rattle.srm_node.specs.Calls.{Calls}
use Rattle.srm_node.specs.Nodes.{NodeView, NodeKeepsLists}
use Rattle.srm_node.specs.Turns.{RunsToEnd}
use Rattle.srm_node.specs.Working.{SeesEach}
use Rattle.srm_member.specs.Strokes.{stroke_of}

-- of each slot, what its tap took is a prefix of what its feed put
abbrev pub TakePrefixes : List FeedView → List TapView → Type 0
TakePrefixes feeds taps = (slot : ℕ) (f : FeedView) (t : TapView) → slice_get feeds slot ≡ Some f → slice_get taps slot ≡ Some t → IsPrefix t.taken f.put

-- what was received of a producer is what it sent
abbrev pub IsReceivedOf : List Stroke → PenView → Type 0
IsReceivedOf received p = strokes_of p.number received ≡ p.sent

-- The node ran to its end, and these are the lists of its workers by slot: each is what the journal gave in that slot, all of it.
pub record IsWholeHost {X C : Type 0} (calls : Calls X C) (turns : ℕ) (node : NodeView X C) (took : List (List PageMsg)) : Type 0 where
  pub last : NodeView X C
  pub runs : RunsToEnd calls turns node last
  pub keeps : NodeKeepsLists last
  pub slots : length took ≡ PAGES
  pub takes : (slot : ℕ) (ms : List PageMsg) → slice_get took slot ≡ Some ms → ms ≡ given last.journal.entries slot

-- the sink of each slot saw the list that its worker took, each message once and in order, and may have stopped it at the last
abbrev pub SawEach : {S : Type 0} → (S → ℕ → PageMsg → Bool → S → Type 0) → List S → List (List PageMsg) → Type 0
SawEach {S} Sees sinks took = (slot : ℕ) (s : S) (ms : List PageMsg) → slice_get sinks slot ≡ Some s → slice_get took slot ≡ Some ms → (last : S) × (stopped : Bool) × SeesEach Sees slot stopped ms s last

-- And its journal's draws are the strokes received and no others, as `keeps` says: of each producer, the strokes that were dealt to it, all of them and in order.
pub record IsWholeRun {X C : Type 0} (calls : Calls X C) (turns : ℕ) (dealt : List (List (List ℕ))) (node : NodeView X C) (took : List (List PageMsg)) : Type 0 where
  pub host : IsWholeHost calls turns node took
  pub draws : (pen : ℕ) (bodies : List (List ℕ)) → pen < PENS → slice_get dealt pen ≡ Some bodies → strokes_of pen host.last.well.received ≡ map (stroke_of pen) bodies
