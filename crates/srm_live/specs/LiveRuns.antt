-- What a whole run of a live member comes to.
use Rattle.std.specs.Prelude.{◌≡◌, ℕ, ◌<◌, ◌≤◌, Bool, true, false, List, [], ◌∷◌, map, slice_get, Option, Some, IfSome}
use Rattle.std.specs.Bool.{OnTrue}
use Rattle.std.specs.List.{list_any}
use Rattle.srm_names.specs.declared.limits.TheConstants.{PENS}
use Rattle.srm_names.specs.declared.page_msg.PageMsg.{PageMsg}
use Rattle.srm_names.specs.Names.{first_page}
use Rattle.srm_names.specs.Histories.{IsPrefix}
use Rattle.srm_names.specs.PageFeeds.{is_close}
use Rattle.srm_pages.specs.declared.stroke.Stroke.{Stroke}
use Rattle.srm_pages.specs.Ends.{PenView}
use Rattle.srm_pages.specs.Ink.{strokes_of}
use Rattle.srm_control.specs.Ends.{ControlView, CommandsView}
use Rattle.srm_node.specs.Calls.{Calls}
use Rattle.srm_node.specs.Nodes.{NodeView}
use Rattle.srm_node.specs.Working.{SeesEach, is_stopped}
use Rattle.srm_node.specs.declared.working.Worked.{Worked}
use Rattle.srm_member.specs.WholeRuns.{IsWholeHost}
use Rattle.srm_live.specs.Asking.{Answers, AreAmong, commands_of, begins, begins_in, taken_by, answered_by}
use Rattle.srm_live.specs.Typing.{TypistView, pen_stroke, strokes_in, asked_in, SameTypist, SentAllOf, SentPrefixOf}

abbrev pub typist : PenView → ControlView → TypistView
typist pen control = record { pen = pen; control = control }

-- Of these producers, which are done, the first sent a prefix of what is typed in an input, if that is known, and all of it where that is said. The others are as they were. This became of
-- the control.
pub record HaveTyped (all : Bool) (known : Option (List ℕ)) (pens : List PenView) (control : ControlView) (first : PenView) (others : List PenView) (last : ControlView) : Type 0 where
  pub pen : PenView
  pub pens_are : pens ≡ pen ∷ others
  pub same : SameTypist (typist pen control) (typist first last)
  pub sent : SentPrefixOf known (typist pen control) (typist first last)
  pub whole : OnTrue all (SentAllOf known (typist pen control) (typist first last))

-- a control and the node's end of one are on the same two lines
abbrev pub AreOnLines : Option CommandsView → ControlView → Type 0
AreOnLines commands control = IfSome commands (λ c. (control.out ≡ c.out) × (control.back ≡ c.back))

-- what the node took are the first of a control's commands, and what the control took are the first of the node's answers
abbrev pub AreFirstOf : Option CommandsView → ControlView → Type 0
AreFirstOf commands control = IfSome commands (λ c. IsPrefix c.taken control.commanded × IsPrefix control.answers c.answered)

-- Each command that was typed, up to the one that tells the member to leave, has its answer among those of the node, in order. By these the strokes received are those that were typed, all of
-- them and in order, each on the page where who types stood by then. The node was asked to begin no other page.
pub record IsTyped (text : List ℕ) (control : Option CommandsView) (received : List Stroke) : Type 0 where
  pub answers : Answers
  pub are_given : AreAmong answers (answered_by control)
  pub asked : asked_in text ≡ commands_of answers
  pub begun : begins (taken_by control) ≤ begins_in answers
  pub drawn : strokes_of 0 received ≡ map (pen_stroke 0) (strokes_in first_page answers text)

-- what was received of the first producer is what was typed, if the input is known, and nothing was received of the others
pub record ReceivesTyped (known : Option (List ℕ)) (control : Option CommandsView) (received : List Stroke) : Type 0 where
  pub typed : IfSome known (λ text. IsTyped text control received)
  pub others : (pen : ℕ) → 0 < pen → pen < PENS → strokes_of pen received ≡ []

-- The node ran to its end and its workers took all that its journal gave. The journal's draws are the strokes received, as `keeps` says, and these are what was typed, all of it.
pub record IsWholeLiveRun {X C : Type 0} (calls : Calls X C) (turns : ℕ) (known : Option (List ℕ)) (node : NodeView X C) (took : List (List PageMsg)) : Type 0 where
  pub host : IsWholeHost calls turns node took
  pub draws : ReceivesTyped known host.last.control host.last.well.received

-- a sink stopped this worker
abbrev pub was_stopped : {L : Type 0} → Worked L → Bool
was_stopped w = is_stopped w.end

-- the sink of each slot saw the list that its worker took, to its close, each message once and in order, and never stopped it
abbrev pub SawWhole : {S : Type 0} → (S → ℕ → PageMsg → Bool → S → Type 0) → List S → List (List PageMsg) → Type 0
SawWhole {S} Sees sinks took = (slot : ℕ) (s : S) (ms : List PageMsg) → slice_get sinks slot ≡ Some s → slice_get took slot ≡ Some ms → (list_any is_close ms ≡ true) × (last : S) × SeesEach Sees slot false ms s last
