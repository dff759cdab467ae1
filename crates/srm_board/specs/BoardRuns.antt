-- What a whole run of a member with a board comes to.
use Rattle.std.specs.Prelude.{◌≡◌, ℕ, List, Option, None, IfSome, is_some}
use Rattle.srm_names.specs.declared.page_msg.PageMsg.{PageMsg}
use Rattle.srm_pages.specs.Ends.{TapView, PenView}
use Rattle.srm_control.specs.Ends.{CommandsView, new_commands}
use Rattle.srm_udp.specs.Resting.{new_rested}
use Rattle.srm_guard.specs.Seals.{SealView}
use Rattle.srm_guarded.specs.Guarding.{IsSealBy, guarded_wire}
use Rattle.srm_guarded.specs.Keying.{IsKeyRead}
use Rattle.srm_options.specs.declared.node_options.NodeOptions.{NodeOptions}
use Rattle.srm_node.specs.Nodes.{NodeView}
use Rattle.srm_member.specs.MemberRuns.{AreBySeed, IsStoredIf, member_calls}
use Rattle.srm_member.specs.Stations.{IsNewStation}
use Rattle.srm_member.specs.WholeRuns.{IsWholeHost}
use Rattle.srm_live.specs.LiveMembers.{MemberNode}

-- A node is as it was before it was given a control, which told it nothing yet. Where memory was out for one it has none.
abbrev pub MayHaveControl : {X C : Type 0} → NodeView X C → NodeView X C → Type 0
MayHaveControl old new = (control : Option CommandsView) × IfSome control (λ c. c ≡ new_commands c.out c.back) × (new ≡ record old { control = control })

-- A node of a member with these options did nothing yet, over its own wire with this seal, and is to leave as soon as its producers are done. It may have a control.
pub record IsBoardStation (options : NodeOptions) (seal : Option SealView) (node : MemberNode) (taps : List TapView) (pens : List PenView) : Type 0 where
  pub first : MemberNode
  pub new : IsNewStation options.config 0 options.guard.most_missing None (new_rested (guarded_wire options.addresses.items options.guard seal)) first taps pens
  pub controlled : MayHaveControl first node

-- Such a node ran to its end, and its page workers took all that its journal gave. Its random numbers are those of the options' seed. The file that was opened for its record, if one was, has all of it.
pub record RunsWithFile {F : Type 0} (contents : F → Option (List ℕ)) (opened : Option F) (options : NodeOptions) (seal : Option SealView) : Type 0 where
  pub node : MemberNode
  pub taps : List TapView
  pub pens : List PenView
  pub station : IsBoardStation options seal node taps pens
  pub took : List (List PageMsg)
  pub whole : IsWholeHost member_calls options.turns node took
  pub seeded : AreBySeed options.seed options.config whole.last.journal.entries
  pub stored : IsStoredIf contents (is_some opened) options.seed node.journal.start whole.last.journal.entries took

-- Such a node has a record if its options name a file for it.
abbrev pub RunsWithSeal : {F : Type 0} → (F → Option (List ℕ)) → NodeOptions → Option SealView → Type 0
RunsWithSeal {F} contents options seal = (opened : Option F) × (is_some opened ≡ is_some options.«record») × RunsWithFile contents opened options seal

-- It has a new seal by this key, if there is one.
abbrev pub RunsWithKey : {F : Type 0} → (F → Option (List ℕ)) → NodeOptions → Option (List ℕ) → Type 0
RunsWithKey contents options key = (seal : Option SealView) × IsSealBy key options.config.me seal × RunsWithSeal contents options seal

-- And its key is all of a file if its options name one.
abbrev pub IsWholeBoardRun : {F : Type 0} → (F → Option (List ℕ)) → (F → Option (List ℕ)) → NodeOptions → Type 0
IsWholeBoardRun contents remaining options = (key : Option (List ℕ)) × (is_some key ≡ is_some options.guard.key) × IsKeyRead remaining options.guard.key key × RunsWithKey contents options key
