-- What a live member comes to that is run by its options.
use Rattle.std.specs.Prelude.{◌≡◌, ℕ, Bool, List, length, All, Option, Some, None, is_some}
use Rattle.srm_names.specs.declared.limits.TheConstants.{PAGES}
use Rattle.srm_names.specs.declared.page_msg.PageMsg.{PageMsg}
use Rattle.srm_pages.specs.Ends.{TapView, PenView}
use Rattle.rand_pcg.specs.Lcg.{Lcg}
use Rattle.rand_pcg.specs.Pcg.{pcg64}
use Rattle.srm_control.specs.Ends.{CommandsView, new_commands}
use Rattle.srm_udp.specs.Clocks.{ClockView}
use Rattle.srm_udp.specs.Resting.{RestedView, new_rested}
use Rattle.srm_udp.specs.Udp.{UdpView}
use Rattle.srm_guard.specs.Seals.{SealView}
use Rattle.srm_guard.specs.Guards.{GuardView}
use Rattle.srm_guarded.specs.Guarding.{IsSealBy, guarded_wire}
use Rattle.srm_guarded.specs.Keying.{IsKeyRead}
use Rattle.srm_options.specs.declared.node_options.NodeOptions.{NodeOptions}
use Rattle.srm_node.specs.Calls.{Calls}
use Rattle.srm_node.specs.Nodes.{NodeView}
use Rattle.srm_node.specs.Waits.{ChosenByWords}
use Rattle.srm_world.specs.RecordStarts.{RecordStart}
use Rattle.srm_record.specs.Begun.{IsRecorded}
use Rattle.srm_member.specs.MemberRuns.{AreBySeed, IsStoredIf, member_calls}
use Rattle.srm_member.specs.Stations.{IsNewStation}
use Rattle.srm_live.specs.LiveLines.{PrintingView, PrintsLine, PrintedEach, new_printing}
use Rattle.srm_live.specs.LiveRuns.{IsWholeLiveRun, SawWhole}

abbrev pub MemberNode : Type 0
MemberNode = NodeView (RestedView (GuardView UdpView)) ClockView

-- A node got a control and ran to its end, as did its workers and the producer that drew what was typed. These sinks saw all that the workers took. The file of its record, if it has one,
-- has all of it. The node's random numbers chose its waits.
pub record LivesFrom {X C S F : Type 0} (calls : Calls X C) (Sees : S → ℕ → PageMsg → Bool → S → Type 0) (contents : F → Option (List ℕ)) (turns : ℕ) (known : Option (List ℕ)) (node : NodeView X C) (words : Lcg) (begins : Option RecordStart) (sinks : List S) : Type 0 where
  pub commands : CommandsView
  pub fresh : commands ≡ new_commands commands.out commands.back
  pub took : List (List PageMsg)
  pub whole : IsWholeLiveRun calls turns known (record node { control = Some commands }) took
  pub saw : SawWhole Sees sinks took
  pub file : Option F
  pub recorded : IsRecorded contents begins whole.host.last.journal.entries took file
  pub chosen : ChosenByWords pcg64 node.journal words whole.host.last.journal

-- A member with these options ran so over its own wire, with a key if they name a file of one, which is all of it, and a new seal by the key. It was to leave as soon as its producers were done, and was none before. Its
-- sinks printed the lines of all that its workers took. Its random numbers are those of the options' seed. Its record is stored, if they name a file for it.
pub record LivesWith {F : Type 0} (contents remaining : F → Option (List ℕ)) (options : NodeOptions) (known : Option (List ℕ)) (sinks : List PrintingView) : Type 0 where
  pub key : Option (List ℕ)
  pub keyed : is_some key ≡ is_some options.guard.key
  pub read : IsKeyRead remaining options.guard.key key
  pub seal : Option SealView
  pub sealed : IsSealBy key options.config.me seal
  pub node : MemberNode
  pub taps : List TapView
  pub pens : List PenView
  pub new : IsNewStation options.config 0 options.guard.most_missing None (new_rested (guarded_wire options.addresses.items options.guard seal)) node taps pens
  pub words : Lcg
  pub begins : Option RecordStart
  pub lives : LivesFrom member_calls PrintsLine contents options.turns known node words begins sinks
  pub printed : PrintedEach sinks lives.took
  pub seeded : AreBySeed options.seed options.config lives.whole.host.last.journal.entries
  pub stored : IsStoredIf contents (is_some options.«record») options.seed node.journal.start lives.whole.host.last.journal.entries lives.took

-- And its sinks, one for each page slot, had printed nothing before.
pub record LivesWhole {F : Type 0} (contents remaining : F → Option (List ℕ)) (options : NodeOptions) (known : Option (List ℕ)) : Type 0 where
  pub sinks : List PrintingView
  pub count : length sinks ≡ PAGES
  pub new : All (λ (s : PrintingView). s ≡ new_printing options.names options.config.me) sinks
  pub with_these : LivesWith contents remaining options known sinks
