-- A new station, whose node was asked to leave.
use Rattle.std.proofs.Common.{◌≡◌, ℕ, List, length, refl, ap, sym, ◌∙◌, subst, arith}
use Rattle.std.specs.Prelude.{Option, Some, None, option_map}
use Rattle.srm_names.specs.declared.limits.TheConstants.{PAGES, PENS}
use Rattle.srm_pages.specs.Ends.{FeedView, WellView, TapView, PenView, AreNewPens}
use Rattle.srm_entries.specs.Configs.{Config}
use Rattle.srm_wire.specs.Wires.{Told}
use Rattle.srm_udp.specs.Clocks.{ClockView, NeverFalls}
use Rattle.srm_frames.specs.declared.beginning.Beginning.{Beginning}
use Rattle.srm_world.specs.declared.start.Start.{Start}
use Rattle.srm_world.specs.RecordStarts.{RecordStart}
use Rattle.srm_record.specs.Begun.{begun_with}
use Rattle.srm_node.specs.Limits.{with_most}
use Rattle.srm_node.specs.Nodes.{NodeView, NodeState, IsMadeNow, IsNewNode, moment_of}
use Rattle.srm_node.specs.Hosting.{AreEndsOfLanes}
use Rattle.srm_member.specs.Stations.{AreNewTaps, BeginsIn, IsNewStation}

-- a node that is to leave at a moment, and has a limit to what may be missing
abbrev pub as_told : {W X C : Type 0} → ℕ → Option ℕ → NodeState W X C → NodeState W X C
as_told stay most s = record s { view = record s.view { asked = Some stay; limit = with_most most s.view.limit } }

-- it was told the one, and then the other
pub told_both : {W X C : Type 0} (stay : ℕ) (most : Option ℕ) (old between new : NodeState W X C) → between ≡ record old { view = record old.view { asked = Some stay } } → new ≡ record between { view = record between.view { limit = with_most most between.view.limit } } → new ≡ as_told stay most old
told_both {W} {X} {C} stay most old between new asked limited = limited ∙ ap (λ (s : NodeState W X C). record s { view = record s.view { limit = with_most most s.view.limit } }) asked

pub new_station : {W X C : Type 0} (config : Config) (stay : ℕ) (most : Option ℕ) (feeds : List FeedView) (well : WellView) (failures : ℕ) (told : Option Told) (wire : X) (old new : NodeState W X C) (taps : List TapView) (pens : List PenView)
    → IsNewNode config feeds well failures told wire old.view → failures ≡ 0 → new ≡ as_told stay most old → length taps ≡ PAGES → AreEndsOfLanes feeds taps → AreNewTaps taps → length pens ≡ PENS → AreNewPens well.well pens → IsNewStation config stay most told wire new.view taps pens
new_station {W} {X} {C} config stay most feeds well failures told wire old new taps pens made none asked slots lanes new_taps count pens_are =
    subst (λ (s : NodeState W X C). IsNewStation config stay most told wire s.view taps pens) (sym asked) (rw made.is (record {
      new = record { made = made.made; is = rw none refl };
      asked = refl;
      limit = refl;
      ends = record { slots = slots; lanes = lanes; new_taps = new_taps; count = count; new_pens = pens_are };
    }))

-- the system's clock first tells 0
pub made_at_0 : {X : Type 0} (clock : ClockView) (n : NodeView X ClockView) → clock ≡ record { last = None } → IsMadeNow NeverFalls clock n → n.journal.start.made ≡ 0
made_at_0 clock n new made =
    let reads : NeverFalls (record { last = None }) made.told n.clock = subst (λ (c : ClockView). NeverFalls c made.told n.clock) new made.reads in
    let told : made.told ≡ 0 = reads.not_before in
    made.counts ∙ ap moment_of told

still_made : {W X C : Type 0} (made stay : ℕ) (most : Option ℕ) (old new : NodeState W X C) → old.view.journal.start.made ≡ made → new ≡ as_told stay most old → new.view.journal.start.made ≡ made
still_made {W} {X} {C} made stay most old new is asked = ap (λ (s : NodeState W X C). s.view.journal.start.made) asked ∙ is

pub station_made : {W X : Type 0} (clock : ClockView) (stay : ℕ) (most : Option ℕ) (old new : NodeState W X ClockView) → clock ≡ record { last = None } → IsMadeNow NeverFalls clock old.view → new ≡ as_told stay most old → new.view.journal.start.made ≡ 0
station_made clock stay most old new at_first made asked = still_made 0 stay most old new (made_at_0 clock old.view at_first made) asked

-- what changes in a node's view alone
pub still_begins : {W X C : Type 0} (view : NodeView X C) (words : W) (now begins : Option RecordStart) (new : NodeState W X C) → now ≡ begins → new ≡ record { view = view; words = words; begins = now } → new.begins ≡ begins
still_begins {W} {X} {C} view words now begins new is same = ap (λ (s : NodeState W X C). s.begins) same ∙ is

-- the record that a file gets begins as the node does
pub begins_here : {F X C : Type 0} (contents : F → Option (List ℕ)) (file : Option F) (b : Beginning) (config : Config) (seed stay : ℕ) (most : Option ℕ) (told : Option Told) (wire : X) (n : NodeView X C) (taps : List TapView) (pens : List PenView) (begins now : Option RecordStart)
    → begins ≡ option_map (λ f. begun_with b (contents f)) file → now ≡ begins → b.config ≡ config → b.made ≡ 0 → b.seed ≡ seed → IsNewStation config stay most told wire n taps pens → n.journal.start.made ≡ 0 → BeginsIn contents file seed n.journal.start now
begins_here contents None b config seed stay most told wire n taps pens begins now is same config_is made_is seed_is new at_0 = same ∙ is
begins_here {F} {X} {C} contents (Some file) b config seed stay most told wire n taps pens begins now is same config_is made_is seed_is new at_0 =
    let settings : n.journal.start.config ≡ config = ap (λ (v : NodeView X C). v.journal.start.config) new.new.is in
    let start : record { config = b.config; made = b.made } ≡ n.journal.start = ap (λ (c : Config). record { config = c; made = b.made }) (config_is ∙ sym settings) ∙ ap (λ (m : ℕ). record { config = n.journal.start.config; made = m }) (made_is ∙ sym at_0) in
    (begun_with b (contents file), same ∙ is, start, seed_is, refl)
