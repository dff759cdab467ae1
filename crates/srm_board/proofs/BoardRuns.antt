-- A whole run of a member with a board, put together from what its parts tell.
use Rattle.std.proofs.Common.{◌≡◌, ℕ, Bool, true, List, length, map, refl, ap, sym, ◌∙◌, subst, inl, inr, arith}
use Rattle.std.specs.Prelude.{Option, Some, None, MatchResult}
use Rattle.std.specs.List.{list_all, list_any, zip}
use Rattle.rand_pcg.specs.Lcg.{Lcg}
use Rattle.rand_pcg.specs.Pcg.{pcg64}
use Rattle.srm_names.specs.declared.limits.TheConstants.{PAGES}
use Rattle.srm_names.specs.declared.page_msg.PageMsg.{PageMsg}
use Rattle.srm_names.specs.PageFeeds.{is_close}
use Rattle.srm_pages.specs.Ends.{TapView, PenView}
use Rattle.srm_control.specs.Ends.{ControlView, new_commands}
use Rattle.srm_udp.specs.Resting.{new_rested}
use Rattle.srm_guard.specs.Seals.{SealView}
use Rattle.srm_guarded.specs.Guarding.{guarded_wire}
use Rattle.srm_options.specs.declared.node_options.NodeOptions.{NodeOptions}
use Rattle.srm_node.specs.declared.fault.NodeFault.{NodeFault}
use Rattle.srm_node.specs.declared.hosting.Hosted.{Hosted}
use Rattle.srm_node.specs.declared.hosting.NodeEnds.{NodeEnds}
use Rattle.srm_node.specs.declared.working.Worked.{Worked}
use Rattle.srm_node.specs.Calls.{Calls}
use Rattle.srm_node.specs.Nodes.{NodeView, NodeState}
use Rattle.srm_node.specs.Hosting.{Kinds, HostsWith}
use Rattle.srm_node.specs.Waits.{ChosenByWords}
use Rattle.srm_timers.specs.Seeds.{words_of}
use Rattle.srm_world.specs.Traces.{Journal}
use Rattle.srm_world.specs.RecordStarts.{RecordStart}
use Rattle.srm_record.specs.Begun.{IsRecorded}
use Rattle.srm_member.specs.declared.fault.MemberFault.{MemberFault}
use Rattle.srm_member.specs.MemberRuns.{AreBySeed}
use Rattle.srm_member.proofs.MemberRuns.{by_seed, new_journal}
use Rattle.srm_member.specs.Stations.{BeginsIn, HasNewEnds, IsNewStation}
use Rattle.srm_member.specs.Statuses.{IsRecordedEnd, IsToldOf, fault_of, fault_of_lists}
use Rattle.srm_member.specs.WholeRuns.{IsWholeHost, TakePrefixes}
use Rattle.srm_member.proofs.WholeRuns.{hosted_whole, whole_host_ends}
use Rattle.srm_member.proofs.WholeTakes.{of_lists, lists_closed}
use Rattle.srm_live.specs.LiveMembers.{MemberNode}
use Rattle.srm_live.specs.LiveStatuses.{IsWholeStatus}
use Rattle.srm_live.proofs.LiveMembers as whole
use Rattle.srm_live.proofs.LiveMembers.{told_none}
use Rattle.srm_live.proofs.Recorded as live
use Rattle.srm_board.specs.declared.board_fault.BoardFault.{BoardFault}
use Rattle.srm_board.specs.declared.board_fault.BoardFault.TheVariants.{Member, Serving, WasBefore}
use Rattle.srm_board.specs.BoardRuns.{IsBoardStation, MayHaveControl}
use Rattle.srm_board.specs.BoardStatuses.{IsWholeEnd, fault_of_end, status_of_board}

-- without a fault the node ran to its end, and its workers took all that its journal gave
pub board_run : {P L S X C F : Type 0} (calls : Calls X C) (kinds : Kinds L S) (turns : ℕ) (node : NodeView X C) (taps : List TapView) (pens : List PenView) (sinks : List S) (left : NodeEnds) (h : Hosted P L) (lacks closed : Bool) (Fails : NodeFault → Type 0) (contents : F → Option (List ℕ)) (words : Lcg) (begins : Option RecordStart) (file : Option F)
    → HasNewEnds node taps pens → length sinks ≡ PAGES → MatchResult h.end (λ _. HostsWith calls kinds node (zip taps sinks) turns left h) Fails
    → closed ≡ list_all (λ (w : Worked L). list_any is_close (kinds.entries w.list)) h.worked.items → fault_of_lists (fault_of h.end lacks) closed ≡ None → TakePrefixes h.feeds.items (map (λ (w : Worked L). w.tap) h.worked.items)
    → IsRecorded contents begins h.history.journal.entries (map (λ (w : Worked L). kinds.entries w.list) h.worked.items) file → ChosenByWords pcg64 node.journal words h.history.journal
    → (took : List (List PageMsg)) × (whole : IsWholeHost calls turns node took) × (last_file : Option F) × IsRecorded contents begins whole.last.journal.entries took last_file × ChosenByWords pcg64 node.journal words whole.last.journal
board_run {P} {L} calls kinds turns node taps pens sinks left h lacks closed Fails contents words begins file ends count ran closed_is none takes recorded chosen =
    let host : HostsWith calls kinds node (zip taps sinks) turns left h = hosted_whole h.end lacks _ _ (of_lists _ _ _ refl none) ran in
    let all : list_all (λ (w : Worked L). list_any is_close (kinds.entries w.list)) h.worked.items ≡ true = sym closed_is ∙ lists_closed _ _ _ refl none in
    let (whole, well_is, control_is, journal_is) = whole_host_ends calls kinds turns node taps pens sinks left h ends count host takes all in
    (map (λ (w : Worked L). kinds.entries w.list) h.worked.items, whole, file, subst (λ (j : Journal). IsRecorded contents begins j.entries (map (λ (w : Worked L). kinds.entries w.list) h.worked.items) file) journal_is recorded, subst (ChosenByWords pcg64 node.journal words) journal_is chosen)

-- what ended the run is told, and of a whole run what befell its record
pub of_fault : (run told : Option MemberFault) (f : MemberFault) → run ≡ Some f → told ≡ Some f → IsRecordedEnd run told
of_fault = live.of_fault

pub of_record : (run told : Option MemberFault) → run ≡ None → IsRecordedEnd None told → IsRecordedEnd run told
of_record = live.of_record

-- THE STATION

-- a node that did nothing has no control
pub no_control : (options : NodeOptions) (seal : Option SealView) (node : MemberNode) (taps : List TapView) (pens : List PenView)
    → IsNewStation options.config 0 options.guard.most_missing None (new_rested (guarded_wire options.addresses.items options.guard seal)) node taps pens → node.control ≡ None
no_control options seal node taps pens new = ap (λ (n : MemberNode). n.control) new.new.is

-- so it may have the one that it is given
pub gets_control : {W X C : Type 0} (old new : NodeState W X C) (control : ControlView) → new ≡ record old { view = record old.view { control = Some (new_commands control.out control.back) } } → MayHaveControl old.view new.view
gets_control {W} {X} {C} old new control is = (Some (new_commands control.out control.back), refl, ap (λ (n : NodeState W X C). n.view) is)

pub same_begins : {W X C : Type 0} (old new : NodeState W X C) (control : ControlView) → new ≡ record old { view = record old.view { control = Some (new_commands control.out control.back) } } → new.begins ≡ old.begins
same_begins {W} {X} {C} old new control is = ap (λ (n : NodeState W X C). n.begins) is

pub same_words : {W X C : Type 0} (old new : NodeState W X C) (control : ControlView) → new ≡ record old { view = record old.view { control = Some (new_commands control.out control.back) } } → new.words ≡ old.words
same_words {W} {X} {C} old new control is = ap (λ (n : NodeState W X C). n.words) is

-- with a control its record begins as without
pub still_begins : {F : Type 0} (contents : F → Option (List ℕ)) (file : Option F) (seed : ℕ) (first node : MemberNode) (begins now : Option RecordStart) → MayHaveControl first node → now ≡ begins → BeginsIn contents file seed first.journal.start begins → BeginsIn contents file seed node.journal.start now
still_begins contents file seed first node begins now (control, fresh, is) same began =
    subst (λ (n : MemberNode). BeginsIn contents file seed n.journal.start now) (sym is) (subst (λ (b : Option RecordStart). BeginsIn contents file seed first.journal.start b) (sym same) began)

-- and the ends of one that was given a control are new
pub board_ends : (options : NodeOptions) (seal : Option SealView) (node : MemberNode) (taps : List TapView) (pens : List PenView) → IsBoardStation options seal node taps pens → HasNewEnds node taps pens
board_ends options seal node taps pens station =
    let (control, fresh, is) = station.controlled in
    let h = station.new.ends in
    let here : HasNewEnds (record station.first { control = control }) taps pens = record { slots = h.slots; lanes = h.lanes; new_taps = h.new_taps; count = h.count; new_pens = h.new_pens } in
    subst (λ (n : MemberNode). HasNewEnds n taps pens) (sym is) here

pub board_station : (options : NodeOptions) (seal : Option SealView) (first node : MemberNode) (taps now_taps : List TapView) (pens now_pens : List PenView)
    → IsNewStation options.config 0 options.guard.most_missing None (new_rested (guarded_wire options.addresses.items options.guard seal)) first taps pens → MayHaveControl first node → now_taps ≡ taps → now_pens ≡ pens → IsBoardStation options seal node now_taps now_pens
board_station options seal first node taps now_taps pens now_pens new controlled taps_are pens_are =
    let here : IsBoardStation options seal node taps pens = record { first = first; new = new; controlled = controlled } in
    subst (λ ts. IsBoardStation options seal node ts now_pens) (sym taps_are) (subst (IsBoardStation options seal node taps) (sym pens_are) here)

-- and who did nothing yet chose no wait: all are by the random numbers of the seed
pub board_seeded : (options : NodeOptions) (seal : Option SealView) (node : MemberNode) (taps : List TapView) (pens : List PenView) (words : Lcg) (last : Journal) → IsBoardStation options seal node taps pens → words ≡ words_of options.seed → ChosenByWords pcg64 node.journal words last → AreBySeed options.seed options.config last.entries
board_seeded options seal node taps pens words last station seeded chosen =
    let (control, fresh, is) = station.controlled in
    let began = new_journal options.config 0 options.guard.most_missing None (new_rested (guarded_wire options.addresses.items options.guard seal)) station.first taps pens station.new in
    by_seed options.seed options.config node.journal last words (ap (λ (n : MemberNode). n.journal.start.config) is ∙ began.0, ap (λ (n : MemberNode). n.journal.entries) is ∙ began.1) seeded chosen

-- THE STATUS

-- a fault has a status by itself
pub never_whole : (f : MemberFault) (status : ℕ) (P : Type 0) → status ≡ status_of_board (Member f) → IsWholeStatus status → P
never_whole = whole.never_whole

five_alone : (f : BoardFault) (status : ℕ) (P : Type 0) → (f ≡ WasBefore → P) → status ≡ status_of_board f → IsWholeStatus status → P
five_alone (Member f) status P before is which = never_whole f status P is which
five_alone (Serving address cause) status P before is (inl none) = let three : status ≡ 3 = is in absurd (omega (arith, three, none))
five_alone (Serving address cause) status P before is (inr five) = let three : status ≡ 3 = is in let was : status ≡ 5 = five in absurd (omega (arith, three, was))
five_alone WasBefore status P before is which = before refl

-- so who ends with the status of a whole run had one
pub whole_by_status : (f : BoardFault) (end : Option BoardFault) (status : ℕ) (P : Type 0) → end ≡ Some f → status ≡ status_of_board f → (IsWholeEnd end → P) → IsWholeStatus status → P
whole_by_status f end status P here is whole which = five_alone f status P (λ before. whole (inr (here ∙ ap Some before))) is which

-- and no run was whole that ended with one of a member without a board
pub not_whole : (f : MemberFault) (end : Option BoardFault) (P : Type 0) → end ≡ Some (Member f) → IsWholeEnd end → P
not_whole f end P is (inl none) = let k : Some (Member f) ≡ None = sym is ∙ none in cc
not_whole f end P is (inr before) = let k : Some (Member f) ≡ Some WasBefore = sym is ∙ before in cc

end_none : (run : Option MemberFault) (was_before : Bool) → IsWholeEnd (fault_of_end run was_before) → run ≡ None
end_none None was_before whole = refl
end_none (Some f) was_before (inl none) = let k : Some (Member f) ≡ None = none in cc
end_none (Some f) was_before (inr before) = let k : Some (Member f) ≡ Some WasBefore = before in cc

-- what ended a run that ends well: nothing did
pub whole_end : (run told : Option MemberFault) (was_before : Bool) (result : Option BoardFault) → IsToldOf run told → result ≡ fault_of_end told was_before → IsWholeEnd result → run ≡ None
whole_end run told was_before result of is whole = told_none run told of (end_none told was_before (subst IsWholeEnd is whole))

-- a board that can't be served runs no member
pub not_served : (f : BoardFault) (end : Option BoardFault) (P : Type 0) → (f ≡ WasBefore → ⊥) → end ≡ Some f → IsWholeEnd end → P
not_served f end P never is (inl none) = let k : Some f ≡ None = sym is ∙ none in cc
not_served f end P never is (inr before) = let k : Some f ≡ Some WasBefore = sym is ∙ before in absurd (never cc)
