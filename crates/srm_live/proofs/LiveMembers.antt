-- A live member's run by its options, put together from what its parts tell.
use Rattle.std.proofs.Common.{◌≡◌, ℕ, Bool, true, false, List, length, All, refl, ap, sym, ◌∙◌, subst, inl, inr, arith}
use Rattle.std.specs.Prelude.{Option, Some, None, is_some}
use Rattle.srm_names.specs.declared.limits.TheConstants.{PAGES}
use Rattle.srm_names.specs.declared.page_msg.PageMsg.{PageMsg}
use Rattle.srm_names.specs.PageFeeds.{is_page_feed}
use Rattle.srm_pages.specs.Ends.{TapView, PenView}
use Rattle.rand_pcg.specs.Lcg.{Lcg}
use Rattle.rand_pcg.specs.Pcg.{pcg64}
use Rattle.srm_control.specs.Ends.{ControlView, new_commands}
use Rattle.srm_udp.specs.Resting.{new_rested}
use Rattle.srm_guard.specs.Seals.{SealView}
use Rattle.srm_guarded.specs.Guarding.{IsSealBy, guarded_wire}
use Rattle.srm_guarded.specs.Keying.{IsKeyRead}
use Rattle.srm_options.specs.declared.node_options.NodeOptions.{NodeOptions}
use Rattle.srm_node.specs.Calls.{Calls}
use Rattle.srm_node.specs.Nodes.{NodeState, NodeView}
use Rattle.srm_node.specs.Waits.{ChosenByWords}
use Rattle.srm_timers.specs.Seeds.{words_of}
use Rattle.srm_script.specs.declared.fault.ScriptFault.{ScriptFault}
use Rattle.srm_script.specs.declared.fault.ScriptFault.TheVariants.{StandardInput, TooLong, BadLine, Output, Memory}
use Rattle.srm_member.specs.declared.fault.MemberFault.{MemberFault}
use Rattle.srm_member.specs.declared.fault.MemberFault.TheVariants.{Script}
use Rattle.srm_member.specs.Statuses.{IsToldOf, fault_of_live, fault_with_call, fault_with_cause, status_of_member}
use Rattle.srm_world.specs.RecordStarts.{RecordStart}
use Rattle.srm_record.specs.Begun.{IsRecorded}
use Rattle.srm_member.proofs.MemberRuns.{by_seed, new_journal, status_of_some, status_of_most, stored_if}
use Rattle.srm_member.specs.MemberRuns.{IsStoredIf, member_calls}
use Rattle.srm_member.specs.Stations.{BeginsIn, IsNewStation}
use Rattle.srm_live.specs.declared.live_fault.LiveFault.{LiveFault}
use Rattle.srm_live.specs.declared.live_fault.LiveFault.TheVariants.{Member, WasBefore}
use Rattle.srm_live.specs.LiveStatuses.{IsWholeEnd, IsWholeStatus, fault_if_cut, fault_of_end, status_of_live}
use Rattle.srm_live.specs.LiveLines.{PrintingView, PrintsLine, PrintedEach, new_printing}
use Rattle.srm_live.specs.LiveRuns.{IsWholeLiveRun, SawWhole}
use Rattle.srm_live.proofs.LiveLines.{prints_whole}
use Rattle.srm_live.specs.LiveMembers.{MemberNode, LivesFrom, LivesWith, LivesWhole}

-- a fault has a status by itself
pub never_whole : (f : MemberFault) (status : ℕ) (P : Type 0) → status ≡ status_of_live (Member f) → IsWholeStatus status → P
never_whole f status P is (inl none) = let own : status ≡ status_of_member f = is in absurd (omega (arith, status_of_some f, own, none))
never_whole f status P is (inr before) = let own : status ≡ status_of_member f = is in let five : status ≡ 5 = before in absurd (omega (arith, status_of_most f, own, five))

-- so who ends with the status of a whole run had one
pub whole_by_status : (f : LiveFault) (end : Option LiveFault) (status : ℕ) (P : Type 0) → end ≡ Some f → status ≡ status_of_live f → (IsWholeEnd end → P) → IsWholeStatus status → P
whole_by_status (Member f) end status P here is whole which = never_whole f status P is which
whole_by_status WasBefore end status P here is whole which = whole (inr here)

-- and no run was whole that ended with one of a member that isn't live
pub not_whole : (f : MemberFault) (end : Option LiveFault) (P : Type 0) → end ≡ Some (Member f) → IsWholeEnd end → P
not_whole f end P is (inl none) = let k : Some (Member f) ≡ None = sym is ∙ none in cc
not_whole f end P is (inr before) = let k : Some (Member f) ≡ Some WasBefore = sym is ∙ before in cc

-- what ended a run that ends well: nothing did
live_none : (run : Option MemberFault) (noted : Option ScriptFault) → fault_of_live run noted ≡ None → run ≡ None
live_none None noted e = refl
live_none (Some f) None e = let k : Some f ≡ None = e in cc
live_none (Some f) (Some StandardInput) e = let k : Some f ≡ None = e in cc
live_none (Some f) (Some TooLong) e = let k : Some f ≡ None = e in cc
live_none (Some f) (Some (BadLine number)) e = let k : Some f ≡ None = e in cc
live_none (Some f) (Some Output) e = let k : Some f ≡ None = e in cc
live_none (Some f) (Some Memory) e = let k : Some (Script Memory) ≡ None = e in cc

end_none : (run : Option MemberFault) (was_before : Bool) → IsWholeEnd (fault_of_end run was_before) → run ≡ None
end_none None was_before whole = refl
end_none (Some f) was_before (inl none) = let k : Some (Member f) ≡ None = none in cc
end_none (Some f) was_before (inr before) = let k : Some (Member f) ≡ Some WasBefore = before in cc

pub told_none : (run told : Option MemberFault) → IsToldOf run told → told ≡ None → run ≡ None
told_none None told of none = refl
told_none (Some f) told (call, cause, of) none = let k : Some (fault_with_cause cause (fault_with_call call f)) ≡ None = sym of ∙ none in cc

-- where not all was drawn and printed there is a fault
cut_none : (is_complete : Bool) (fault : Option MemberFault) → fault_if_cut is_complete fault ≡ None → (fault ≡ None) × (is_complete ≡ true)
cut_none true None e = (refl, refl)
cut_none true (Some f) e = let k : Some f ≡ None = e in cc
cut_none false None e = let k : Some (Script Memory) ≡ None = e in cc
cut_none false (Some f) e = let k : Some f ≡ None = e in cc

pub whole_end : (run told fault cut : Option MemberFault) (noted : Option ScriptFault) (is_complete was_before : Bool) (result : Option LiveFault) → IsToldOf run told → fault ≡ fault_of_live told noted → cut ≡ fault_if_cut is_complete fault → result ≡ fault_of_end cut was_before → IsWholeEnd result
    → (run ≡ None) × (is_complete ≡ true)
whole_end run told fault cut noted is_complete was_before result of live_is cut_is is whole =
    let both = cut_none is_complete fault (sym cut_is ∙ end_none cut was_before (subst IsWholeEnd is whole)) in
    (told_none run told of (live_none told noted (sym live_is ∙ both.0)), both.1)

-- the node that ran is the one that got a control
pub lives_from : {X C S F : Type 0} (calls : Calls X C) (Sees : S → ℕ → PageMsg → Bool → S → Type 0) (contents : F → Option (List ℕ)) (turns : ℕ) (known : Option (List ℕ)) (old new : NodeState Lcg X C) (control : ControlView) (sinks : List S)
    → new ≡ record old { view = record old.view { control = Some (new_commands control.out control.back) } }
    → ((took : List (List PageMsg)) × (whole : IsWholeLiveRun calls turns known new.view took) × SawWhole Sees sinks took × (file : Option F) × IsRecorded contents new.begins whole.host.last.journal.entries took file × ChosenByWords pcg64 new.view.journal new.words whole.host.last.journal)
    → LivesFrom calls Sees contents turns known old.view old.words old.begins sinks
lives_from {X} {C} calls Sees contents turns known old new control sinks is (took, whole, saw, file, recorded, chosen) =
    let both : (w : IsWholeLiveRun calls turns known (record old.view { control = Some (new_commands control.out control.back) }) took) × IsRecorded contents old.begins w.host.last.journal.entries took file × ChosenByWords pcg64 old.view.journal old.words w.host.last.journal =
    subst (λ (n : NodeState Lcg X C). (w : IsWholeLiveRun calls turns known n.view took) × IsRecorded contents n.begins w.host.last.journal.entries took file × ChosenByWords pcg64 n.view.journal n.words w.host.last.journal) is (whole, recorded, chosen) in
    record { commands = new_commands control.out control.back; fresh = refl; took = took; whole = both.0; saw = saw; file = file; recorded = both.1; chosen = both.2 }

-- what each sink printed, of what the journal gave
printed_each : {X C F : Type 0} (calls : Calls X C) (contents : F → Option (List ℕ)) (turns : ℕ) (known : Option (List ℕ)) (node : NodeView X C) (words : Lcg) (begins : Option RecordStart) (sinks : List PrintingView) (lives : LivesFrom calls PrintsLine contents turns known node words begins sinks) → PrintedEach sinks lives.took
printed_each calls contents turns known node words begins sinks lives slot s ms at_s at_ms =
    let (closed, last, seen) = lives.saw slot s ms at_s at_ms in
    let host = lives.whole.host in
    let fed : is_page_feed ms ≡ true = ap is_page_feed (host.takes slot ms at_ms) ∙ host.keeps.lawful.gives.feeds slot in
    (last, seen, prints_whole slot ms s last fed closed seen)

-- and it was that of a new station
pub lives_with : {F : Type 0} (contents remaining : F → Option (List ℕ)) (options : NodeOptions) (known : Option (List ℕ)) (sinks : List PrintingView) (key : Option (List ℕ)) (seal : Option SealView) (node : MemberNode) (taps : List TapView) (pens : List PenView) (opened : Option F) (words : Lcg) (begins : Option RecordStart)
    → is_some key ≡ is_some options.guard.key → IsKeyRead remaining options.guard.key key → IsSealBy key options.config.me seal → IsNewStation options.config 0 options.guard.most_missing None (new_rested (guarded_wire options.addresses.items options.guard seal)) node taps pens → is_some opened ≡ is_some options.«record» → words ≡ words_of options.seed → BeginsIn contents opened options.seed node.journal.start begins
    → LivesFrom member_calls PrintsLine contents options.turns known node words begins sinks → LivesWith contents remaining options known sinks
lives_with contents remaining options known sinks key seal node taps pens opened words begins keyed read sealed new asked seeded began lives = record {
  key = key;
  keyed = keyed;
  read = read;
  seal = seal;
  sealed = sealed;
  node = node;
  taps = taps;
  pens = pens;
  new = new;
  words = words;
  begins = begins;
  lives = lives;
  printed = printed_each member_calls contents options.turns known node words begins sinks lives;
  seeded = by_seed options.seed options.config node.journal lives.whole.host.last.journal words (new_journal options.config 0 options.guard.most_missing None (new_rested (guarded_wire options.addresses.items options.guard seal)) node taps pens new) seeded lives.chosen;
  stored =
      subst (λ (b : Bool). IsStoredIf contents b options.seed node.journal.start lives.whole.host.last.journal.entries lives.took) asked
      (stored_if contents opened lives.file options.seed node.journal.start begins lives.whole.host.last.journal.entries lives.took began lives.recorded);
}

pub lives_whole : {F : Type 0} (contents remaining : F → Option (List ℕ)) (options : NodeOptions) (known : Option (List ℕ)) (sinks : List PrintingView) → length sinks ≡ PAGES → All (λ (s : PrintingView). s ≡ new_printing options.names options.config.me) sinks → LivesWith contents remaining options known sinks → LivesWhole contents remaining options known
lives_whole contents remaining options known sinks count new with_these = record { sinks = sinks; count = count; new = new; with_these = with_these }
