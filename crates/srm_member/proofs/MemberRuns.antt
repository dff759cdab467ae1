-- What a member that is run by its options comes to.
use Rattle.std.proofs.Common.{◌≡◌, ◌⊎◌, ◌≤◌, ℕ, List, [], ◌++◌, refl, ap, sym, ◌∙◌, subst, inl, inr, arith, lit≤}
use Rattle.std.specs.Io.KnownBytes.{Keeps}
use Rattle.rand_pcg.specs.Lcg.{Lcg}
use Rattle.rand_pcg.specs.Pcg.{pcg64}
use Rattle.std.specs.Prelude.{Bool, true, false, Option, Some, None, Result, Ok, Err, IfSome, IfErr, is_some}
use Rattle.srm_udp.specs.declared.first_failure.WireFailure.{WireFailure}
use Rattle.srm_script.specs.declared.fault.ScriptFault.TheVariants.{StandardInput, TooLong, BadLine, Output, Memory}
use Rattle.srm_script.specs.declared.status.TheConstants.{WIRE_FAILED, RAN_OUT}
use Rattle.srm_member.specs.declared.fault.MemberFault.{MemberFault}
use Rattle.srm_member.specs.declared.fault.MemberFault.TheVariants.{Script, Wire, Binding, Call, Turns, Key, Record, Unrecorded}
use Rattle.srm_member.specs.Statuses.{fault_with_call, status_of_member}
use Rattle.srm_member.specs.Lines.{lines_of, dealt_of}
use Rattle.srm_pages.specs.Ends.{TapView, PenView}
use Rattle.srm_udp.specs.Clocks.{ClockView}
use Rattle.srm_udp.specs.Resting.{RestedView, new_rested}
use Rattle.srm_udp.specs.Udp.{UdpView}
use Rattle.srm_guard.specs.Guards.{GuardView}
use Rattle.srm_guard.specs.Seals.{SealView}
use Rattle.srm_guarded.specs.Guarding.{IsSealBy, guarded_wire}
use Rattle.srm_guarded.specs.Keying.{IsKeyRead}
use Rattle.srm_options.specs.declared.node_options.NodeOptions.{NodeOptions}
use Rattle.srm_names.specs.declared.page_msg.PageMsg.{PageMsg}
use Rattle.srm_entries.specs.declared.entry.Entry.{Entry}
use Rattle.srm_world.specs.declared.start.Start.{Start}
use Rattle.srm_world.specs.RecordStarts.{RecordStart}
use Rattle.srm_record.specs.Begun.{IsRecorded}
use Rattle.srm_node.specs.Nodes.{NodeView}
use Rattle.srm_node.specs.Waits.{ChosenByWords}
use Rattle.srm_wire.specs.Wires.{Told}
use Rattle.srm_timers.specs.Seeds.{words_of}
use Rattle.srm_entries.specs.Configs.{Config}
use Rattle.srm_world.specs.Traces.{Journal}
use Rattle.srm_world.specs.WaitWords.{AreByWords}
use Rattle.srm_member.specs.Stations.{BeginsIn, IsNewStation}
use Rattle.srm_member.specs.MemberRuns.{AreBySeed, FaultKeeps, IsStoredIf, RecordsWholeRun, RunsRecorded, member_calls}

-- the lines that are dealt are those of the input, if that is known
pub lines_known : (known : Option (List ℕ)) (input text : List ℕ) (dealt : List (List (List ℕ))) → IfSome known (λ t. input ≡ t) → text ≡ input → dealt ≡ dealt_of (lines_of text) → IfSome known (λ t. dealt ≡ dealt_of (lines_of t))
lines_known None input text dealt read is split = tt
lines_known (Some t) input text dealt read is split = split ∙ ap (λ b. dealt_of (lines_of b)) (is ∙ read)

-- what isn't written to stays
pub keeps_all : (known : Option (List ℕ)) → Keeps known known
keeps_all None = tt
keeps_all (Some text) = refl

-- an output that failed is told as that, whichever call failed
output_stays : (call : Option WireFailure) (f : MemberFault) → f ≡ Script Output → fault_with_call call f ≡ Script Output
output_stays None f is = is
output_stays (Some call) f is = ap (fault_with_call (Some call)) is

-- and so is a record that isn't whole
record_stays : (call : Option WireFailure) (f : MemberFault) → f ≡ Record → fault_with_call call f ≡ Record
record_stays None f is = is
record_stays (Some call) f is = ap (fault_with_call (Some call)) is

pub still_output : (call : Option WireFailure) (f told : MemberFault) (Printed : Type 0) (before after : Option (List ℕ)) → told ≡ fault_with_call call f → FaultKeeps f Printed before after → FaultKeeps told Printed before after
still_output call f told Printed before after is (inl output) = inl (is ∙ output_stays call f output)
still_output call f told Printed before after is (inr (inl (unwritten, printed))) = inr (inl (is ∙ record_stays call f unwritten, printed))
still_output call f told Printed before after is (inr (inr kept)) = inr (inr kept)

-- no fault changes what isn't written to
pub unwritten_if : {T : Type 0} (r : Result T MemberFault) (Printed : Type 0) (known : Option (List ℕ)) → IfErr r (λ f. FaultKeeps f Printed known known)
unwritten_if (Ok done) Printed known = tt
unwritten_if (Err f) Printed known = inr (inr (keeps_all known))

-- of what was printed whole, more may be known
pub prints_more : (f : MemberFault) (Printed More : Type 0) (before after : Option (List ℕ)) → (Printed → More) → FaultKeeps f Printed before after → FaultKeeps f More before after
prints_more f Printed More before after more (inl output) = inl output
prints_more f Printed More before after more (inr (inl (unwritten, printed))) = inr (inl (unwritten, more printed))
prints_more f Printed More before after more (inr (inr kept)) = inr (inr kept)

pub prints_more_if : {T : Type 0} (r : Result T MemberFault) (Printed More : Type 0) (before after : Option (List ℕ)) → (Printed → More) → IfErr r (λ f. FaultKeeps f Printed before after) → IfErr r (λ f. FaultKeeps f More before after)
prints_more_if (Ok done) Printed More before after more keeps = keeps
prints_more_if (Err f) Printed More before after more keeps = prints_more f Printed More before after more keeps

-- no fault has status 0
pub status_of_some : (f : MemberFault) → 1 ≤ status_of_member f
status_of_some (Script StandardInput) = lit≤ tt
status_of_some (Script TooLong) = lit≤ tt
status_of_some (Script (BadLine number)) = lit≤ tt
status_of_some (Script Output) = lit≤ tt
status_of_some (Script Memory) = lit≤ tt
status_of_some Wire = lit≤ tt
status_of_some (Binding address cause) = lit≤ tt
status_of_some (Call call) = lit≤ tt
status_of_some Turns = lit≤ tt
status_of_some (Key fault) = lit≤ tt
status_of_some Record = lit≤ tt
status_of_some (Unrecorded cause) = lit≤ tt

-- and none a greater one than 4
pub status_of_most : (f : MemberFault) → status_of_member f ≤ 4
status_of_most (Script StandardInput) = lit≤ tt
status_of_most (Script TooLong) = lit≤ tt
status_of_most (Script (BadLine number)) = lit≤ tt
status_of_most (Script Output) = lit≤ tt
status_of_most (Script Memory) = lit≤ tt
status_of_most Wire = lit≤ tt
status_of_most (Binding address cause) = lit≤ tt
status_of_most (Call call) = lit≤ tt
status_of_most Turns = lit≤ tt
status_of_most (Key fault) = lit≤ tt
status_of_most Record = lit≤ tt
status_of_most (Unrecorded cause) = lit≤ tt

pub not_0 : (f : MemberFault) (status : ℕ) (P : Type 0) → status ≡ status_of_member f → status ≡ 0 → P
not_0 f status P is none = absurd (omega (arith, status_of_some f, is, none))

-- an output that failed has another status than those, as has a record that isn't whole
not_1 : (status : ℕ) (K : Type 0) → status ≡ 1 → (status ≡ WIRE_FAILED) ⊎ (status ≡ RAN_OUT) → K
not_1 status K one (inl wire) = let three : status ≡ 3 = wire in absurd (omega (arith, one, three))
not_1 status K one (inr memory) = let four : status ≡ 4 = memory in absurd (omega (arith, one, four))

pub kept_by_status : (f : MemberFault) (status : ℕ) (Printed : Type 0) (before after : Option (List ℕ)) → status ≡ status_of_member f → FaultKeeps f Printed before after → (status ≡ WIRE_FAILED) ⊎ (status ≡ RAN_OUT) → Keeps before after
kept_by_status f status Printed before after is (inl output) which = not_1 status (Keeps before after) (is ∙ ap status_of_member output) which
kept_by_status f status Printed before after is (inr (inl (unwritten, printed))) which = not_1 status (Keeps before after) (is ∙ ap status_of_member unwritten) which
kept_by_status f status Printed before after is (inr (inr kept)) which = kept

-- of a record that was asked for, the file that was opened has all
pub stored_if : {F : Type 0} (contents : F → Option (List ℕ)) (opened closed : Option F) (seed : ℕ) (start : Start) (begins : Option RecordStart) (es : List Entry) (took : List (List PageMsg)) → BeginsIn contents opened seed start begins → IsRecorded contents begins es took closed
    → IsStoredIf contents (is_some opened) seed start es took
stored_if contents None closed seed start begins es took began recorded = tt
stored_if contents (Some file) None seed start begins es took (r, is, at, by, first) recorded = absurd (subst (λ b. IsRecorded contents b es took None) is recorded)
stored_if contents (Some file) (Some last) seed start begins es took (r, is, at, by, first) recorded = (file, last, r, at, by, first, subst (λ b. IsRecorded contents b es took (Some last)) is recorded)

-- the journal of a new station is empty, and has its settings
pub new_journal : {X C : Type 0} (config : Config) (stay : ℕ) (most : Option ℕ) (told : Option Told) (wire : X) (node : NodeView X C) (taps : List TapView) (pens : List PenView) → IsNewStation config stay most told wire node taps pens → (node.journal.start.config ≡ config) × (node.journal.entries ≡ [])
new_journal {X} {C} config stay most told wire node taps pens new = (ap (λ (n : NodeView X C). n.journal.start.config) new.new.is, ap (λ (n : NodeView X C). n.journal.entries) new.new.is)

-- what a node did that began with the random numbers of a seed, and with an empty journal
pub by_seed : (seed : ℕ) (config : Config) (journal last : Journal) (words : Lcg) → (journal.start.config ≡ config) × (journal.entries ≡ []) → words ≡ words_of seed → ChosenByWords pcg64 journal words last → AreBySeed seed config last.entries
by_seed seed config journal last words new seeded h =
    let grown : last.entries ≡ h.added = h.grown ∙ ap (λ (es : List Entry). es ++ h.added) new.1 in
    let by_words : AreByWords pcg64 journal.start.config (words_of seed) h.added h.to = subst (λ (w : Lcg). AreByWords pcg64 journal.start.config w h.added h.to) seeded h.chosen in
    let by_config : AreByWords pcg64 config (words_of seed) h.added h.to = subst (λ (c : Config). AreByWords pcg64 c (words_of seed) h.added h.to) new.0 by_words in
    (h.to, subst (λ (es : List Entry). AreByWords pcg64 config (words_of seed) es h.to) (sym grown) by_config)

-- a member whose station ran to its end, with the file that was opened for its record, if one was
pub recorded_member : {F : Type 0} (contents remaining : F → Option (List ℕ)) (options : NodeOptions) (input before after : Option (List ℕ)) (key : Option (List ℕ)) (seal : Option SealView) (node : NodeView (RestedView (GuardView UdpView)) ClockView) (taps : List TapView) (pens : List PenView) (dealt : List (List (List ℕ))) (opened closed : Option F)
    (words : Lcg) (begins : Option RecordStart) → is_some key ≡ is_some options.guard.key → IsKeyRead remaining options.guard.key key → IsSealBy key options.config.me seal → IsNewStation options.config options.stay options.guard.most_missing None (new_rested (guarded_wire options.addresses.items options.guard seal)) node taps pens → IfSome input (λ text. dealt ≡ dealt_of (lines_of text))
    → is_some opened ≡ is_some options.«record» → words ≡ words_of options.seed → BeginsIn contents opened options.seed node.journal.start begins → RunsRecorded contents member_calls options.turns dealt node words begins closed before after → RecordsWholeRun contents remaining options input before after
recorded_member {F} contents remaining options input before after key seal node taps pens dealt opened closed words begins keyed read sealed new lines asked seeded began (took, whole, printed, recorded, chosen) = record {
  run = record { key = key; keyed = keyed; seal = seal; sealed = sealed; node = node; taps = taps; pens = pens; new = new; dealt = dealt; lines = lines; took = took; whole = whole; printed = printed };
  read = read;
  seeded = by_seed options.seed options.config node.journal whole.host.last.journal words (new_journal options.config options.stay options.guard.most_missing None (new_rested (guarded_wire options.addresses.items options.guard seal)) node taps pens new) seeded chosen;
  stored = subst (λ (b : Bool). IsStoredIf contents b options.seed node.journal.start whole.host.last.journal.entries took) asked (stored_if contents opened closed options.seed node.journal.start begins whole.host.last.journal.entries took began recorded);
}
