-- What a member comes to that is run by its options.
use Rattle.std.specs.Prelude.{◌≡◌, ◌⊎◌, ℕ, Bool, true, false, List, Option, None, IfSome, is_some}
use Rattle.std.specs.Io.KnownBytes.{Appends, Keeps}
use Rattle.rand_pcg.specs.Lcg.{Lcg}
use Rattle.rand_pcg.specs.Pcg.{pcg64}
use Rattle.srm_names.specs.declared.page_msg.PageMsg.{PageMsg}
use Rattle.srm_pages.specs.Ends.{TapView, PenView}
use Rattle.srm_udp.specs.Clocks.{ClockView, NeverFalls}
use Rattle.srm_udp.specs.Resting.{RestedView, new_rested, SendsRested, ReceivesRested, PausesRested}
use Rattle.srm_udp.specs.Udp.{UdpView}
use Rattle.srm_guard.specs.Seals.{SealView}
use Rattle.srm_guard.specs.Guards.{GuardView}
use Rattle.srm_guarded.specs.Keying.{IsKeyRead}
use Rattle.srm_guarded.specs.Guarding.{IsSealBy, guarded_wire, GuardedReceives, GuardedSends, GuardedPauses}
use Rattle.srm_options.specs.declared.node_options.NodeOptions.{NodeOptions}
use Rattle.srm_script.specs.declared.fault.ScriptFault.TheVariants.{Output}
use Rattle.srm_member.specs.declared.fault.MemberFault.{MemberFault}
use Rattle.srm_member.specs.declared.fault.MemberFault.TheVariants.{Script, Record}
use Rattle.srm_entries.specs.declared.entry.Entry.{Entry}
use Rattle.srm_entries.specs.Configs.{Config}
use Rattle.srm_timers.specs.Seeds.{words_of}
use Rattle.srm_world.specs.declared.start.Start.{Start}
use Rattle.srm_world.specs.RecordStarts.{RecordStart}
use Rattle.srm_world.specs.WaitWords.{AreByWords}
use Rattle.srm_record.specs.Begun.{IsRecorded, IsStored}
use Rattle.srm_node.specs.Calls.{Calls, calls_of}
use Rattle.srm_node.specs.Nodes.{NodeView}
use Rattle.srm_node.specs.Waits.{ChosenByWords}
use Rattle.srm_member.specs.Lines.{lines_of, dealt_of}
use Rattle.srm_member.specs.Stations.{IsNewStation}
use Rattle.srm_member.specs.TakenText.{taken_text}
use Rattle.srm_member.specs.WholeRuns.{IsWholeRun}

-- what each call of a member's wire does, which rests above a guarded wire over UDP, and of the system's clock
abbrev pub member_calls : Calls (RestedView (GuardView UdpView)) ClockView
member_calls = calls_of NeverFalls (λ r room answer s. ReceivesRested (λ g space told h. GuardedReceives g space told h) r room answer s) (λ r sent failed s. SendsRested (λ g bytes lost h. GuardedSends g bytes lost h) r sent failed s) (λ r micros s. PausesRested GuardedPauses r micros s)

-- The node ran to its end in so many turns, its producers drew what was dealt to them, and what was printed is what its page workers took.
abbrev pub PrintsRun : {X C : Type 0} → Calls X C → ℕ → List (List (List ℕ)) → NodeView X C → Option (List ℕ) → Option (List ℕ) → Type 0
PrintsRun calls turns dealt node before after = (took : List (List PageMsg)) × (whole : IsWholeRun calls turns dealt node took) × Appends before after (taken_text whole.host.last.journal.start.config.me took)

-- And the file of its record, if it has one, has all of it: how it began, each call of its journal, and what its page workers took. The node's random numbers chose its waits.
abbrev pub RunsRecorded : {F X C : Type 0} → (F → Option (List ℕ)) → Calls X C → ℕ → List (List (List ℕ)) → NodeView X C → Lcg → Option RecordStart → Option F → Option (List ℕ) → Option (List ℕ) → Type 0
RunsRecorded contents calls turns dealt node words begins file before after =
    (took : List (List PageMsg))
    × (whole : IsWholeRun calls turns dealt node took)
    × Appends before after (taken_text whole.host.last.journal.start.config.me took)
    × IsRecorded contents begins whole.host.last.journal.entries took file
    × ChosenByWords pcg64 node.journal words whole.host.last.journal

-- The random numbers of a seed chose the waits in these entries of a member: one a timer, in order. No other was consumed.
abbrev pub AreBySeed : ℕ → Config → List Entry → Type 0
AreBySeed seed c es = (to : Lcg) × AreByWords pcg64 c (words_of seed) es to

-- A record was asked for, and a file was opened for it. Now the file has, behind what it held then: these settings, this seed and the moment at which the member was made; each of these calls;
-- what the page workers took; and that this is all. Where none was asked for, nothing is said.
abbrev pub IsStoredIf : {F : Type 0} → (F → Option (List ℕ)) → Bool → ℕ → Start → List Entry → List (List PageMsg) → Type 0
IsStoredIf contents false seed start es took = Unit {0}
IsStoredIf {F} contents true seed start es took = (opened : F) × (closed : F) × (begins : RecordStart) × (begins.start ≡ start) × (begins.seed ≡ seed) × (begins.first ≡ contents opened) × IsStored begins es took (contents closed)

-- A fault leaves the output as it was, unless the output failed, or the run was printed whole and its record isn't.
abbrev pub FaultKeeps : MemberFault → Type 0 → Option (List ℕ) → Option (List ℕ) → Type 0
FaultKeeps f Printed before after = (f ≡ Script Output) ⊎ ((f ≡ Record) × Printed) ⊎ Keeps before after

-- A member with these options ran to its end over its own wire, with a key if they name a file of one and a new seal by it, and its producers drew lines of its
-- input, if that is known.
-- What was printed is what its page workers took: all that its journal gave.
pub record PrintsWholeRun (options : NodeOptions) (input before after : Option (List ℕ)) : Type 0 where
  pub key : Option (List ℕ)
  pub keyed : is_some key ≡ is_some options.guard.key
  pub seal : Option SealView
  pub sealed : IsSealBy key options.config.me seal
  pub node : NodeView (RestedView (GuardView UdpView)) ClockView
  pub taps : List TapView
  pub pens : List PenView
  pub new : IsNewStation options.config options.stay options.guard.most_missing None (new_rested (guarded_wire options.addresses.items options.guard seal)) node taps pens
  pub dealt : List (List (List ℕ))
  pub lines : IfSome input (λ text. dealt ≡ dealt_of (lines_of text))
  pub took : List (List PageMsg)
  pub whole : IsWholeRun member_calls options.turns dealt node took
  pub printed : Appends before after (taken_text whole.host.last.journal.start.config.me took)

-- and its key is all of the file that its options name, if they name one, its random numbers are those of the options' seed, and its record is stored, if they name a file for that
pub record RecordsWholeRun {F : Type 0} (contents remaining : F → Option (List ℕ)) (options : NodeOptions) (input before after : Option (List ℕ)) : Type 0 where
  pub run : PrintsWholeRun options input before after
  pub read : IsKeyRead remaining options.guard.key run.key
  pub seeded : AreBySeed options.seed options.config run.whole.host.last.journal.entries
  pub stored : IsStoredIf contents (is_some options.«record») options.seed run.node.journal.start run.whole.host.last.journal.entries run.took
