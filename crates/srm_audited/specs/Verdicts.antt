-- What the records of a session are: one honest run, none, or perhaps one.
use Rattle.std.specs.Prelude.{◌≡◌, ℕ, ◌⊎◌, List, slice_get, take, Option, Some, None, Result, Ok, Err}
use Rattle.std.specs.List.{AllByRecursion}
use Rattle.srm_names.specs.Histories.{IsPrefix}
use Rattle.srm_entries.specs.Giving.{given}
use Rattle.srm_world.specs.Traces.{Trace, IsHonest, IsRun}
use Rattle.srm_world.specs.Claims.{AgreesAtRest, TakesAreDrawn}
use Rattle.srm_frames.specs.declared.reading.Record.{Record}
use Rattle.srm_record.specs.Faults.{IsRetellFault}
use Rattle.srm_record.specs.declared.fault.RetellFault.{RetellFault}
use Rattle.srm_record.specs.declared.fault.RetellFault.TheVariants as faults
use Rattle.srm_audit.specs.declared.got.Got.{Got}
use Rattle.srm_audit.specs.declared.mismatch.Mismatch.{Mismatch}
use Rattle.srm_audit.specs.declared.mismatch.Mismatch.TheVariants as mismatches
use Rattle.srm_audit.specs.Audits.{AreAccountedBy, IsRefused}
use Rattle.srm_gaps.specs.declared.told.Told.{Told}
use Rattle.srm_audited.specs.declared.unjudged.Unjudged.{Unjudged}
use Rattle.srm_audited.specs.declared.unjudged.Unjudged.TheVariants.{TooMuch, Memory}
use Rattle.srm_audited.specs.declared.verdict.Verdict.{Verdict}
use Rattle.srm_audited.specs.declared.verdict.Verdict.TheVariants.{Honest, NotHonest, Undecided}
use Rattle.srm_audited.specs.declared.verdict.Reason.{Reason}
use Rattle.srm_audited.specs.declared.verdict.Reason.TheVariants.{Untold, Roster, Foreign, Unsent}
use Rattle.srm_audited.specs.Sessions.{AreOf}
use Rattle.srm_gaps.specs.Gaps.{journals_of, AreComplete, AreOfOneSession}
use Rattle.srm_gaps.specs.Possible.{calls_told, HasOrder, IsRefusedAt}

-- The trace is one honest run of all members, made of these calls and lists.
pub record AreHonest (ts : List Told) (gots : List Got) (t : Trace) : Type 0 where
  pub accounted : AreAccountedBy (journals_of ts) gots t
  pub run : IsRun t
  pub honest : IsHonest t.entries
  pub takes : TakesAreDrawn t.entries
  pub rest : AgreesAtRest t.entries

-- why the journals and lists aren't of one honest run, as they are
abbrev pub AreRefused : List Told → List Got → Mismatch → Type 0
AreRefused ts gots mismatch = IsRefused (journals_of ts) gots mismatch

-- the same; running out of memory says nothing
abbrev pub IsMismatch : List Told → List Got → Mismatch → Type 0
IsMismatch ts gots mismatches.Memory = Unit {0}
IsMismatch ts gots mismatch = AreRefused ts gots mismatch

-- a record is missing or cut, and they are of different members of one session
pub record ArePart (ts : List Told) : Type 0 where
  pub incomplete : ¬ (AreComplete ts)
  pub session : AreOfOneSession ts

-- the list is a prefix of what the calls told of its member gave
abbrev pub IsGiven : List Told → Got → Type 0
IsGiven ts got = IsPrefix got.list (given (calls_told ts got.member) got.slot)

abbrev pub AreGiven : List Told → List Got → Type 0
AreGiven ts gots = AllByRecursion (IsGiven ts) gots

-- the first list that isn't, is of this slot of this member
pub record IsUngiven (ts : List Told) (gots : List Got) (member slot : ℕ) : Type 0 where
  pub place : ℕ
  pub got : Got
  pub here : slice_get gots place ≡ Some got
  pub before : AreGiven ts (take place gots)
  pub ungiven : ¬ (IsGiven ts got)
  pub member_is : got.member ≡ member
  pub slot_is : got.slot ≡ slot

-- A record is missing or cut. As they are, the calls aren't one, since a member is missing or an entry hears what isn't sent. But all calls have a possible order,
-- and page workers took what their members gave.
pub record AreUndecided (ts : List Told) (gots : List Got) : Type 0 where
  pub part : ArePart ts
  pub refused : AreRefused ts gots mismatches.Roster ⊎ ((m : ℕ) × (n : ℕ) × AreRefused ts gots (mismatches.Unsent m n))
  pub order : HasOrder ts
  pub given : AreGiven ts gots

-- Why they are no honest run. Where no record is missing or cut, this is what is said of journals. Else the session is judged first, then the calls, then the lists.
abbrev pub IsReason : List Told → List Got → Reason → Type 0
IsReason ts gots (Untold place line) = ⊥
IsReason ts gots Roster = (AreComplete ts × AreRefused ts gots mismatches.Roster) ⊎ (¬ (AreComplete ts) × ¬ (AreOfOneSession ts))
IsReason ts gots (Foreign member slot) =
    (AreComplete ts × AreRefused ts gots (mismatches.Foreign member slot)) ⊎ (ArePart ts × HasOrder ts × IsUngiven ts gots member slot)
IsReason ts gots (Unsent member entry) = (AreComplete ts × AreRefused ts gots (mismatches.Unsent member entry)) ⊎ (ArePart ts × IsRefusedAt ts member entry)

abbrev pub IsVerdictOn : List Told → List Got → Verdict → Type 0
IsVerdictOn ts gots (Honest t) = AreHonest ts gots t
IsVerdictOn ts gots (NotHonest reason) = IsReason ts gots reason
IsVerdictOn ts gots Undecided = AreUndecided ts gots

-- the verdict on what came out of the records' calls
pub record IsVerdictOf (rs : List Record) (v : Verdict) : Type 0 where
  pub told : List Told
  pub gots : List Got
  pub of : AreOf rs told gots
  pub on : IsVerdictOn told gots v

-- the calls of the record at this place give no replay, for this cause, and each record before it is of a run
pub record IsStoppedAt (rs : List Record) (place : ℕ) (fault : RetellFault) : Type 0 where
  pub stopped : Record
  pub here : slice_get rs place ≡ Some stopped
  pub why : IsRetellFault stopped fault
  pub told : List Told
  pub gots : List Got
  pub before : AreOf (take place rs) told gots

abbrev pub IsVerdict : List Record → Verdict → Type 0
IsVerdict rs (NotHonest (Untold place line)) = IsStoppedAt rs place (faults.Untold line)
IsVerdict rs v = IsVerdictOf rs v

-- why records weren't judged
abbrev pub IsUnjudged : List Record → Unjudged → Type 0
IsUnjudged rs (TooMuch place line) = IsStoppedAt rs place (faults.TooMuch line)
IsUnjudged rs Memory = Unit {0}

-- what is said where the calls of the record at this place give no replay
abbrev pub told_of_stop : ℕ → RetellFault → Result Verdict Unjudged
told_of_stop place (faults.Untold line) = Ok (NotHonest (Untold place line))
told_of_stop place (faults.TooMuch line) = Err (TooMuch place line)
told_of_stop place faults.Memory = Err Memory

-- what is said where no record is missing or cut, and why they don't match; nothing where memory ran out
abbrev pub verdict_of_whole : Mismatch → Option Verdict
verdict_of_whole mismatches.Memory = None
verdict_of_whole mismatches.Roster = Some (NotHonest Roster)
verdict_of_whole (mismatches.Foreign member slot) = Some (NotHonest (Foreign member slot))
verdict_of_whole (mismatches.Unsent member entry) = Some (NotHonest (Unsent member entry))

-- the same where one is, all calls have a possible order, and all lists are given: then none is foreign
abbrev pub verdict_of_part : Mismatch → Option Verdict
verdict_of_part mismatches.Memory = None
verdict_of_part mismatch = Some Undecided
