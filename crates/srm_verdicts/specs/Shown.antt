-- What standard output has once records were judged.
use Rattle.std.specs.Prelude.{◌≡◌, ◌⊎◌, ℕ, ◌≤◌, List, length, All, Option, None, string_bytes}
use Rattle.std.specs.Io.KnownBytes.{Appends, Keeps}
use Rattle.srm_output.specs.Writing.{AppendsFront}
use Rattle.srm_frames.specs.declared.reading.Record.{Record}
use Rattle.srm_frames.specs.WhatIsRead.{IsRecordIn, seen}
use Rattle.srm_options.specs.declared.audit.AuditOutput.{AuditOutput}
use Rattle.srm_options.specs.declared.audit.AuditOutput.TheVariants.{Script, Picture}
use Rattle.srm_audited.specs.Verdicts.{IsUnjudged, IsVerdict}
use Rattle.srm_audited.specs.declared.unjudged.Unjudged.{Unjudged}
use Rattle.srm_audited.specs.declared.unjudged.Unjudged.TheVariants as unjudgeds
use Rattle.srm_audited.specs.declared.verdict.Verdict.{Verdict}
use Rattle.srm_audited.specs.declared.verdict.Verdict.TheVariants.{Honest}
use Rattle.srm_played.specs.declared.limits.TheConstants.{MOST_EVENTS}
use Rattle.srm_verdicts.specs.declared.no_script.TheConstants.{LONGEST_SCRIPT}
use Rattle.srm_verdicts.specs.declared.fault.AuditFault.{AuditFault}
use Rattle.srm_verdicts.specs.declared.fault.AuditFault.TheVariants as faults
use Rattle.srm_verdicts.specs.AuditStatuses.{status_of, status_of_fault}
use Rattle.srm_verdicts.specs.Details.{path_at}
use Rattle.srm_verdicts.specs.Unsaid.{events_in, unsaid, IsRefusedPicture, IsRefusedScript}
use Rattle.srm_verdicts.specs.VerdictTexts.{verdict_text}

-- A verdict is shown in words, but an honest run as a script or a picture where one is asked for: one that a script says, with no more bytes or events than these have.
abbrev pub IsShown : AuditOutput → List (List ℕ) → List (List ℕ) → List Record → Verdict → List ℕ → Type 0
IsShown Script names paths rs (Honest t) text = (unsaid rs t.entries ≡ None) × (length text ≤ LONGEST_SCRIPT)
IsShown Picture names paths rs (Honest t) text = (unsaid rs t.entries ≡ None) × (events_in t.entries ≤ MOST_EVENTS)
IsShown output names paths rs v text = text ≡ verdict_text names paths rs v

-- the text of a verdict on the records was printed, and the status is its own
pub record IsPrinted (output : AuditOutput) (names paths : List (List ℕ)) (rs : List Record) (status : ℕ) (old new : Option (List ℕ)) : Type 0 where
  pub verdict : Verdict
  pub text : List ℕ
  pub judged : IsVerdict rs verdict
  pub its_status : status ≡ status_of verdict
  pub shown : IsShown output names paths rs verdict text
  pub printed : Appends old new text

-- a front of such a text was printed
pub record IsCutShort (output : AuditOutput) (names paths : List (List ℕ)) (rs : List Record) (old new : Option (List ℕ)) : Type 0 where
  pub verdict : Verdict
  pub text : List ℕ
  pub judged : IsVerdict rs verdict
  pub shown : IsShown output names paths rs verdict text
  pub printed : AppendsFront old new text

-- A fault for which there is no text of a verdict: memory ran out, or an honest run of these records is no script or picture, as one is asked for, for this cause.
abbrev pub IsUnshown : AuditOutput → List Record → Verdict → AuditFault → Type 0
IsUnshown output rs v faults.Memory = Unit {0}
IsUnshown Script rs (Honest t) (faults.NoScript why) = IsRefusedScript rs t.entries why
IsUnshown Picture rs (Honest t) (faults.NoScript why) = IsRefusedPicture rs t.entries why
IsUnshown output rs v fault = ⊥

-- What is told where records weren't judged: of the one that is at fault, its path and the line; or that memory ran out.
abbrev pub IsFaultOf : List (List ℕ) → Unjudged → AuditFault → Type 0
IsFaultOf paths unjudged faults.Memory = Unit {0}
IsFaultOf paths (unjudgeds.TooMuch place line) (faults.TooMuch path told) = (string_bytes path ≡ path_at paths place) × (told ≡ line)
IsFaultOf paths unjudged fault = ⊥

-- a fault for which no verdict on these records was printed: they weren't judged, or the verdict isn't shown as asked
abbrev pub IsUnprinted : AuditOutput → List (List ℕ) → List Record → AuditFault → Type 0
IsUnprinted output paths rs fault = ((unjudged : Unjudged) × IsUnjudged rs unjudged × IsFaultOf paths unjudged fault) ⊎ ((v : Verdict) × IsVerdict rs v × IsUnshown output rs v fault)

-- What is printed where a fault came of these records: nothing where there is no text, and else a front of one.
abbrev pub Leaves : AuditOutput → List (List ℕ) → List (List ℕ) → List Record → AuditFault → Option (List ℕ) → Option (List ℕ) → Type 0
Leaves output names paths rs fault old new = (IsUnprinted output paths rs fault × Keeps old new) ⊎ (((fault ≡ faults.Memory) ⊎ (fault ≡ faults.Output)) × IsCutShort output names paths rs old new)

-- ---- of files

-- some bytes are this record
abbrev pub IsOfBytes : Record → Type 0
IsOfBytes r = (bytes : List ℕ) × IsRecordIn bytes (seen r)

pub record AreOfBytes (rs : List Record) : Type 0 where
  pub each : All IsOfBytes rs

-- there is a record for each path, read of bytes
pub record AreRead (paths : List (List ℕ)) (rs : List Record) : Type 0 where
  pub count : length rs ≡ length paths
  pub of : AreOfBytes rs

-- a fault for which they weren't read
abbrev pub IsUnread : AuditFault → Type 0
IsUnread (faults.NoScript why) = ⊥
IsUnread (faults.TooMuch path line) = ⊥
IsUnread faults.Output = ⊥
IsUnread fault = Unit {0}

-- The text of a verdict on the records was printed, and the status is its own.
abbrev pub IsPrintedOfFiles : AuditOutput → List (List ℕ) → List (List ℕ) → ℕ → Option (List ℕ) → Option (List ℕ) → Type 0
IsPrintedOfFiles output names paths status old new = (rs : List Record) × AreRead paths rs × IsPrinted output names paths rs status old new

-- What is printed where a fault came: nothing where the records weren't read.
abbrev pub LeavesOfFiles : AuditOutput → List (List ℕ) → List (List ℕ) → AuditFault → Option (List ℕ) → Option (List ℕ) → Type 0
LeavesOfFiles output names paths fault old new = (IsUnread fault × Keeps old new) ⊎ ((rs : List Record) × AreRead paths rs × Leaves output names paths rs fault old new)

-- What the program prints, and its status: that of the verdict that it printed, or of a fault.
abbrev pub IsAudited : AuditOutput → List (List ℕ) → List (List ℕ) → ℕ → Option (List ℕ) → Option (List ℕ) → Type 0
IsAudited output names paths status old new = IsPrintedOfFiles output names paths status old new ⊎ ((fault : AuditFault) × (status ≡ status_of_fault fault) × LeavesOfFiles output names paths fault old new)

-- a status of a verdict
abbrev pub IsOfVerdict : ℕ → Type 0
IsOfVerdict status = (v : Verdict) × (status ≡ status_of v)
