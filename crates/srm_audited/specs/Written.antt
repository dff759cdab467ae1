-- What a member's record is read as, once its file is written, whole or in part.
use Rattle.std.specs.Prelude.{◌≡◌, ℕ, ◌+◌, ◌≤◌, false, List, [], ◌∷◌, ◌++◌, length, slice_get, Some, Result, MatchResult, Contains}
use Rattle.rand_pcg.specs.Lcg.{Lcg}
use Rattle.rand_pcg.specs.Pcg.{pcg64}
use Rattle.srm_names.specs.declared.limits.TheConstants.{PAGES}
use Rattle.srm_names.specs.declared.page_msg.PageMsg.{PageMsg}
use Rattle.srm_names.specs.Histories.{IsPrefix}
use Rattle.srm_timers.specs.Seeds.{words_of}
use Rattle.srm_entries.specs.declared.entry.Entry.{Entry}
use Rattle.srm_entries.specs.Giving.{given}
use Rattle.srm_world.specs.Traces.{Trace, Journal, of_member, IsRun}
use Rattle.srm_world.specs.Claims.{IsLawfulJournal}
use Rattle.srm_world.specs.WaitWords.{AreByWords}
use Rattle.srm_replays.specs.Law.{acting}
use Rattle.srm_frames.specs.declared.beginning.Beginning.{Beginning}
use Rattle.srm_frames.specs.declared.fault.RecordFault.{RecordFault}
use Rattle.srm_frames.specs.declared.fault.RecordFault.TheVariants.{Memory}
use Rattle.srm_frames.specs.declared.format.TheConstants.{BEGINNING_BYTES}
use Rattle.srm_frames.specs.declared.reading.Record.{Record}
use Rattle.srm_frames.specs.declared.reading.RecordEnd.TheVariants.{Whole}
use Rattle.srm_frames.specs.Lines.{lines_text}
use Rattle.srm_frames.specs.WhatIsRead.{IsBeginning, RecordView, IsRecordIn, IsFound}
use Rattle.srm_record.specs.Takes.{takes_at, end_at}
use Rattle.srm_record.specs.Records.{last_of_record, whole_record}
use Rattle.srm_record.specs.Replays.{start_of, IsRecordOf, IsSpelled}
use Rattle.srm_output.specs.Writing.{AppendsFront}
use Rattle.srm_record.specs.Writing.{FileView, HasRecord, Stays, text_since_sending}
use Rattle.srm_audited.specs.Sessions.{is_cut}
use Rattle.srm_audited.specs.Writers.{IsWrittenIn, IsWrittenWhole}

-- A member that began so did this, with the random numbers of its seed, as a recorder makes its calls. There is one list for each page slot: what its page worker took, a prefix of what was given there.
pub record IsRecorded (b : Beginning) (j : Journal) (lists : List (List PageMsg)) : Type 0 where
  pub beginning : IsBeginning b
  pub start : j.start ≡ start_of b
  pub lawful : IsLawfulJournal j
  pub words : (to : Lcg) × AreByWords pcg64 j.start.config (words_of b.seed) j.entries to
  pub slots : length lists ≡ PAGES
  pub taken : (slot : ℕ) (list : List PageMsg) → slice_get lists slot ≡ Some list → IsPrefix list (given j.entries slot)

-- The bytes were read: if they are a record, it was found, unless memory ran out.
abbrev pub IsReadingOf : List ℕ → Result Record RecordFault → Type 0
IsReadingOf bytes answer = (v : RecordView) → IsRecordIn bytes v → IsFound v answer

-- ---- what is read of one member's file

-- the record is of the member that began so and of its run, and whole
pub record IsReadWhole (b : Beginning) (j : Journal) (lists : List (List PageMsg)) (r : Record) : Type 0 where
  pub beginning : r.beginning ≡ b
  pub of : IsRecordOf r j lists
  pub spelled : IsSpelled r
  pub whole : r.end ≡ Whole

-- The record that was written of a run is read as the record of it.
abbrev pub WrittenLaw : Type 0
WrittenLaw = (b : Beginning) (j : Journal) (lists : List (List PageMsg)) (bytes : List ℕ) (answer : Result Record RecordFault) → IsRecorded b j lists → bytes ≡ whole_record b j.entries lists → IsReadingOf bytes answer
    → MatchResult answer (IsReadWhole b j lists) (λ fault. fault ≡ Memory)

-- The record is of the member that began so. The calls are the first of the run, and each list is a prefix of the member's and of what these calls gave. If the record is whole, it is of all calls.
pub record IsReadPart (b : Beginning) (j : Journal) (lists : List (List PageMsg)) (r : Record) : Type 0 where
  pub journal : Journal
  pub took : List (List PageMsg)
  pub beginning : r.beginning ≡ b
  pub of : IsRecordOf r journal took
  pub spelled : IsSpelled r
  pub start : journal.start ≡ j.start
  pub front : IsPrefix journal.entries j.entries
  pub whole : is_cut r.end ≡ false → journal.entries ≡ j.entries
  pub taken : (slot : ℕ) (list : List PageMsg) → slice_get took slot ≡ Some list → IsPrefix list (given journal.entries slot)
  pub fronts : (slot : ℕ) (list all : List PageMsg) → slice_get took slot ≡ Some list → slice_get lists slot ≡ Some all → IsPrefix list all

-- A prefix of it that has the whole beginning is read as a record of the first calls.
abbrev pub CutLaw : Type 0
CutLaw = (b : Beginning) (j : Journal) (lists : List (List PageMsg)) (bytes : List ℕ) (answer : Result Record RecordFault) → IsRecorded b j lists → IsPrefix bytes (whole_record b j.entries lists) → BEGINNING_BYTES ≤ length bytes
    → IsReadingOf bytes answer → MatchResult answer (IsReadPart b j lists) (λ fault. fault ≡ Memory)

-- ---- in a run of several members

-- the member is one of the run, and the calls that acted there are those that act in the journal
pub record DidInRun (t : Trace) (j : Journal) : Type 0 where
  pub run : IsRun t
  pub began : Contains t.starts j.start
  pub did : acting (of_member j.start.config.me t.entries) ≡ acting j.entries

-- Such a record of the first calls is one that its member wrote in the run.
abbrev pub CutFilesLaw : Type 0
CutFilesLaw = (t : Trace) (b : Beginning) (j : Journal) (lists : List (List PageMsg)) (r : Record) → DidInRun t j → IsReadPart b j lists r → IsWrittenIn t r

-- what stands behind the calls in a whole record: what was taken, and the end
abbrev pub text_behind_calls : Beginning → List Entry → List (List PageMsg) → List ℕ
text_behind_calls b es lists = lines_text (takes_at (last_of_record b es) lists ++ end_at (last_of_record b es) ∷ [])

-- The bytes are a member's whole record, or lack some at its end. What they lack stands behind the last call that sends or, if none does, behind the beginning.
pub record IsFileOf (b : Beginning) (es : List Entry) (lists : List (List PageMsg)) (bytes : List ℕ) : Type 0 where
  pub missing : List ℕ
  pub parts : bytes ++ missing ≡ whole_record b es lists
  pub few : length missing ≤ length (text_since_sending b es) + length (text_behind_calls b es lists)

-- A writer's file that was empty at first has such bytes after each call, for any lists, unless the file or memory failed. In any case it has a prefix of the whole record.
abbrev pub KeptLaw : Type 0
KeptLaw = (v : FileView) (es : List Entry) (lists : List (List PageMsg)) (bytes : List ℕ) → HasRecord v es → v.first ≡ Some [] → v.now ≡ Some bytes
    → (v.failed ≡ false → IsFileOf v.beginning es lists bytes) × IsPrefix bytes (whole_record v.beginning es lists)

-- A writer's end leaves such bytes too, also if it fails, unless the file or memory had failed before.
abbrev pub EndedLaw : Type 0
EndedLaw = (v : FileView) (es : List Entry) (lists : List (List PageMsg)) (bytes : List ℕ) → HasRecord v es → v.failed ≡ false → v.first ≡ Some [] → Stays v.now (Some bytes)
    → AppendsFront v.first (Some bytes) (whole_record v.beginning es lists) → IsFileOf v.beginning es lists bytes

-- Such a file is read as a record that its member wrote in the run, with the member's beginning. The record is whole, or its member sent nothing behind its cut.
abbrev pub FilesLaw : Type 0
FilesLaw = (t : Trace) (b : Beginning) (j : Journal) (lists : List (List PageMsg)) (bytes : List ℕ) (answer : Result Record RecordFault) → DidInRun t j → IsRecorded b j lists → IsFileOf b j.entries lists bytes → IsReadingOf bytes answer
    → MatchResult answer (λ r. IsWrittenWhole t r × (r.beginning ≡ b)) (λ fault. fault ≡ Memory)
