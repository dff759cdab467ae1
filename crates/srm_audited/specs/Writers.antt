-- Honest runs whose members wrote these records, and what is said of such records.
use Rattle.std.specs.Prelude.{◌≡◌, ◌≢◌, ℕ, ◌≤◌, true, false, List, [], ◌∷◌, length, slice_get, Some, Contains}
use Rattle.std.specs.List.{AllByRecursion}
use Rattle.srm_names.specs.declared.page_msg.PageMsg.{PageMsg}
use Rattle.srm_names.specs.Histories.{IsPrefix}
use Rattle.srm_entries.specs.Entries.{sent}
use Rattle.srm_entries.specs.Giving.{given}
use Rattle.srm_world.specs.Traces.{Trace, Journal, of_member, IsHonest, IsRun}
use Rattle.srm_frames.specs.declared.reading.Record.{Record}
use Rattle.srm_replays.specs.Law.{acting}
use Rattle.srm_record.specs.Replays.{IsRecordOf, IsSpelled}
use Rattle.srm_audited.specs.declared.verdict.Verdict.{Verdict}
use Rattle.srm_audited.specs.declared.verdict.Verdict.TheVariants.{Honest, NotHonest}
use Rattle.srm_audited.specs.declared.verdict.Reason.{Reason}
use Rattle.srm_audited.specs.Sessions.{is_cut}
use Rattle.srm_audited.specs.Verdicts.{IsVerdict}

-- The record is of a member of the run: of a journal whose acting calls are the first that acted in the member's part of the run, and all of them if the record is whole. Each list that it says was taken is a prefix of what had been given there by then.
pub record IsWrittenIn (t : Trace) (r : Record) : Type 0 where
  pub journal : Journal
  pub lists : List (List PageMsg)
  pub spelled : IsSpelled r
  pub of : IsRecordOf r journal lists
  pub began : Contains t.starts journal.start
  pub front : IsPrefix (acting journal.entries) (acting (of_member journal.start.config.me t.entries))
  pub whole : is_cut r.end ≡ false → acting (of_member journal.start.config.me t.entries) ≡ acting journal.entries
  pub taken : (slot : ℕ) (list : List PageMsg) → slice_get lists slot ≡ Some list → IsPrefix list (given journal.entries slot)

abbrev pub IsOfAnother : Record → Record → Type 0
IsOfAnother r s = s.beginning.config.me ≢ r.beginning.config.me

-- no two of the records are of one member
abbrev pub AreOfOthers : List Record → Type 0
AreOfOthers [] = Unit {0}
AreOfOthers (r ∷ rs) = AllByRecursion (IsOfAnother r) rs × AreOfOthers rs

-- different members of an honest run wrote the records, one each
pub record AreWrittenIn (t : Trace) (rs : List Record) : Type 0 where
  pub run : IsRun t
  pub honest : IsHonest t.entries
  pub each : AllByRecursion (IsWrittenIn t) rs
  pub others : AreOfOthers rs

-- Where records are refused, no honest run is one whose members wrote them, whatever these did behind the cuts, and whatever members did whose records are missing.
abbrev pub RefusedLaw : Type 0
RefusedLaw = (rs : List Record) (reason : Reason) (t : Trace) → IsVerdict rs (NotHonest reason) → ¬ (AreWrittenIn t rs)

-- the record is whole, or its member sent nothing behind its cut
pub record IsWrittenWhole (t : Trace) (r : Record) : Type 0 where
  pub written : IsWrittenIn t r
  pub silent : is_cut r.end ≡ true → sent (of_member written.journal.start.config.me t.entries) ≡ sent written.journal.entries

-- all members of an honest run wrote the records, one each, whole or cut behind the last that they sent
pub record AreWrittenWhole (t : Trace) (rs : List Record) : Type 0 where
  pub run : IsRun t
  pub honest : IsHonest t.entries
  pub each : AllByRecursion (IsWrittenWhole t) rs
  pub others : AreOfOthers rs
  pub all : length t.starts ≤ length rs

-- Such records are found honest.
abbrev pub CompletenessLaw : Type 0
CompletenessLaw = (rs : List Record) (v : Verdict) (t : Trace) → IsVerdict rs v → AreWrittenWhole t rs → (found : Trace) × (v ≡ Honest found)
