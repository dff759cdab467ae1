-- The end of a run whose record is written.
use Rattle.std.proofs.Common.{◌≡◌, ℕ, List, Bool, true, false, refl, sym, ◌∙◌, subst, inl, inr}
use Rattle.std.specs.Prelude.{Option, Some, None, Result, Ok, Err, IfOk, IsOkAnd}
use Rattle.srm_names.specs.declared.page_msg.PageMsg.{PageMsg}
use Rattle.srm_entries.specs.declared.entry.Entry.{Entry}
use Rattle.srm_world.specs.RecordStarts.{RecordStart}
use Rattle.srm_record.specs.Begun.{IsRecorded}
use Rattle.srm_member.specs.declared.recording.Recorded.{Recorded}
use Rattle.srm_member.specs.declared.fault.MemberFault.{MemberFault}
use Rattle.srm_member.specs.declared.fault.MemberFault.TheVariants.{Record}
use Rattle.srm_member.specs.Statuses.{fault_of_record, IsRecordedEnd}

-- a run without a fault is one without a fault of its record
pub none_of : (run told : Option MemberFault) → IsRecordedEnd run told → told ≡ None → run ≡ None
none_of None told end none = refl
none_of (Some f) told end none = let k : Some f ≡ None = sym end ∙ none in cc

-- what ended the run is told
pub of_fault : (run told : Option MemberFault) (f : MemberFault) → run ≡ Some f → told ≡ Some f → IsRecordedEnd run told
of_fault None told f is same = let k : None ≡ Some f = is in cc
of_fault (Some g) told f is same = same ∙ sym is

-- and of a whole run what befell its record
pub of_whole : {E : Type 0} (run told : Option MemberFault) (recorded : Result Bool E) → run ≡ None → told ≡ fault_of_record recorded → IsRecordedEnd run told
of_whole None told (Ok true) none is = inl is
of_whole None told (Ok false) none is = inr (inl is)
of_whole None told (Err e) none is = inr (inr is)
of_whole (Some f) told recorded none is = let k : Some f ≡ None = none in cc

pub of_record : (run told : Option MemberFault) → run ≡ None → IsRecordedEnd None told → IsRecordedEnd run told
of_record None told none end = end
of_record (Some f) told none end = let k : Some f ≡ None = none in cc

-- a record that nothing is told of is whole
is_whole : (E : Type 0) (whole : Bool) (told : Option MemberFault) → told ≡ fault_of_record {E = E} (Ok whole) → told ≡ None → whole ≡ true
is_whole E true told is none = refl
is_whole E false told is none = let k : Some Record ≡ None = sym is ∙ none in cc

pub whole_record : {F E : Type 0} (ended : Result (Recorded F) E) (recorded : Recorded F) (told : Option MemberFault) → ended ≡ Ok recorded → told ≡ fault_of_record {E = E} (Ok recorded.whole) → told ≡ None → IsOkAnd ended (λ r. r.whole ≡ true)
whole_record {F} {E} ended recorded told here is none = subst (λ (e : Result (Recorded F) E). IsOkAnd e (λ r. r.whole ≡ true)) (sym here) (is_whole E recorded.whole told is none)

-- the file of a record that is whole
pub recorded_file : {F E : Type 0} (ended : Result (Recorded F) E) (contents : F → Option (List ℕ)) (begins : Option RecordStart) (es : List Entry) (ls ms : List (List PageMsg)) → ls ≡ ms → IfOk ended (λ r. r.whole ≡ true → IsRecorded contents begins es ls r.file) → IsOkAnd ended (λ r. r.whole ≡ true)
    → (file : Option F) × IsRecorded contents begins es ms file
recorded_file (Ok r) contents begins es ls ms lists stored whole = (r.file, subst (λ (xs : List (List PageMsg)). IsRecorded contents begins es xs r.file) lists (stored whole))
recorded_file (Err e) contents begins es ls ms lists stored whole = absurd whole
