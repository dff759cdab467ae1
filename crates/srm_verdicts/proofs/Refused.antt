-- Why an honest run is no picture.
use Rattle.std.proofs.Common.{◌≡◌, ℕ, ◌<◌, ◌≤◌, List, length, Vec, None, OnOk, IfOk, refl, sym, subst, inl, inr}
use Rattle.std.specs.Global.{Global}
use Rattle.std.specs.Prelude.{Result, Ok, Err, IfErr}
use Rattle.srm_entries.specs.declared.entry.Entry.{Entry}
use Rattle.srm_world.specs.Traces.{Trace}
use Rattle.srm_frames.specs.declared.reading.Record.{Record}
use Rattle.srm_options.specs.declared.audit.AuditOutput.{AuditOutput}
use Rattle.srm_options.specs.declared.audit.AuditOutput.TheVariants.{Script, Picture}
use Rattle.srm_audited.specs.declared.verdict.Verdict.{Verdict}
use Rattle.srm_audited.specs.declared.verdict.Verdict.TheVariants.{Honest}
use Rattle.srm_played.specs.declared.limits.TheConstants.{MOST_EVENTS}
use Rattle.srm_verdicts.specs.declared.fault.AuditFault.{AuditFault}
use Rattle.srm_verdicts.specs.declared.fault.AuditFault.TheVariants as faults
use Rattle.srm_verdicts.specs.declared.no_script.NoScript.TheVariants.{TooManyEvents, Unread}
use Rattle.srm_verdicts.specs.AuditFaults.{IsUnsaid}
use Rattle.srm_verdicts.specs.Unsaid.{events_in, unsaid, IsRefusedPicture, IsRefusedScript}
use Rattle.srm_verdicts.specs.Shown.{IsShown}
use Rattle.srm_verdicts.specs.declared.no_script.TheConstants.{LONGEST_SCRIPT}

-- a run that is refused a script is refused a picture
pub pictures : (rs : List Record) (es : List Entry) (f : AuditFault) → IsUnsaid (IsRefusedScript rs es) f → IsUnsaid (IsRefusedPicture rs es) f
pictures rs es faults.Memory h = h
pictures rs es (faults.NoScript why) h = inl h
pictures rs es (faults.Unreadable path cause) h = absurd h
pictures rs es (faults.NoRecord path fault) h = absurd h
pictures rs es (faults.TooMuch path line) h = absurd h
pictures rs es faults.Output h = absurd h

-- and one whose script isn't read again
pub undrawn : {T : Type 0} (r : Result T AuditFault) (rs : List Record) (es : List Entry) → IfErr r (IsUnsaid (λ why. why ≡ Unread)) → IfErr r (IsUnsaid (IsRefusedPicture rs es))
undrawn (Ok text) rs es h = h
undrawn (Err faults.Memory) rs es h = h
undrawn (Err (faults.NoScript why)) rs es h = inr (inr h)
undrawn (Err (faults.Unreadable path cause)) rs es h = absurd h
undrawn (Err (faults.NoRecord path fault)) rs es h = absurd h
undrawn (Err (faults.TooMuch path line)) rs es h = absurd h
undrawn (Err faults.Output) rs es h = absurd h

-- and one of too many events
pub too_many : (rs : List Record) (es : List Entry) → MOST_EVENTS < events_in es → IsRefusedPicture rs es TooManyEvents
too_many rs es many = inr (inl (refl, many))

-- what is known of an honest run that is shown

pub script_shown : {E : Type 0} (output : AuditOutput) (names paths : List (List ℕ)) (rs : List Record) (v : Verdict) (t : Trace) (r : Result (Vec ℕ Global) E) → output ≡ Script → v ≡ Honest t
    → IfOk r (λ text. length text.items ≤ LONGEST_SCRIPT) → OnOk r (unsaid rs t.entries ≡ None) → IfOk r (λ text. IsShown output names paths rs v text.items)
script_shown output names paths rs v t (Ok text) asked honest fits said = subst (λ o. IsShown o names paths rs v text.items) (sym asked) (subst (λ w. IsShown Script names paths rs w text.items) (sym honest) (said, fits))
script_shown output names paths rs v t (Err fault) asked honest fits said = tt

pub picture_shown : {E : Type 0} (output : AuditOutput) (names paths : List (List ℕ)) (rs : List Record) (v : Verdict) (t : Trace) (r : Result (Vec ℕ Global) E) → output ≡ Picture → v ≡ Honest t
    → OnOk r (events_in t.entries ≤ MOST_EVENTS) → OnOk r (unsaid rs t.entries ≡ None) → IfOk r (λ text. IsShown output names paths rs v text.items)
picture_shown output names paths rs v t (Ok text) asked honest few said = subst (λ o. IsShown o names paths rs v text.items) (sym asked) (subst (λ w. IsShown Picture names paths rs w text.items) (sym honest) (said, few))
picture_shown output names paths rs v t (Err fault) asked honest few said = tt
