-- The lines of a record tell which calls it has: their moments and what the member was handed.
use Rattle.std.proofs.Common.{◌≡◌, ℕ, ◌<◌, ◌^◌, Bool, true, false, ◌&&◌, List, [], ◌∷◌, ◌++◌, map, refl, ap, sym, ◌∙◌}
use Rattle.std.specs.Prelude.{Some, None, Result, Ok, Err, IfSome, if◌then◌else◌}
use Rattle.std.specs.List.{cons_option, AllByRecursion}
use Rattle.srm_names.specs.Histories.{steps_after}
use Rattle.srm_codec.specs.declared.datagram.Datagram.{Datagram}
use Rattle.srm_codec.specs.declared.fault.DecodeFault.{DecodeFault}
use Rattle.srm_codec.specs.Spelling.{spelling, IsSpellable}
use Rattle.srm_codec.specs.Judging.{judge}
use Rattle.srm_codec.proofs.JudgingLaws.{spelling_judged}
use Rattle.srm_entries.specs.Configs.{Config}
use Rattle.srm_entries.specs.declared.entry.Entry.{Entry}
use Rattle.srm_entries.specs.declared.entry.Effects.{Effects}
use Rattle.srm_entries.specs.declared.entry.Input.{Input}
use Rattle.srm_entries.specs.declared.entry.Input.TheVariants.{Drew, Heard, Noise, Ticked, Showed, AskedLeave, Gave, Took}
use Rattle.srm_entries.specs.declared.entry.Verdict.{Verdict}
use Rattle.srm_entries.specs.declared.entry.Verdict.TheVariants.{Done, Ignored, Refused}
use Rattle.srm_entries.specs.Entries.{done_input, heard_in, accepted}
use Rattle.srm_entries.specs.Runs.{EntryRight}
use Rattle.srm_frames.specs.declared.line.Line.{Line}
use Rattle.srm_frames.specs.declared.line.Call.{Call}
use Rattle.srm_frames.specs.declared.line.Call.TheVariants as calls
use Rattle.srm_replays.specs.Calls.{is_done, acts_by, acts}
use Rattle.srm_replays.specs.Law.{call_of, acting}
use Rattle.srm_replays.proofs.Replaying.{kept, dropped, agreement_law}
use Rattle.srm_record.specs.Calls.{call_of as line_call, at_moment, line_of, lines_of}
use Rattle.srm_record.specs.Law.{RecordLaw}

abbrev heard_of : Result Datagram DecodeFault → Input
heard_of (Ok g) = Heard g
heard_of (Err fault) = Noise

abbrev input_of : ℕ → Call → Input
input_of session (calls.Drew page body) = Drew page body
input_of session (calls.Heard bytes) = heard_of (judge session bytes)
input_of session calls.Ticked = Ticked
input_of session (calls.Showed page) = Showed page
input_of session calls.AskedLeave = AskedLeave
input_of session (calls.Gave slot) = Gave slot
input_of session (calls.Took slot message) = Noise
input_of session calls.Ended = Noise

-- the call of a line
abbrev told : ℕ → Line → ℕ × Input
told session l = (l.moment, input_of session l.call)

record Tells (session moment : ℕ) (i : Input) : Type 0 where
  line : Line
  is : at_moment moment (line_call session i) ≡ Some line
  call : told session line ≡ (moment, i)

tells : (session moment : ℕ) (v : Verdict) (i : Input) (f : Effects) → session < 2 ^ 32 → (is_done v && acts_by i f) ≡ true → IfSome (heard_in (done_input v i)) IsSpellable → Tells session moment i
tells session moment (Ignored cause) i f small e read = absurd (cc)
tells session moment (Refused fault) i f small e read = absurd (cc)
tells session moment Done (Drew page body) f small e read = record { line = record { moment = moment; call = calls.Drew page body }; is = refl; call = refl }
tells session moment Done (Heard g) f small e read =
    record { line = record { moment = moment; call = calls.Heard (spelling session g) }; is = refl; call = ap (λ r. (moment, heard_of r)) (spelling_judged session g small read) }
tells session moment Done Noise f small e read = absurd (cc)
tells session moment Done Ticked f small e read = record { line = record { moment = moment; call = calls.Ticked }; is = refl; call = refl }
tells session moment Done (Showed page) f small e read = record { line = record { moment = moment; call = calls.Showed page }; is = refl; call = refl }
tells session moment Done AskedLeave f small e read = record { line = record { moment = moment; call = calls.AskedLeave }; is = refl; call = refl }
tells session moment Done (Gave slot) f small e read = record { line = record { moment = moment; call = calls.Gave slot }; is = refl; call = refl }
tells session moment Done (Took slot) f small e read = absurd (cc)

abbrev pub IsRead : Entry → Type 0
IsRead e = IfSome (accepted e) IsSpellable

lines_tell : (session : ℕ) (es : List Entry) → session < 2 ^ 32 → AllByRecursion IsRead es → map (told session) (lines_of session es) ≡ map call_of (acting es)
lines_tell session [] small read = refl
lines_tell session (e ∷ es) small read = go (acts e) refl (lines_tell session es small read.1)
  where
    go : (b : Bool) → acts e ≡ b → map (told session) (lines_of session es) ≡ map call_of (acting es) → map (told session) (lines_of session (e ∷ es)) ≡ map call_of (acting (e ∷ es))
    go true q more =
        let t : Tells session e.moment e.input = tells session e.moment e.verdict e.input e.effects small q read.0 in
        let line : line_of session e ≡ Some t.line = ap (λ (b : Bool). if b then at_moment e.moment (line_call session e.input) else None) q ∙ t.is in
        ap (λ o. map (told session) (cons_option o (lines_of session es))) line
        ∙ ap (λ k. k ∷ map (told session) (lines_of session es)) t.call ∙ ap (λ ks. call_of e ∷ ks) more ∙ sym (ap (map call_of) (kept acts e es q))
    go false q more =
        let none : line_of session e ≡ None = ap (λ (b : Bool). if b then at_moment e.moment (line_call session e.input) else None) q in
        ap (λ o. map (told session) (cons_option o (lines_of session es))) none ∙ more ∙ sym (ap (map call_of) (dropped acts e es q))

pub all_read : (c : Config) (made : ℕ) (before es : List Entry) → AllByRecursion (EntryRight c made) (steps_after before es) → AllByRecursion IsRead es
all_read c made before [] each = tt
all_read c made before (e ∷ es) each = (each.0.read, all_read c made (before ++ e ∷ []) es each.1)

pub record_law : {W : Type 0} → RecordLaw W
record_law next_word c made from es fs inside small one two same =
    agreement_law next_word c made from es fs inside one two
    (sym (lines_tell c.session fs small (all_read c made [] fs two.run.each)) ∙ ap (map (told c.session)) same ∙ lines_tell c.session es small (all_read c made [] es one.run.each))
