-- What came out of records' calls, and what it says of the records.
use Rattle.std.specs.Prelude.{◌≡◌, ℕ, ◌≤◌, List, [], length, Vec, Some, Result, Ok, Err, IfOk, IfErr}
use Rattle.rand_pcg.specs.Lcg.{Lcg}
use Rattle.rand_pcg.specs.Pcg.{pcg64}
use Rattle.std.proofs.Common.{refl, sym, subst, inl, inr, ◌∙◌, vec_len}
use Rattle.std.specs.Global.{Global}
use Rattle.std.proofs.lemmas.List.{length-map}
use Rattle.srm_names.specs.declared.limits.TheConstants.{PAGES}
use Rattle.srm_names.specs.declared.page_msg.PageMsg.{PageMsg}
use Rattle.srm_timers.specs.Seeds.{words_of}
use Rattle.srm_world.specs.Traces.{Trace, Journal, IsHonest, IsRun}
use Rattle.srm_world.specs.Claims.{IsLawfulJournal, AgreesAtRest, TakesAreDrawn}
use Rattle.srm_world.specs.WaitWords.{AreByWords}
use Rattle.srm_frames.specs.declared.reading.Record.{Record}
use Rattle.srm_record.specs.declared.replaying.Replayed.{Replayed}
use Rattle.srm_record.specs.Allowances.{timers_allowed, timers_in}
use Rattle.srm_record.specs.Faults.{begun}
use Rattle.srm_record.specs.Making.{MakesAll}
use Rattle.srm_record.specs.Replays.{start_of, lines_told, TellsOfRuns}
use Rattle.srm_record.specs.Takes.{taken_in}
use Rattle.srm_audit.specs.declared.got.Got.{Got}
use Rattle.srm_audit.specs.declared.mismatch.Mismatch.{Mismatch}
use Rattle.srm_audit.specs.declared.mismatch.Mismatch.TheVariants.{Unsent, Foreign, Memory, Roster}
use Rattle.srm_audit.specs.Audits.{AreAccountedBy, IsRefused}
use Rattle.srm_gaps.specs.declared.told.Told.{Told}
use Rattle.srm_audited.specs.declared.verdict.Verdict.{Verdict}
use Rattle.srm_audited.specs.declared.verdict.Verdict.TheVariants.{Honest, NotHonest, Undecided}
use Rattle.srm_audited.specs.declared.verdict.Reason.TheVariants as reasons
use Rattle.srm_audited.specs.Sessions.{replay_of, IsReplayOf, AreListed, AreOf}
use Rattle.srm_gaps.specs.Gaps.{journals_of, AreComplete, AreOfOneSession}
use Rattle.srm_gaps.specs.Possible.{HasOrder, IsRefusedAt}
use Rattle.srm_audited.specs.Verdicts.{AreGiven, AreHonest, ArePart, IsUngiven, IsMismatch, IsReason, IsVerdict, IsVerdictOn, verdict_of_part, verdict_of_whole}
use Rattle.std.proofs.lemmas.Option.{none-some, same_Some}
use Rattle.srm_audited.proofs.Given.{given_not_foreign}

pub is_replay : {E : Type 0} (r : Record) (v : Result Replayed E)
    → IfOk v (λ p. p.journal.start ≡ start_of r.beginning)
    → IfOk v (λ p. IsLawfulJournal p.journal)
    → IfOk v (λ p. (to : Lcg) × AreByWords pcg64 p.journal.start.config (words_of r.beginning.seed) p.journal.entries to)
    → IfOk v (λ p. MakesAll r.lines.items (begun r) p.journal)
    → IfOk v (λ p. r.lines.items ≡ lines_told r.beginning p.journal.entries (taken_in p.taken.items) r.end)
    → IfOk v (λ p. timers_in p.journal.entries ≤ timers_allowed (length r.lines.items))
    → IfOk v (λ p. TellsOfRuns r p.journal (taken_in p.taken.items))
    → IfOk v (λ p. vec_len p.taken ≡ PAGES)
    → IfOk v (λ p. IsReplayOf r (replay_of r.end p))
is_replay r (Ok p) start lawful words made told bounded runs slots = record { start = start; lawful = lawful; words = words; made = made; told = told; bounded = bounded; runs = runs; slots = length-map p.taken.items (λ (list : Vec PageMsg Global). list.items) ∙ sym p.taken.ok.0 ∙ slots; cut = refl }
is_replay r (Err e) start lawful words made told bounded runs slots = tt

pub honest_ok : {E : Type 0} (ts : List Told) (js : List Journal) (gots : List Got) (r : Result Trace E) → js ≡ journals_of ts → IfOk r (AreAccountedBy js gots) → IfOk r IsRun → IfOk r (λ t. IsHonest t.entries) → IfOk r (λ t. TakesAreDrawn t.entries)
    → IfOk r (λ t. AgreesAtRest t.entries) → IfOk r (AreHonest ts gots)
honest_ok ts js gots (Ok t) same accounted run honest takes rest = record { accounted = subst (λ (xs : List Journal). AreAccountedBy xs gots t) same accounted; run = run; honest = honest; takes = takes; rest = rest }
honest_ok ts js gots (Err e) same accounted run honest takes rest = tt

mismatch_of : (ts : List Told) (js : List Journal) (gots : List Got) (mismatch : Mismatch) → js ≡ journals_of ts → IsRefused js gots mismatch → IsMismatch ts gots mismatch
mismatch_of ts js gots Roster same refused = subst (λ (xs : List Journal). IsRefused xs gots Roster) same refused
mismatch_of ts js gots (Foreign member slot) same refused = subst (λ (xs : List Journal). IsRefused xs gots (Foreign member slot)) same refused
mismatch_of ts js gots (Unsent member entry) same refused = subst (λ (xs : List Journal). IsRefused xs gots (Unsent member entry)) same refused
mismatch_of ts js gots Memory same refused = tt

pub mismatch_err : {T : Type 0} (ts : List Told) (js : List Journal) (gots : List Got) (r : Result T Mismatch) → js ≡ journals_of ts → IfErr r (IsRefused js gots) → IfErr r (IsMismatch ts gots)
mismatch_err ts js gots (Ok t) same refused = tt
mismatch_err ts js gots (Err mismatch) same refused = mismatch_of ts js gots mismatch same refused

-- the verdict by what was found

pub no_roster : (ts : List Told) (gots : List Got) → ¬ (AreComplete ts) → ¬ (AreOfOneSession ts) → IsReason ts gots reasons.Roster
no_roster ts gots incomplete differ = inr (incomplete, differ)

pub are_part : (ts : List Told) → ¬ (AreComplete ts) → AreOfOneSession ts → ArePart ts
are_part ts incomplete session = record { incomplete = incomplete; session = session }

pub stuck_unsent : (ts : List Told) (gots : List Got) (member entry : ℕ) → ArePart ts → IsRefusedAt ts member entry → IsReason ts gots (reasons.Unsent member entry)
stuck_unsent ts gots member entry part refused = inr (part, refused)

pub taken_ungiven : (ts : List Told) (gots : List Got) (member slot : ℕ) → ArePart ts → HasOrder ts → IsUngiven ts gots member slot → IsReason ts gots (reasons.Foreign member slot)
taken_ungiven ts gots member slot are order ungiven = inr (are, order, ungiven)

whole : (ts : List Told) (gots : List Got) (mismatch : Mismatch) (v : Verdict) → AreComplete ts → IsMismatch ts gots mismatch → verdict_of_whole mismatch ≡ Some v → IsVerdictOn ts gots v
whole ts gots Memory v complete is e = absurd (none-some v e)
whole ts gots Roster v complete is e = subst (IsVerdictOn ts gots) (same_Some (NotHonest reasons.Roster) v e) (inl (complete, is))
whole ts gots (Foreign member slot) v complete is e = subst (IsVerdictOn ts gots) (same_Some (NotHonest (reasons.Foreign member slot)) v e) (inl (complete, is))
whole ts gots (Unsent member entry) v complete is e = subst (IsVerdictOn ts gots) (same_Some (NotHonest (reasons.Unsent member entry)) v e) (inl (complete, is))

pub whole_ok : {E : Type 0} (ts : List Told) (gots : List Got) (mismatch : Mismatch) (r : Result Verdict E) → AreComplete ts → IsMismatch ts gots mismatch → IfOk r (λ v. verdict_of_whole mismatch ≡ Some v) → IfOk r (IsVerdictOn ts gots)
whole_ok ts gots mismatch (Ok v) complete is e = whole ts gots mismatch v complete is e
whole_ok ts gots mismatch (Err fault) complete is e = tt

part : (ts : List Told) (gots : List Got) (mismatch : Mismatch) (v : Verdict) → ArePart ts → AreListed ts gots → HasOrder ts → AreGiven ts gots → IsMismatch ts gots mismatch → verdict_of_part mismatch ≡ Some v → IsVerdictOn ts gots v
part ts gots Memory v are listed order given is e = absurd (none-some v e)
part ts gots Roster v are listed order given is e = subst (IsVerdictOn ts gots) (same_Some Undecided v e) (record { part = are; refused = inl is; order = order; given = given })
part ts gots (Foreign member slot) v are listed order given is e = absurd (given_not_foreign ts gots member slot are.session listed given is)
part ts gots (Unsent member entry) v are listed order given is e = subst (IsVerdictOn ts gots) (same_Some Undecided v e) (record { part = are; refused = inr (member, entry, is); order = order; given = given })

pub part_ok : {E : Type 0} (ts : List Told) (gots : List Got) (mismatch : Mismatch) (r : Result Verdict E) → ArePart ts → AreListed ts gots → HasOrder ts → AreGiven ts gots → IsMismatch ts gots mismatch → IfOk r (λ v. verdict_of_part mismatch ≡ Some v) → IfOk r (IsVerdictOn ts gots)
part_ok ts gots mismatch (Ok v) are listed order given is e = part ts gots mismatch v are listed order given is e
part_ok ts gots mismatch (Err fault) are listed order given is e = tt

-- the verdict on what came out is the verdict on the records
pub of_records : (rs : List Record) (ts : List Told) (gots : List Got) (v : Verdict) → AreOf rs ts gots → IsVerdictOn ts gots v → IsVerdict rs v
of_records rs ts gots (Honest t) of on = record { told = ts; gots = gots; of = of; on = on }
of_records rs ts gots Undecided of on = record { told = ts; gots = gots; of = of; on = on }
of_records rs ts gots (NotHonest (reasons.Untold place line)) of on = absurd on
of_records rs ts gots (NotHonest reasons.Roster) of on = record { told = ts; gots = gots; of = of; on = on }
of_records rs ts gots (NotHonest (reasons.Foreign member slot)) of on = record { told = ts; gots = gots; of = of; on = on }
of_records rs ts gots (NotHonest (reasons.Unsent member entry)) of on = record { told = ts; gots = gots; of = of; on = on }

pub of_records_ok : {E : Type 0} (rs : List Record) (ts : List Told) (gots : List Got) (r : Result Verdict E) → AreOf rs ts gots → IfOk r (IsVerdictOn ts gots) → IfOk r (IsVerdict rs)
of_records_ok rs ts gots (Ok v) of on = of_records rs ts gots v of on
of_records_ok rs ts gots (Err e) of on = tt
