-- No entry of a run is of a call that was out of memory.
use Rattle.std.proofs.Common.{◌≢◌, ℕ, Bool, true, false, List, [], ◌∷◌, ◌++◌, sym, ◌∙◌}
use Rattle.std.specs.List.{AllByRecursion}
use Rattle.srm_names.specs.Histories.{steps_after}
use Rattle.srm_entries.specs.declared.fault.AgentFault.TheVariants.{Memory}
use Rattle.srm_entries.specs.declared.fault.AgentFault.TheVariants as faults
use Rattle.srm_entries.specs.declared.cause.Cause.TheVariants as causes
use Rattle.srm_entries.specs.declared.entry.Entry.{Entry}
use Rattle.srm_entries.specs.declared.entry.Input.{Input}
use Rattle.srm_entries.specs.declared.entry.Input.TheVariants.{Drew, Heard, Noise, Ticked, Showed, AskedLeave, Gave, Took}
use Rattle.srm_entries.specs.declared.entry.Verdict.{Verdict}
use Rattle.srm_entries.specs.declared.entry.Verdict.TheVariants.{Ignored, Refused}
use Rattle.srm_entries.specs.Configs.{Config}
use Rattle.srm_entries.specs.Entries.{is_gone, state}
use Rattle.srm_entries.specs.Runs.{EntryRight, IsMemberRun}
use Rattle.srm_entries.specs.Verdicts.{VerdictRight, first_cause, noise_right}
use Rattle.srm_world.specs.Claims.{NoneForMemory}

-- no cause is memory
draw_not : (a b c d e : Bool) → first_cause ((a, Refused faults.Gone) ∷ (b, Refused faults.Leaving) ∷ (c, Refused faults.BodyLong) ∷ (d, Refused faults.PageLimit) ∷ (e, Refused faults.StreamFull) ∷ []) ≢ Refused Memory
draw_not true b c d e = λ r. cc
draw_not false true c d e = λ r. cc
draw_not false false true d e = λ r. cc
draw_not false false false true e = λ r. cc
draw_not false false false false true = λ r. cc
draw_not false false false false false = λ r. cc

heard_not : (a b c d e f : Bool) → first_cause ((a, Ignored causes.Gone) ∷ (b, Ignored causes.Own) ∷ (c, Ignored causes.Stranger) ∷ (d, Ignored causes.PageLimit) ∷ (e, Ignored causes.BeyondFinal) ∷ (f, Ignored causes.Conflict) ∷ []) ≢ Refused Memory
heard_not true b c d e f = λ r. cc
heard_not false true c d e f = λ r. cc
heard_not false false true d e f = λ r. cc
heard_not false false false true e f = λ r. cc
heard_not false false false false true f = λ r. cc
heard_not false false false false false true = λ r. cc
heard_not false false false false false false = λ r. cc

show_not : (a b : Bool) → first_cause ((a, Refused faults.Gone) ∷ (b, Refused faults.PageLimit) ∷ []) ≢ Refused Memory
show_not true b = λ r. cc
show_not false true = λ r. cc
show_not false false = λ r. cc

leave_not : (a b : Bool) → first_cause ((a, Refused faults.Gone) ∷ (b, Refused faults.Leaving) ∷ []) ≢ Refused Memory
leave_not true b = λ r. cc
leave_not false true = λ r. cc
leave_not false false = λ r. cc

noise_not : (gone : Bool) (v : Verdict) → noise_right gone v → v ≢ Refused Memory
noise_not true v h = λ e. cc
noise_not false v (fault, other, is) = λ e. cc

pub verdict_not : (c : Config) (es : List Entry) (i : Input) (v : Verdict) → VerdictRight c es i v → v ≢ Refused Memory
verdict_not c es (Drew page body) v h = λ r. draw_not _ _ _ _ _ (sym h ∙ r)
verdict_not c es (Heard g) v h = λ r. heard_not _ _ _ _ _ _ (sym h.1 ∙ r)
verdict_not c es Noise v h = noise_not (is_gone (state es)) v h
verdict_not c es Ticked v h = λ e. cc
verdict_not c es (Showed page) v h = λ r. show_not _ _ (sym h ∙ r)
verdict_not c es AskedLeave v h = λ r. leave_not _ _ (sym h ∙ r)
verdict_not c es (Gave slot) v h = λ e. cc
verdict_not c es (Took slot) v h = λ e. cc

each_after : (c : Config) (made : ℕ) (before es : List Entry) → AllByRecursion (EntryRight c made) (steps_after before es) → NoneForMemory es
each_after c made before [] h = tt
each_after c made before (e ∷ es) h = (verdict_not c before e.input e.verdict h.0.verdict, each_after c made (before ++ e ∷ []) es h.1)

pub none_for_memory : (c : Config) (made : ℕ) (es : List Entry) → IsMemberRun c made es → NoneForMemory es
none_for_memory c made es run = each_after c made [] es run.each
