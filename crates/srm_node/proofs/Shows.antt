-- Showing a page, by the calls of the recorder.
use Rattle.std.proofs.Common.{◌≡◌, ℕ, ap, sym, ◌∙◌, inl, inr, refl}
use Rattle.std.specs.Prelude.{Some, Result, Ok, Err}
use Rattle.srm_names.specs.declared.page.Page.{Page}
use Rattle.srm_control.specs.declared.command.PageRefusal.{PageRefusal}
use Rattle.srm_entries.specs.declared.entry.Entry.{Entry}
use Rattle.srm_entries.specs.declared.entry.Input.TheVariants.{Showed}
use Rattle.srm_entries.specs.declared.entry.Verdict.{Verdict}
use Rattle.srm_entries.specs.declared.entry.Verdict.TheVariants.{Done, Ignored, Refused}
use Rattle.srm_entries.specs.declared.fault.AgentFault.{AgentFault}
use Rattle.srm_entries.specs.declared.fault.AgentFault.TheVariants as faults
use Rattle.srm_agent.specs.Noting.{AnswersAs}
use Rattle.srm_world.specs.Traces.{Journal}
use Rattle.srm_world.specs.Claims.{IsLawfulJournal}
use Rattle.srm_world.specs.Recording.{Records}
use Rattle.srm_node.specs.Showing.{ShowsOne, outcome_of, refusal_of}
use Rattle.srm_node.proofs.Rightly.{not_memory}

-- a call that has no value to tell
abbrev Silent : Entry → Unit {0} → Type 0
Silent e u = Unit {0}

same_fault : (r : Result (Unit {0}) AgentFault) (f g : AgentFault) → r ≡ Err f → r ≡ Err g → g ≡ f
same_fault r f g p q = cc

not_ok : (r : Result (Unit {0}) AgentFault) (u : Unit {0}) (f : AgentFault) → r ≡ Ok u → r ≡ Err f → ⊥
not_ok r u f p q = cc

-- the page was shown
pub shows_done : (now : ℕ) (page : Page) (j k : Journal) → Records (Some now) (Showed page) Silent j k (Ok tt) → ShowsOne now page (Ok page) j k
shows_done now page j k (inr (wrong, same)) = absurd (not_ok (Ok tt) tt faults.Memory refl wrong)
shows_done now page j k (inl (e, grows, input, answers)) = record { entry = e; grown = grows.grown; moment = grows.moment; input = input; came = came e.verdict answers }
  where
    came : (v : Verdict) → AnswersAs (Silent e) v (Ok tt) → Ok page ≡ outcome_of page v
    came Done h = refl
    came (Ignored cause) h = absurd h
    came (Refused fault) h = absurd (not_ok (Ok tt) tt fault refl h)

-- or refused, which has its entry too
pub shows_refused : (now : ℕ) (page : Page) (fault : AgentFault) (told : PageRefusal) (j k : Journal) → (fault ≡ faults.Memory → ⊥) → told ≡ refusal_of fault → Records (Some now) (Showed page) Silent j k (Err fault) → ShowsOne now page (Err told) j k
shows_refused now page fault told j k not is (inr (memory, same)) = absurd (not (sym (same_fault (Err fault) fault faults.Memory refl memory)))
shows_refused now page fault told j k not is (inl (e, grows, input, answers)) = record { entry = e; grown = grows.grown; moment = grows.moment; input = input; came = ap Err is ∙ came e.verdict answers }
  where
    came : (v : Verdict) → AnswersAs (Silent e) v (Err fault) → Err (refusal_of fault) ≡ outcome_of page v
    came Done h = absurd h
    came (Ignored cause) h = absurd h
    came (Refused other) h = ap (λ f. Err (refusal_of f)) (sym (same_fault (Err fault) fault other refl h))

-- memory ran out, and nothing was entered
pub shows_not : (now : ℕ) (page : Page) (fault : AgentFault) (j k : Journal) → IsLawfulJournal k → fault ≡ faults.Memory → Records (Some now) (Showed page) Silent j k (Err fault) → k ≡ j
shows_not now page fault j k lawful memory (inr (wrong, same)) = same
shows_not now page fault j k lawful memory (inl (e, grows, input, answers)) = absurd (which e.verdict refl answers)
  where
    which : (v : Verdict) → e.verdict ≡ v → AnswersAs (Silent e) v (Err fault) → ⊥
    which Done at_v h = h
    which (Ignored cause) at_v h = h
    which (Refused f) at_v h = not_memory j k e grows.grown lawful (at_v ∙ ap Refused (same_fault (Err fault) fault f refl h ∙ memory))
