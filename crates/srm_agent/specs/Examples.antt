-- What calls return and what their entries say, on examples.
use Rattle.std.specs.Prelude.{◌≡◌, ℕ, [], ◌∷◌, map, Some, None, Result, Ok, Err, refl}
use Rattle.std.proofs.Common.{ap, arith}
use Rattle.std.proofs.lemmas.Option.{same_Some}
use Rattle.srm_names.specs.FullName.{FullName}
use Rattle.srm_names.specs.declared.page_msg.PageMsg.TheVariants.{Open}
use Rattle.srm_names.specs.Names.{first_page, named}
use Rattle.srm_codec.specs.declared.fault.DecodeFault.TheVariants.{Short}
use Rattle.srm_codec.specs.declared.datagram.Datagram.TheVariants.{Data}
use Rattle.srm_entries.specs.declared.cause.Outcome.TheVariants as outcomes
use Rattle.srm_entries.specs.declared.cause.Cause.TheVariants as causes
use Rattle.srm_entries.specs.declared.fault.AgentFault.{AgentFault}
use Rattle.srm_entries.specs.declared.fault.AgentFault.TheVariants.{Leaving, Gone, Memory}
use Rattle.srm_entries.specs.declared.state.AgentState.TheVariants.{Active}
use Rattle.srm_entries.specs.declared.entry.Input.TheVariants as inputs
use Rattle.srm_entries.specs.declared.entry.Input.TheVariants.{Gave}
use Rattle.srm_entries.specs.declared.entry.Verdict.TheVariants.{Done, Ignored, Refused}
use Rattle.srm_entries.specs.Sample.{first_stream, first_drawop, third_drawop, draws, hears, gives, ask_arm}
use Rattle.srm_entries.specs.Still.{entry_without_effects}
use Rattle.srm_agent.specs.Noting.{moment_that_counts, AnswersAs, AnswersHeard, IsDrawnName, verdict_of_outcome}
use Rattle.srm_agent.specs.Heeding.{entry_with}
use Rattle.srm_agent.specs.Waking.{sooner_of}

-- ---- moments: a lower one than the last counts as the last, and a call that takes none has the last

moments : map (λ now. moment_that_counts now 21) (Some 22 ∷ Some 5 ∷ None ∷ []) ≡ 22 ∷ 21 ∷ 21 ∷ []
moments = refl

-- a session message is due at 1000 in any case
soonest : map (λ t. sooner_of t 1000) (Some 22 ∷ Some 5000 ∷ None ∷ []) ≡ 22 ∷ 1000 ∷ 1000 ∷ []
soonest = refl

-- ---- what a call returns: a number, if it is done

abbrev IsThree : ℕ → Type 0
IsThree n = n ≡ 3

abbrev three : Result ℕ AgentFault
three = Ok 3

abbrev refused : AgentFault → Result ℕ AgentFault
refused fault = Err fault

done_says_its_value : AnswersAs IsThree Done three
done_says_its_value = refl

done_isn't_refused : AnswersAs IsThree Done (refused Memory) → ⊥
done_isn't_refused h = h

refused_says_its_fault : AnswersAs IsThree (Refused Gone) (refused Gone)
refused_says_its_fault = refl

refused_says_no_other : AnswersAs IsThree (Refused Gone) (refused Leaving) → ⊥
refused_says_no_other h = absurd (let k : refused Leaving ≡ refused Gone = h in cc)

-- ---- the entry of what was heard, by what is returned

verdicts : map verdict_of_outcome (outcomes.Taken ∷ outcomes.Ignored causes.Gone ∷ []) ≡ Done ∷ Ignored causes.Gone ∷ []
verdicts = refl

taken_so : entry_with 1 10 (inputs.Heard (Data third_drawop)) Active (record { arms = ask_arm 1 0 200000 ∷ []; outcome = outcomes.Taken }) ≡ hears 1 10 (Data third_drawop) (ask_arm 1 0 200000 ∷ [])
taken_so = refl

-- ---- what hearing bytes returns

taken_sets_a_timer : AnswersHeard (hears 1 10 (Data third_drawop) (ask_arm 1 0 200000 ∷ [])) (Ok (record { arms = ask_arm 1 0 200000 ∷ []; outcome = outcomes.Taken }))
taken_sets_a_timer = (refl, refl)

ignored_with_its_cause : Ignored (causes.Decode Short) ≡ verdict_of_outcome (outcomes.Ignored (causes.Decode Short))
ignored_with_its_cause = refl

never_refused : (fault : AgentFault) → Refused fault ≡ verdict_of_outcome outcomes.Taken → ⊥
never_refused fault h = absurd (let k : Refused fault ≡ Done = h in cc)

-- ---- what a draw returns, and the entry of giving the first message

drawn_name : IsDrawnName (draws 0 1 first_drawop) (named first_stream 1)
drawn_name = refl

not_another_name : IsDrawnName (draws 0 1 first_drawop) (named first_stream 2) → ⊥
not_another_name h = let k : 1 ≡ 2 = ap (λ (n : FullName). n.number) (same_Some (named first_stream 1) (named first_stream 2) h) in absurd (omega (arith, k))

an_entry_without_effects : entry_without_effects 1 10 (Gave 0) Done (Some (Open first_page)) Active ≡ gives 1 10 (Some (Open first_page))
an_entry_without_effects = refl
