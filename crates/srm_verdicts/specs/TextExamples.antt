-- What is printed of a verdict, in examples.
use Rattle.std.specs.Prelude.{◌≡◌, ℕ, [], ◌∷◌, map, codes, true, false, refl}
use Rattle.std.specs.Fmt.{digits}
use Rattle.srm_frames.specs.declared.line.Call.{Call}
use Rattle.srm_frames.specs.declared.line.Call.TheVariants.{Ticked, AskedLeave, Gave, Ended}
use Rattle.srm_frames.specs.declared.line.Line.{Line}
use Rattle.srm_audited.specs.declared.verdict.Reason.TheVariants.{Untold, Roster, Foreign, Unsent}
use Rattle.srm_audited.specs.declared.verdict.Verdict.TheVariants.{NotHonest, Undecided}
use Rattle.srm_verdicts.specs.VerdictTexts.{is_call, call_at, counted, verdict_text}

abbrev at : ℕ → Call → Line
at moment call = record { moment = moment; call = call }

-- the give at 30 waits for its moment, and that at 20 doesn't
calls_of_entries : map (call_at 0 (at 10 Ticked ∷ at 20 Ticked ∷ at 20 (Gave 0) ∷ at 30 (Gave 0) ∷ at 30 AskedLeave ∷ [])) (0 ∷ 1 ∷ 2 ∷ 3 ∷ 4 ∷ 5 ∷ []) ≡ 0 ∷ 1 ∷ 2 ∷ 3 ∷ 3 ∷ 4 ∷ []
calls_of_entries = refl

-- so does a give that is the first call
behind_a_give : map (call_at 0 (at 5 (Gave 0) ∷ at 40 Ticked ∷ [])) (0 ∷ 1 ∷ 2 ∷ []) ≡ 0 ∷ 0 ∷ 1 ∷ []
behind_a_give = refl

-- and one at the moment when its member was made doesn't
at_once : map (call_at 5 (at 5 (Gave 0) ∷ at 40 Ticked ∷ [])) (0 ∷ 1 ∷ []) ≡ 0 ∷ 1 ∷ []
at_once = refl

calls : map is_call (Ticked ∷ Gave 0 ∷ Ended ∷ []) ≡ true ∷ true ∷ false ∷ []
calls = refl

counts : map (λ n. counted n (codes "call")) (0 ∷ 1 ∷ 20 ∷ []) ≡ codes "0 calls" ∷ codes "1 call" ∷ codes "20 calls" ∷ []
unfolding digits
counts = refl

undecided : verdict_text [] [] [] Undecided ≡ codes "undecided: session 0, 0 of 0 records, 0 of them cut\n"
unfolding digits
undecided = refl

untold : verdict_text [] (codes "a" ∷ codes "b" ∷ []) [] (NotHonest (Untold 1 20)) ≡ codes "not honest: b isn't the record of any run of its member\nframe 20 of b is the first that differs when its calls are made again\n"
unfolding digits
untold = refl

roster : verdict_text [] [] [] (NotHonest Roster) ≡ codes "not honest: the records aren't of different members of one session\n"
roster = refl

foreign : verdict_text [] [] [] (NotHonest (Foreign 3 7)) ≡ codes "not honest: the worker of page slot 7 of member 3 took what it wasn't given\n"
unfolding digits
foreign = refl

in_a_room : verdict_text (codes "ada" ∷ codes "grace" ∷ []) [] [] (NotHonest (Unsent 1 12)) ≡ codes "not honest: call 12 of grace hears a datagram that nobody can have sent before\n"
unfolding digits
in_a_room = refl

unsent : verdict_text [] [] [] (NotHonest (Unsent 31 12)) ≡ codes "not honest: call 12 of member 31 hears a datagram that nobody can have sent before\n"
unfolding digits
unsent = refl
