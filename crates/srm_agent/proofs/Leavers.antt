-- Who is known to have left, and how many aren't.
use Rattle.std.proofs.Common.{◌≡◌, ℕ, ◌+◌, ◌≤◌, Bool, true, false, not, List, [], ◌∷◌, refl, ap, sym, ◌∙◌, arith}
use Rattle.std.specs.Prelude.{Option, Some, None, is_some, count_by, cond}
use Rattle.std.proofs.lemmas.List.Sums.{sum_by-append}
use Rattle.srm_names.specs.declared.stream.Stream.{Stream}
use Rattle.srm_names.specs.FullName.{FullName}
use Rattle.srm_names.specs.Histories.{count_up}
use Rattle.srm_names.proofs.Snoc.{up_to_more}
use Rattle.srm_store.specs.Finals.{final_in}
use Rattle.srm_entries.specs.declared.entry.Entry.{Entry}
use Rattle.srm_entries.specs.Configs.{Config}
use Rattle.srm_agent.specs.Contents.{AgentContent}
use Rattle.srm_agent.specs.Fits.{AgentFits}
use Rattle.srm_agent.specs.SessionMessages.{SaysLeft, CountsOnce}
use Rattle.srm_entries.specs.Verdicts.{told}

-- a stream has an end exactly where its source was told
pub told_by_final : (o : Option (List FullName)) (s : Stream) → is_some (final_in o s) ≡ is_some o
told_by_final None s = refl
told_by_final (Some rows) s = refl

-- so many of the members below n aren't known to have left
pub record CountsLeft {W : Type 0} (a : AgentContent W) (n count : ℕ) : Type 0 where
  pub is : (c : Config) (made : ℕ) (past : List Entry) → AgentFits c made past a → count ≡ count_by (λ m. not (is_some (told past m))) (count_up 0 n)
  pub few : count ≤ n

count_one_more : (p : ℕ → Bool) (n : ℕ) → count_by p (count_up 0 (n + 1)) ≡ count_by p (count_up 0 n) + cond (p n) 1 0
count_one_more p n = ap (count_by p) (up_to_more n) ∙ sum_by-append (λ m. cond (p m) 1 0) (count_up 0 n) (n ∷ []) ∙ (let k : ℕ = cond (p n) 1 0 in omega arith)

pub counts_more : {W : Type 0} (a : AgentContent W) (n count more : ℕ) → CountsLeft a n count → CountsOnce a n more → CountsLeft a (n + 1) (count + more)
counts_more a n count more sofar one = record {
  is = λ c made past fits. ap (λ k. k + more) (sofar.is c made past fits) ∙ ap (λ k. count_by (λ m. not (is_some (told past m))) (count_up 0 n) + k) (one.is c made past fits) ∙ sym (count_one_more (λ m. not (is_some (told past m))) n);
  few = omega (arith, sofar.few, one.few);
}

pub once_unless_left : {W : Type 0} (a : AgentContent W) (m : ℕ) (left : Bool) → SaysLeft a m left → CountsOnce a m (cond left 0 1)
once_unless_left a m true says = record { is = λ c made past fits. ap (λ b. cond (not b) 1 0) (says.is c made past fits); few = omega arith }
once_unless_left a m false says = record { is = λ c made past fits. ap (λ b. cond (not b) 1 0) (says.is c made past fits); few = omega arith }
