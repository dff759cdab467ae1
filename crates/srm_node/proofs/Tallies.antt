-- Counting one entry after another.
use Rattle.std.proofs.Common.{◌≡◌, ℕ, ◌+◌, ◌-◌, ◌^◌, ◌<◌, min, Bool, true, false, List, [], ◌∷◌, ◌++◌, length, get_or, take, ap, sym, ◌∙◌, arith}
use Rattle.std.specs.Prelude.{count_by, cond, if◌then◌else◌}
use Rattle.std.proofs.lemmas.List.{take_more}
use Rattle.std.proofs.lemmas.List.Sums.{sum_by-append}
use Rattle.srm_entries.specs.declared.entry.Entry.{Entry}
use Rattle.srm_node.specs.Counting.{count_up_to}

one_more : (p : Entry → Bool) (es : List Entry) (n : ℕ) (e : Entry) → n < length es → e ≡ get_or es n e → count_by p (take (n + 1) es) ≡ count_by p (take n es) + cond (p e) 1 0
one_more p es n e below is = ap (count_by p) (take_more es n e below) ∙ ap (λ x. count_by p (take n es ++ x ∷ [])) (sym is) ∙ sum_by-append (λ x. cond (p x) 1 0) (take n es) (e ∷ []) ∙ (let k : ℕ = cond (p e) 1 0 in omega arith)

-- one entry more was looked at
pub counts_more : (p : Entry → Bool) (es : List Entry) (n : ℕ) (e : Entry) (more : Bool) (count next : ℕ) → n < length es → e ≡ get_or es n e → more ≡ p e → count ≡ count_up_to p (take n es)
    → next ≡ (if more then min (count + 1) (2 ^ 64 - 1) else count) → next ≡ count_up_to p (take (n + 1) es)
counts_more p es n e more count next below is say so next_is = go more say next_is (one_more p es n e below is)
  where
    go : (b : Bool) → b ≡ p e → next ≡ (if b then min (count + 1) (2 ^ 64 - 1) else count) → count_by p (take (n + 1) es) ≡ count_by p (take n es) + cond (p e) 1 0 → next ≡ count_up_to p (take (n + 1) es)
    go true say next_is one =
        let one' : count_by p (take (n + 1) es) ≡ count_by p (take n es) + 1 = one ∙ ap (λ b. count_by p (take n es) + cond b 1 0) (sym say) in
        omega (arith, so, next_is, one')
    go false say next_is one =
        let one' : count_by p (take (n + 1) es) ≡ count_by p (take n es) + 0 = one ∙ ap (λ b. count_by p (take n es) + cond b 1 0) (sym say) in
        omega (arith, so, next_is, one')
