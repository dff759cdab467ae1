-- Late copies that come, one number after another.
use Rattle.std.proofs.Common.{◌≡◌, ℕ, zero, suc, ◌+◌, ◌-◌, ◌≤◌, ◌<◌, min, Bool, false, List, [], ◌∷◌, ◌++◌, length, ap, sym, ◌∙◌, subst, arith, append_assoc, add-one, inl, inr}
use Rattle.std.specs.Prelude.{◌⊎◌, filter, unwrap_or, if◌then◌else◌}
use Rattle.std.proofs.lemmas.Bool.{cases_lt}
use Rattle.std.proofs.lemmas.List.{append-nil, length-append}
use Rattle.std.proofs.lemmas.List.Elements.{filter-append}
use Rattle.std.proofs.lemmas.Option.{slice_get_past}
use Rattle.srm_names.specs.Histories.{count_up}
use Rattle.srm_names.proofs.Snoc.{up_to_more}
use Rattle.srm_wire.specs.declared.fates.Fate.{Fate}
use Rattle.srm_wire.specs.declared.fates.Fate.TheVariants.{Pass}
use Rattle.srm_wire.specs.declared.sent.Sent.{Sent}
use Rattle.srm_wire.specs.Fates.{fate_of, is_behind, arrivals_at, coming}

abbrev late : List Fate → ℕ → ℕ → Bool
late fates sent number = is_behind (fate_of fates number) number sent

-- the late ones of so many first copies come behind what came before
pub record Collects (fates : List Fate) (sent done : ℕ) (old new : List ℕ) : Type 0 where
  pub is : new ≡ old ++ filter (late fates sent) (count_up 0 done)

pub collects_none : (fates : List Fate) (sent : ℕ) (old : List ℕ) → Collects fates sent 0 old old
collects_none fates sent old = record { is = sym (append-nil old) }

more_is : (fates : List Fate) (sent done : ℕ) (old new : List ℕ) → Collects fates sent done old new → old ++ filter (late fates sent) (count_up 0 (done + 1)) ≡ new ++ filter (late fates sent) (done ∷ [])
more_is fates sent done old new h = ap (λ ns. old ++ filter (late fates sent) ns) (up_to_more done) ∙ ap (λ ns. old ++ ns) (filter-append (late fates sent) (count_up 0 done) (done ∷ [])) ∙ sym (append_assoc old (filter (late fates sent) (count_up 0 done)) (filter (late fates sent) (done ∷ []))) ∙ ap (λ ns. ns ++ filter (late fates sent) (done ∷ [])) (sym h.is)

-- the next one is late, or it isn't
pub collects_more : (fates : List Fate) (sent done : ℕ) (comes : Bool) (old new more : List ℕ) → Collects fates sent done old new → comes ≡ late fates sent done → more ≡ new ++ (if comes then done ∷ [] else []) → Collects fates sent (done + 1) old more
collects_more fates sent done comes old new more h is grown = record { is = grown ∙ ap (λ b. new ++ (if b then done ∷ [] else [])) is ∙ sym (more_is fates sent done old new h) }

-- a copy past the list of fates isn't late
past : (fates : List Fate) (sent n : ℕ) → length fates ≤ n → late fates sent n ≡ false
past fates sent n le = ap (λ f. is_behind (unwrap_or f Pass) n sent) (slice_get_past fates n le)

pub collects_past : (fates : List Fate) (sent more : ℕ) (old new : List ℕ) → Collects fates sent (length fates) old new → Collects fates sent (length fates + more) old new
collects_past fates sent zero old new h = subst (λ n. Collects fates sent n old new) (omega arith) h
collects_past fates sent (suc more) old new h = subst (λ n. Collects fates sent n old new) (omega arith) (collects_more fates sent (length fates + more) false old new new (collects_past fates sent more old new h) (sym (past fates sent (length fates + more) (omega arith))) (sym (append-nil new)))

-- all of them were looked at
pub collects_all : (fates : List Fate) (sent done : ℕ) (old new : List ℕ) → Collects fates sent done old new → done ≡ min sent (length fates) → new ≡ old ++ filter (late fates sent) (count_up 0 sent)
collects_all fates sent done old new h all = which (cases_lt (length fates) sent)
  where
    which : ((length fates < sent) ⊎ (sent ≤ length fates)) → new ≡ old ++ filter (late fates sent) (count_up 0 sent)
    which (inl beyond) = (subst (λ n. Collects fates sent n old new) (omega (arith, beyond)) (collects_past fates sent (sent - length fates) old new (subst (λ n. Collects fates sent n old new) (omega (arith, all, beyond)) h))).is
    which (inr within) = (subst (λ n. Collects fates sent n old new) (omega (arith, all, within)) h).is

-- what comes of one copy more
pub comes_more : (fates : List Fate) (sent : ℕ) (put numbers : List ℕ) → put ≡ coming fates sent → numbers ≡ arrivals_at fates sent → put ++ numbers ≡ coming fates (sent + 1)
comes_more fates sent put numbers was is = ap (λ ns. ns ++ numbers) was ∙ ap (λ ns. coming fates sent ++ ns) is ∙ ap (coming fates) (sym (add-one sent))

pub puts_more : (fates : List Fate) (went : List Sent) (sent : Sent) (put numbers : List ℕ) → put ≡ coming fates (length went) → numbers ≡ arrivals_at fates (length went) → put ++ numbers ≡ coming fates (length (went ++ sent ∷ []))
puts_more fates went sent put numbers was is = comes_more fates (length went) put numbers was is ∙ ap (coming fates) (sym (length-append went (sent ∷ [])))
