-- An order without what a member did behind its replay. Where that sent nothing, the order stays honest.
use Rattle.std.proofs.Common.{◌≡◌, ◌≢◌, ℕ, ◌==◌, Bool, true, false, ◌&&◌, List, [], ◌∷◌, ◌++◌, refl, ap, sym, ◌∙◌, subst}
use Rattle.std.specs.Prelude.{cond, if◌then◌else◌}
use Rattle.std.specs.List.{AllByRecursion}
use Rattle.srm_names.specs.Histories.{steps, steps_after}
use Rattle.srm_entries.specs.declared.entry.Entry.{Entry}
use Rattle.srm_entries.specs.Entries.{sent}
use Rattle.srm_world.specs.Traces.{of_member}
use Rattle.srm_world.proofs.Honesty.{IsHonestStep}
use Rattle.srm_replays.specs.Calls.{acts}
use Rattle.srm_replays.specs.Law.{acting}
use Rattle.srm_replays.proofs.Replaying.{kept, dropped}
use Rattle.srm_gaps.proofs.Filling.{OneCall, another, idle, acting_one, one_call, head_is, tail_is, apart, SendsToo, sends_both, sends_none, heard_too}

-- of this member's calls that act only as many as these, the first
abbrev pub within : ℕ → List Entry → List Entry → List Entry
within m told [] = []
within m [] (e ∷ es) = if e.member == m && acts e then within m [] es else e ∷ within m [] es
within m (x ∷ told) (e ∷ es) = if e.member == m && acts e then e ∷ within m told es else e ∷ within m (x ∷ told) es

abbrev fewer : List Entry → List Entry
fewer [] = []
fewer (x ∷ xs) = xs

abbrev kept_if_more : List Entry → Entry → List Entry → List Entry
kept_if_more [] e es = es
kept_if_more (x ∷ xs) e es = e ∷ es

abbrev step : ℕ → List Entry → Entry → List Entry → Bool → List Entry
step m told e es b = if b then kept_if_more told e (within m (fewer told) es) else e ∷ within m told es

one_step : (m : ℕ) (told : List Entry) (e : Entry) (es : List Entry) → within m told (e ∷ es) ≡ step m told e es (e.member == m && acts e)
one_step m [] e es = refl
one_step m (x ∷ told) e es = refl

at_another : (m : ℕ) (told : List Entry) (e : Entry) (es : List Entry) → (e.member == m) ≡ false → within m told (e ∷ es) ≡ e ∷ within m told es
at_another m told e es p = one_step m told e es ∙ ap (λ (a : Bool). step m told e es (a && acts e)) p

at_idle : (m : ℕ) (told : List Entry) (e : Entry) (es : List Entry) → (e.member == m) ≡ true → acts e ≡ false → within m told (e ∷ es) ≡ e ∷ within m told es
at_idle m told e es p q = one_step m told e es ∙ ap (λ (a : Bool). step m told e es (a && acts e)) p ∙ ap (step m told e es) q

at_acting : (m : ℕ) (told : List Entry) (e : Entry) (es : List Entry) → (e.member == m) ≡ true → acts e ≡ true → within m told (e ∷ es) ≡ kept_if_more told e (within m (fewer told) es)
at_acting m told e es p q = one_step m told e es ∙ ap (λ (a : Bool). step m told e es (a && acts e)) p ∙ ap (step m told e es) q

pub all_within : (P : Entry → Type 0) (m : ℕ) (told es : List Entry) → AllByRecursion P es → AllByRecursion P (within m told es)
all_within P m told [] all = tt
all_within P m told (e ∷ es) all = subst (AllByRecursion P) (sym (one_step m told e es)) (go (e.member == m && acts e) told (all_within P m told es all.1) (all_within P m (fewer told) es all.1))
  where
    more_or : (xs ws : List Entry) → AllByRecursion P ws → AllByRecursion P (kept_if_more xs e ws)
    more_or [] ws rest = rest
    more_or (x ∷ xs) ws rest = (all.0, rest)

    go : (b : Bool) (xs : List Entry) → AllByRecursion P (within m told es) → AllByRecursion P (within m (fewer told) es) → AllByRecursion P (step m told e es b)
    go true xs rest less = more_or told (within m (fewer told) es) less
    go false xs rest less = (all.0, rest)

pub others_within : (m k : ℕ) (told es : List Entry) → k ≢ m → of_member k (within m told es) ≡ of_member k es
others_within m k told [] differ = refl
others_within m k told (e ∷ es) differ = go (one_call m e) (λ xs. others_within m k xs es differ)
  where
    put : (xs ws : List Entry) → (e.member == k) ≡ false → of_member k (kept_if_more xs e ws) ≡ of_member k ws
    put [] ws p = refl
    put (x ∷ xs) ws p = dropped (λ (y : Entry). y.member == k) e ws p

    go : OneCall m e → ((xs : List Entry) → of_member k (within m xs es) ≡ of_member k es) → of_member k (within m told (e ∷ es)) ≡ of_member k (e ∷ es)
    go (another p) more = ap (of_member k) (at_another m told e es p) ∙ ap (λ w. cond (e.member == k) (e ∷ w) w) (more told)
    go (idle p q) more = ap (of_member k) (at_idle m told e es p q) ∙ ap (λ w. cond (e.member == k) (e ∷ w) w) (more told)
    go (acting_one p q) more =
        ap (of_member k) (at_acting m told e es p q) ∙ put told (within m (fewer told) es) (apart m k e differ p) ∙ more (fewer told) ∙ sym (dropped (λ (y : Entry). y.member == k) e es (apart m k e differ p))

abbrev is_of : ℕ → Entry → Bool
is_of m e = e.member == m

pub acting_within : (m : ℕ) (told es rest : List Entry) → told ++ rest ≡ acting (of_member m es) → acting (of_member m (within m told es)) ≡ told
acting_within m [] [] rest is = refl
acting_within m (x ∷ told) [] rest is = absurd (cc)
acting_within m told (e ∷ es) rest is = go (one_call m e) (λ xs more same. acting_within m xs es more same)
  where
    taken : (e.member == m) ≡ true → acts e ≡ true → ((xs more : List Entry) → xs ++ more ≡ acting (of_member m es) → acting (of_member m (within m xs es)) ≡ xs)
        → (xs : List Entry) → xs ++ rest ≡ e ∷ acting (of_member m es) → acting (of_member m (kept_if_more xs e (within m (fewer xs) es))) ≡ xs
    taken p q later [] same = later [] (acting (of_member m es)) refl
    taken p q later (x ∷ xs) same =
        ap acting (kept (is_of m) e (within m xs es) p) ∙ kept acts e (of_member m (within m xs es)) q
        ∙ ap (λ w. e ∷ w) (later xs rest (tail_is x e (xs ++ rest) (acting (of_member m es)) same)) ∙ ap (λ y. y ∷ xs) (sym (head_is x e (xs ++ rest) (acting (of_member m es)) same))

    go : OneCall m e → ((xs more : List Entry) → xs ++ more ≡ acting (of_member m es) → acting (of_member m (within m xs es)) ≡ xs) → acting (of_member m (within m told (e ∷ es))) ≡ told
    go (another p) later = ap (λ w. acting (of_member m w)) (at_another m told e es p) ∙ ap acting (dropped (is_of m) e (within m told es) p) ∙ later told rest (is ∙ ap acting (dropped (is_of m) e es p))
    go (idle p q) later =
        ap (λ w. acting (of_member m w)) (at_idle m told e es p q) ∙ ap acting (kept (is_of m) e (within m told es) p) ∙ dropped acts e (of_member m (within m told es)) q
        ∙ later told rest (is ∙ ap acting (kept (is_of m) e es p) ∙ dropped acts e (of_member m es) q)
    go (acting_one p q) later =
        ap (λ w. acting (of_member m w)) (at_acting m told e es p q) ∙ taken p q later told (is ∙ ap acting (kept (is_of m) e es p) ∙ kept acts e (of_member m es) q)

-- the first of a list that sends nothing sends nothing
quiet_first : (e : Entry) (es : List Entry) → sent (e ∷ es) ≡ [] → (e.effects.outs ≡ []) × (sent es ≡ [])
quiet_first e es none = go e.effects.outs none
  where
    go : (gs : List _) → gs ++ sent es ≡ [] → (gs ≡ []) × (sent es ≡ [])
    go [] same = (refl, same)
    go (g ∷ gs) same = absurd (cc)

honest_along : (m : ℕ) (told es rest before now : List Entry) → told ++ rest ≡ acting (of_member m es) → sent rest ≡ [] → SendsToo before now
    → AllByRecursion IsHonestStep (steps_after before es) → AllByRecursion IsHonestStep (steps_after now (within m told es))
honest_along m told [] rest before now is silent too honest = tt
honest_along m told (e ∷ es) rest before now is silent too honest = go (one_call m e) (λ xs more then_ same none send. honest_along m xs es more (before ++ e ∷ []) then_ same none send honest.1)
  where
    stepped : (ws : List Entry) → AllByRecursion IsHonestStep (steps_after (now ++ e ∷ []) ws) → AllByRecursion IsHonestStep (steps_after now (e ∷ ws))
    stepped ws more = (heard_too before now e too honest.0, more)

    taken : ((xs more then_ : List Entry) → xs ++ more ≡ acting (of_member m es) → sent more ≡ [] → SendsToo (before ++ e ∷ []) then_ → AllByRecursion IsHonestStep (steps_after then_ (within m xs es)))
        → (xs : List Entry) → xs ++ rest ≡ e ∷ acting (of_member m es) → AllByRecursion IsHonestStep (steps_after now (kept_if_more xs e (within m (fewer xs) es)))
    taken later [] same =
        let none = quiet_first e (acting (of_member m es)) (ap sent (sym same) ∙ silent) in
        later [] (acting (of_member m es)) now refl none.1 (sends_none before now e none.0 too)
    taken later (x ∷ xs) same =
        stepped (within m xs es) (later xs rest (now ++ e ∷ []) (tail_is x e (xs ++ rest) (acting (of_member m es)) same) silent (sends_both before now e too))

    go : OneCall m e
        → ((xs more then_ : List Entry) → xs ++ more ≡ acting (of_member m es) → sent more ≡ [] → SendsToo (before ++ e ∷ []) then_ → AllByRecursion IsHonestStep (steps_after then_ (within m xs es)))
        → AllByRecursion IsHonestStep (steps_after now (within m told (e ∷ es)))
    go (another p) later = subst (λ w. AllByRecursion IsHonestStep (steps_after now w)) (sym (at_another m told e es p))
        (stepped (within m told es) (later told rest (now ++ e ∷ []) (is ∙ ap acting (dropped (is_of m) e es p)) silent (sends_both before now e too)))
    go (idle p q) later = subst (λ w. AllByRecursion IsHonestStep (steps_after now w)) (sym (at_idle m told e es p q))
        (stepped (within m told es) (later told rest (now ++ e ∷ []) (is ∙ ap acting (kept (is_of m) e es p) ∙ dropped acts e (of_member m es) q) silent (sends_both before now e too)))
    go (acting_one p q) later = subst (λ w. AllByRecursion IsHonestStep (steps_after now w)) (sym (at_acting m told e es p q))
        (taken later told (is ∙ ap acting (kept (is_of m) e es p) ∙ kept acts e (of_member m es) q))

pub honest_within : (m : ℕ) (told es rest : List Entry) → told ++ rest ≡ acting (of_member m es) → sent rest ≡ [] → AllByRecursion IsHonestStep (steps es) → AllByRecursion IsHonestStep (steps (within m told es))
honest_within m told es rest is silent honest = honest_along m told es rest [] [] is silent (λ g h. h) honest
