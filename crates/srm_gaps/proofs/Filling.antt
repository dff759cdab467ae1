-- A replay in place of what a member did: what acts in the order is the same, the other members' parts too, and the order stays honest.
use Rattle.std.proofs.Common.{◌≡◌, ◌≢◌, ℕ, ◌==◌, Bool, true, false, List, [], ◌∷◌, ◌++◌, refl, ap, sym, ◌∙◌, subst, inl, inr, append_assoc}
use Rattle.std.specs.Prelude.{None, cond, IfSome, Contains, if◌then◌else◌}
use Rattle.std.specs.List.{AllByRecursion}
use Rattle.std.proofs.lemmas.Bool.{ne_eqb, eqb-true, eq-eqb}
use Rattle.std.proofs.lemmas.List.{append-nil}
use Rattle.std.proofs.lemmas.List.Elements.{filter-append}
use Rattle.std.proofs.lemmas.Option.{IfSome_then}
use Rattle.std.proofs.lemmas.Grind.{flat_map-append}
use Rattle.srm_names.specs.Histories.{steps, steps_after}
use Rattle.srm_names.proofs.Lists.{Has, Has-append, Has-front, Has-back, Has-contained, Has-Contains, steps_after-append, AllByRecursion-append, all_by}
use Rattle.srm_codec.specs.declared.datagram.Datagram.{Datagram}
use Rattle.srm_entries.specs.declared.entry.Entry.{Entry}
use Rattle.srm_entries.specs.Entries.{accepted, sent}
use Rattle.srm_world.specs.Traces.{of_member}
use Rattle.srm_world.proofs.Honesty.{IsHonestStep}
use Rattle.srm_replays.specs.Calls.{acts}
use Rattle.srm_replays.specs.Law.{acting, RestsUnseen}
use Rattle.srm_replays.proofs.Replaying.{kept, dropped}
use Rattle.srm_gaps.specs.Retelling.{idle_front, behind_acting, with_replay}

abbrev pub IsIdle : Entry → Type 0
IsIdle e = acts e ≡ false

-- one call of the order

pub data OneCall (m : ℕ) (e : Entry) : Type 0 where
  another : (e.member == m) ≡ false → OneCall m e
  idle : (e.member == m) ≡ true → acts e ≡ false → OneCall m e
  acting_one : (e.member == m) ≡ true → acts e ≡ true → OneCall m e

pub one_call : (m : ℕ) (e : Entry) → OneCall m e
one_call m e = go (e.member == m) refl (acts e) refl
  where
    go : (a : Bool) → (e.member == m) ≡ a → (b : Bool) → acts e ≡ b → OneCall m e
    go false p b q = another p
    go true p false q = idle p q
    go true p true q = acting_one p q

module _ (m : ℕ) (rs : List Entry) (e : Entry) (es : List Entry) where
  abbrev step : Bool → Bool → List Entry
  step a b = if a then (if b then idle_front rs ++ e ∷ with_replay m (behind_acting rs) es else with_replay m rs es) else e ∷ with_replay m rs es

  at_another : (e.member == m) ≡ false → with_replay m rs (e ∷ es) ≡ e ∷ with_replay m rs es
  at_another p = ap (λ (a : Bool). step a (acts e)) p

  at_idle : (e.member == m) ≡ true → acts e ≡ false → with_replay m rs (e ∷ es) ≡ with_replay m rs es
  at_idle p q = ap (λ (a : Bool). step a (acts e)) p ∙ ap (step true) q

  at_acting : (e.member == m) ≡ true → acts e ≡ true → with_replay m rs (e ∷ es) ≡ idle_front rs ++ e ∷ with_replay m (behind_acting rs) es
  at_acting p q = ap (λ (a : Bool). step a (acts e)) p ∙ ap (step true) q

-- the front of a replay, up to its first call that acts

front_of : (r : Entry) (rs : List Entry) (b : Bool) → acts r ≡ b → idle_front (r ∷ rs) ≡ (if b then [] else r ∷ idle_front rs)
front_of r rs b q = ap (λ (b : Bool). if b then [] else r ∷ idle_front rs) q

behind_of : (r : Entry) (rs : List Entry) (b : Bool) → acts r ≡ b → behind_acting (r ∷ rs) ≡ (if b then rs else behind_acting rs)
behind_of r rs b q = ap (λ (b : Bool). if b then rs else behind_acting rs) q

-- what holds of each call of the replay
all_front : (P : Entry → Type 0) (rs : List Entry) → AllByRecursion P rs → AllByRecursion P (idle_front rs)
all_front P [] all = tt
all_front P (r ∷ rs) all = go (acts r) (all_front P rs all.1)
  where
    go : (b : Bool) → AllByRecursion P (idle_front rs) → AllByRecursion P (if b then [] else r ∷ idle_front rs)
    go true more = tt
    go false more = (all.0, more)

all_behind : (P : Entry → Type 0) (rs : List Entry) → AllByRecursion P rs → AllByRecursion P (behind_acting rs)
all_behind P [] all = tt
all_behind P (r ∷ rs) all = go (acts r) (all_behind P rs all.1)
  where
    go : (b : Bool) → AllByRecursion P (behind_acting rs) → AllByRecursion P (if b then rs else behind_acting rs)
    go true more = all.1
    go false more = more

-- and what holds of each that doesn't act
all_idle : (P : Entry → Type 0) (rs : List Entry) → AllByRecursion (λ (r : Entry). acts r ≡ false → P r) rs → AllByRecursion P (idle_front rs)
all_idle P [] all = tt
all_idle P (r ∷ rs) all = subst (AllByRecursion P) (sym (front_of r rs (acts r) refl)) (go (acts r) refl (all_idle P rs all.1))
  where
    go : (b : Bool) → acts r ≡ b → AllByRecursion P (idle_front rs) → AllByRecursion P (if b then [] else r ∷ idle_front rs)
    go true q more = tt
    go false q more = (all.0 q, more)

none_acts : (rs : List Entry) → AllByRecursion IsIdle rs → acting rs ≡ []
none_acts [] all = refl
none_acts (r ∷ rs) all = dropped acts r rs all.0 ∙ none_acts rs all.1

all_of : (rs : List Entry) → AllByRecursion (λ (r : Entry). acts r ≡ false → IsIdle r) rs
all_of [] = tt
all_of (r ∷ rs) = ((λ q. q), all_of rs)

front_acts : (rs : List Entry) → acting (idle_front rs) ≡ []
front_acts rs = none_acts (idle_front rs) (all_idle IsIdle rs (all_of rs))

-- where none acts, the front is all
front_all : (rs : List Entry) → acting rs ≡ [] → (idle_front rs ≡ rs) × (behind_acting rs ≡ [])
front_all [] none = (refl, refl)
front_all (r ∷ rs) none = go (acts r) refl (front_all rs)
  where
    go : (b : Bool) → acts r ≡ b → (acting rs ≡ [] → (idle_front rs ≡ rs) × (behind_acting rs ≡ [])) → (idle_front (r ∷ rs) ≡ r ∷ rs) × (behind_acting (r ∷ rs) ≡ [])
    go true q more = let bad : r ∷ acting rs ≡ [] = sym (kept acts r rs q) ∙ none in absurd (cc)
    go false q more =
        let k = more (sym (dropped acts r rs q) ∙ none) in
        (front_of r rs false q ∙ ap (λ w. r ∷ w) k.0, behind_of r rs false q ∙ k.1)

-- else the first that acts stands behind it
record FirstActs (rs : List Entry) (e : Entry) (more : List Entry) : Type 0 where
  parts : idle_front rs ++ e ∷ behind_acting rs ≡ rs
  behind : acting (behind_acting rs) ≡ more

pub head_is : (x y : Entry) (xs ys : List Entry) → x ∷ xs ≡ y ∷ ys → x ≡ y
head_is x y xs ys e = cc

pub tail_is : (x y : Entry) (xs ys : List Entry) → x ∷ xs ≡ y ∷ ys → xs ≡ ys
tail_is x y xs ys e = cc

first_acts : (rs : List Entry) (e : Entry) (more : List Entry) → acting rs ≡ e ∷ more → FirstActs rs e more
first_acts [] e more is = absurd (cc)
first_acts (r ∷ rs) e more is = go (acts r) refl (first_acts rs e more)
  where
    go : (b : Bool) → acts r ≡ b → (acting rs ≡ e ∷ more → FirstActs rs e more) → FirstActs (r ∷ rs) e more
    go true q rest =
        let same : r ∷ acting rs ≡ e ∷ more = sym (kept acts r rs q) ∙ is in
        record {
          parts = ap (λ w. w ++ e ∷ behind_acting (r ∷ rs)) (front_of r rs true q) ∙ ap (λ w. e ∷ w) (behind_of r rs true q) ∙ ap (λ x. x ∷ rs) (sym (head_is r e (acting rs) more same));
          behind = ap acting (behind_of r rs true q) ∙ tail_is r e (acting rs) more same;
        }
    go false q rest =
        let k = rest (sym (dropped acts r rs q) ∙ is) in
        record {
          parts = ap (λ w. w ++ e ∷ behind_acting (r ∷ rs)) (front_of r rs false q) ∙ ap (λ w. r ∷ (idle_front rs ++ e ∷ w)) (behind_of r rs false q) ∙ ap (λ w. r ∷ w) k.parts;
          behind = ap acting (behind_of r rs false q) ∙ k.behind;
        }

-- what acts in the order is the same
pub same_acting : (m : ℕ) (rs es : List Entry) → acting (with_replay m rs es) ≡ acting es
same_acting m rs [] = front_acts rs
same_acting m rs (e ∷ es) = go (one_call m e) (λ ks. same_acting m ks es)
  where
    go : OneCall m e → ((ks : List Entry) → acting (with_replay m ks es) ≡ acting es) → acting (with_replay m rs (e ∷ es)) ≡ acting (e ∷ es)
    go (another p) more = ap acting (at_another m rs e es p) ∙ ap (λ w. cond (acts e) (e ∷ w) w) (more rs)
    go (idle p q) more = ap acting (at_idle m rs e es p q) ∙ more rs ∙ sym (dropped acts e es q)
    go (acting_one p q) more =
        ap acting (at_acting m rs e es p q)
        ∙ filter-append acts (idle_front rs) (e ∷ with_replay m (behind_acting rs) es)
        ∙ ap (λ w. w ++ acting (e ∷ with_replay m (behind_acting rs) es)) (front_acts rs)
        ∙ ap (λ w. cond (acts e) (e ∷ w) w) (more (behind_acting rs))

-- what the others did is the same

abbrev is_of : ℕ → Entry → Bool
is_of m e = e.member == m

abbrev pub IsOf : ℕ → Entry → Type 0
IsOf m e = e.member ≡ m

none_of_other : (m k : ℕ) (rs : List Entry) → k ≢ m → AllByRecursion (IsOf m) rs → of_member k rs ≡ []
none_of_other m k [] differ all = refl
none_of_other m k (r ∷ rs) differ all =
    dropped (λ (e : Entry). e.member == k) r rs (ne_eqb r.member k (λ q. differ (sym q ∙ all.0))) ∙ none_of_other m k rs differ all.1

pub apart : (m k : ℕ) (e : Entry) → k ≢ m → (e.member == m) ≡ true → (e.member == k) ≡ false
apart m k e differ p = ne_eqb e.member k (λ q. differ (sym q ∙ eqb-true e.member m p))

pub same_others : (m k : ℕ) (rs es : List Entry) → k ≢ m → AllByRecursion (IsOf m) rs → of_member k (with_replay m rs es) ≡ of_member k es
same_others m k rs [] differ all = none_of_other m k (idle_front rs) differ (all_front (IsOf m) rs all)
same_others m k rs (e ∷ es) differ all = go (one_call m e) (λ ks own. same_others m k ks es differ own)
  where
    go : OneCall m e → ((ks : List Entry) → AllByRecursion (IsOf m) ks → of_member k (with_replay m ks es) ≡ of_member k es) → of_member k (with_replay m rs (e ∷ es)) ≡ of_member k (e ∷ es)
    go (another p) more = ap (of_member k) (at_another m rs e es p) ∙ ap (λ w. cond (e.member == k) (e ∷ w) w) (more rs all)
    go (idle p q) more = ap (of_member k) (at_idle m rs e es p q) ∙ more rs all ∙ sym (dropped (λ (x : Entry). x.member == k) e es (apart m k e differ p))
    go (acting_one p q) more =
        ap (of_member k) (at_acting m rs e es p q)
        ∙ filter-append (λ (x : Entry). x.member == k) (idle_front rs) (e ∷ with_replay m (behind_acting rs) es)
        ∙ ap (λ w. w ++ of_member k (e ∷ with_replay m (behind_acting rs) es)) (none_of_other m k (idle_front rs) differ (all_front (IsOf m) rs all))
        ∙ ap (λ w. cond (e.member == k) (e ∷ w) w) (more (behind_acting rs) (all_behind (IsOf m) rs all))

-- what the member did is its replay, and behind it what acts and isn't in the replay

all_of_member : (m : ℕ) (rs : List Entry) → AllByRecursion (IsOf m) rs → of_member m rs ≡ rs
all_of_member m [] all = refl
all_of_member m (r ∷ rs) all = kept (λ (e : Entry). e.member == m) r rs (eq-eqb r.member m all.0) ∙ ap (λ w. r ∷ w) (all_of_member m rs all.1)

pub own_part : (m : ℕ) (rs es rest : List Entry) → AllByRecursion (IsOf m) rs → acting rs ++ rest ≡ acting (of_member m es) → of_member m (with_replay m rs es) ≡ rs ++ rest
own_part m rs [] rest all is =
    let none = nothing (acting rs) rest is in
    all_of_member m (idle_front rs) (all_front (IsOf m) rs all) ∙ (front_all rs none.0).0 ∙ sym (append-nil rs) ∙ ap (λ w. rs ++ w) (sym none.1)
  where
    nothing : (xs ys : List Entry) → xs ++ ys ≡ [] → (xs ≡ []) × (ys ≡ [])
    nothing [] ys e = (refl, e)
    nothing (x ∷ xs) ys e = absurd (cc)
own_part m rs (e ∷ es) rest all is = go (one_call m e) (λ ks more own same. own_part m ks es more own same)
  where
    taken : ((ks more : List Entry) → AllByRecursion (IsOf m) ks → acting ks ++ more ≡ acting (of_member m es) → of_member m (with_replay m ks es) ≡ ks ++ more)
        → (xs : List Entry) → acting rs ≡ xs → xs ++ rest ≡ e ∷ acting (of_member m es)
        → idle_front rs ++ e ∷ of_member m (with_replay m (behind_acting rs) es) ≡ rs ++ rest
    taken later [] none same =
        let k = front_all rs none in
        let more : of_member m (with_replay m (behind_acting rs) es) ≡ behind_acting rs ++ acting (of_member m es) =
        later (behind_acting rs) (acting (of_member m es)) (all_behind (IsOf m) rs all) (ap (λ w. acting w ++ acting (of_member m es)) k.1) in
        ap (λ w. idle_front rs ++ e ∷ w) more ∙ ap (λ w. idle_front rs ++ e ∷ (w ++ acting (of_member m es))) k.1 ∙ ap (λ w. w ++ e ∷ acting (of_member m es)) k.0 ∙ ap (λ w. rs ++ w) (sym same)
    taken later (x ∷ xs) first same =
        let k = first_acts rs e xs (first ∙ ap (λ y. y ∷ xs) (head_is x e (xs ++ rest) (acting (of_member m es)) same)) in
        let more : of_member m (with_replay m (behind_acting rs) es) ≡ behind_acting rs ++ rest =
        later (behind_acting rs) rest (all_behind (IsOf m) rs all) (ap (λ w. w ++ rest) k.behind ∙ tail_is x e (xs ++ rest) (acting (of_member m es)) same) in
        ap (λ w. idle_front rs ++ e ∷ w) more ∙ sym (append_assoc (idle_front rs) (e ∷ behind_acting rs) rest) ∙ ap (λ w. w ++ rest) k.parts

    go : OneCall m e → ((ks more : List Entry) → AllByRecursion (IsOf m) ks → acting ks ++ more ≡ acting (of_member m es) → of_member m (with_replay m ks es) ≡ ks ++ more) → of_member m (with_replay m rs (e ∷ es)) ≡ rs ++ rest
    go (another p) later =
        ap (of_member m) (at_another m rs e es p) ∙ dropped (is_of m) e (with_replay m rs es) p ∙ later rs rest all (is ∙ ap acting (dropped (is_of m) e es p))
    go (idle p q) later =
        ap (of_member m) (at_idle m rs e es p q) ∙ later rs rest all (is ∙ ap acting (kept (is_of m) e es p) ∙ dropped acts e (of_member m es) q)
    go (acting_one p q) later =
        ap (of_member m) (at_acting m rs e es p q)
        ∙ filter-append (is_of m) (idle_front rs) (e ∷ with_replay m (behind_acting rs) es)
        ∙ ap (λ w. w ++ of_member m (e ∷ with_replay m (behind_acting rs) es)) (all_of_member m (idle_front rs) (all_front (IsOf m) rs all))
        ∙ ap (λ w. idle_front rs ++ w) (kept (is_of m) e (with_replay m (behind_acting rs) es) p)
        ∙ taken later (acting rs) refl (is ∙ ap acting (kept (is_of m) e es p) ∙ kept acts e (of_member m es) q)

-- what holds of each call of the order, and of each of the replay that doesn't act, holds of each
pub all_filled : (P : Entry → Type 0) (m : ℕ) (rs es : List Entry) → AllByRecursion (λ (r : Entry). acts r ≡ false → P r) rs → AllByRecursion P es → AllByRecursion P (with_replay m rs es)
all_filled P m rs [] put all = all_idle P rs put
all_filled P m rs (e ∷ es) put all = go (one_call m e) (λ ks f. all_filled P m ks es f all.1)
  where
    go : OneCall m e → ((ks : List Entry) → AllByRecursion (λ (r : Entry). acts r ≡ false → P r) ks → AllByRecursion P (with_replay m ks es)) → AllByRecursion P (with_replay m rs (e ∷ es))
    go (another p) more = subst (AllByRecursion P) (sym (at_another m rs e es p)) (all.0, more rs put)
    go (idle p q) more = subst (AllByRecursion P) (sym (at_idle m rs e es p q)) (more rs put)
    go (acting_one p q) more = subst (AllByRecursion P) (sym (at_acting m rs e es p q))
        (AllByRecursion-append P (idle_front rs) (e ∷ with_replay m (behind_acting rs) es) (all_idle P rs put)
        (all.0, more (behind_acting rs) (all_behind (λ (r : Entry). acts r ≡ false → P r) rs put)))

-- the order stays honest

-- all that these entries sent, those sent too
abbrev pub SendsToo : List Entry → List Entry → Type 0
SendsToo before now = (g : Datagram) → Has g (sent before) → Has g (sent now)

pub sends_both : (before now : List Entry) (e : Entry) → SendsToo before now → SendsToo (before ++ e ∷ []) (now ++ e ∷ [])
sends_both before now e too g there = elim (Has-append g (sent before) (sent (e ∷ [])) (subst (Has g) (flat_map-append (λ (x : Entry). x.effects.outs) before (e ∷ [])) there)) [
  | inl l ↦ subst (Has g) (sym (flat_map-append (λ (x : Entry). x.effects.outs) now (e ∷ []))) (Has-front g (sent now) (sent (e ∷ [])) (too g l))
  | inr r ↦ subst (Has g) (sym (flat_map-append (λ (x : Entry). x.effects.outs) now (e ∷ []))) (Has-back g (sent now) (sent (e ∷ [])) r)
]

sends_more : (before now more : List Entry) → SendsToo before now → SendsToo before (now ++ more)
sends_more before now more too g there = subst (Has g) (sym (flat_map-append (λ (x : Entry). x.effects.outs) now more)) (Has-front g (sent now) (sent more) (too g there))

pub sends_none : (before now : List Entry) (e : Entry) → e.effects.outs ≡ [] → SendsToo before now → SendsToo (before ++ e ∷ []) now
sends_none before now e none too g there = elim (Has-append g (sent before) (sent (e ∷ [])) (subst (Has g) (flat_map-append (λ (x : Entry). x.effects.outs) before (e ∷ [])) there)) [
  | inl l ↦ too g l
  | inr r ↦ absurd (subst (Has g) (append-nil e.effects.outs ∙ none) r)
]

unheard : (now xs : List Entry) → AllByRecursion (λ (x : Entry). accepted x ≡ None) xs → AllByRecursion IsHonestStep (steps_after now xs)
unheard now [] all = tt
unheard now (x ∷ xs) all = (subst (λ o. IfSome o (Contains (sent now))) (sym all.0) tt, unheard (now ++ x ∷ []) xs all.1)

pub heard_too : (before now : List Entry) (e : Entry) → SendsToo before now → IsHonestStep (record { before = before; this = e }) → IsHonestStep (record { before = now; this = e })
heard_too before now e too honest = IfSome_then (accepted e) honest (λ g there. Has-Contains g (sent now) (too g (Has-contained g (sent before) there)))

honest_along : (m : ℕ) (rs es before now : List Entry) → AllByRecursion RestsUnseen rs → AllByRecursion RestsUnseen es → SendsToo before now
    → AllByRecursion IsHonestStep (steps_after before es) → AllByRecursion IsHonestStep (steps_after now (with_replay m rs es))
honest_along m rs [] before now put all too honest = unheard now (idle_front rs) (all_idle (λ (x : Entry). accepted x ≡ None) rs (all_by RestsUnseen (λ (r : Entry). acts r ≡ false → accepted r ≡ None) rs (λ r f q. (f q).heard) put))
honest_along m rs (e ∷ es) before now put all too honest = go (one_call m e) (λ ks then_ f g. honest_along m ks es (before ++ e ∷ []) then_ f all.1 g honest.1)
  where
    idle_unheard : AllByRecursion (λ (x : Entry). accepted x ≡ None) (idle_front rs)
    idle_unheard = all_idle (λ (x : Entry). accepted x ≡ None) rs (all_by RestsUnseen (λ (r : Entry). acts r ≡ false → accepted r ≡ None) rs (λ r f q. (f q).heard) put)

    go : OneCall m e → ((ks then_ : List Entry) → AllByRecursion RestsUnseen ks → SendsToo (before ++ e ∷ []) then_ → AllByRecursion IsHonestStep (steps_after then_ (with_replay m ks es)))
        → AllByRecursion IsHonestStep (steps_after now (with_replay m rs (e ∷ es)))
    go (another p) later = subst (λ w. AllByRecursion IsHonestStep (steps_after now w)) (sym (at_another m rs e es p))
        (heard_too before now e too honest.0, later rs (now ++ e ∷ []) put (sends_both before now e too))
    go (idle p q) later = subst (λ w. AllByRecursion IsHonestStep (steps_after now w)) (sym (at_idle m rs e es p q))
        (later rs now put (sends_none before now e (all.0 q).sent too))
    go (acting_one p q) later =
        let then_ : List Entry = now ++ idle_front rs in
        let more : SendsToo before then_ = sends_more before now (idle_front rs) too in
        subst (λ w. AllByRecursion IsHonestStep (steps_after now w)) (sym (at_acting m rs e es p q))
        (subst (AllByRecursion IsHonestStep) (sym (steps_after-append now (idle_front rs) (e ∷ with_replay m (behind_acting rs) es)))
        (AllByRecursion-append IsHonestStep (steps_after now (idle_front rs)) (steps_after then_ (e ∷ with_replay m (behind_acting rs) es)) (unheard now (idle_front rs) idle_unheard)
        (heard_too before then_ e more honest.0, later (behind_acting rs) (then_ ++ e ∷ []) (all_behind RestsUnseen rs put) (sends_both before then_ e more))))

pub stays_honest : (m : ℕ) (rs es : List Entry) → AllByRecursion RestsUnseen rs → AllByRecursion RestsUnseen es → AllByRecursion IsHonestStep (steps es) → AllByRecursion IsHonestStep (steps (with_replay m rs es))
stays_honest m rs es put all honest = honest_along m rs es [] [] put all (λ g h. h) honest
