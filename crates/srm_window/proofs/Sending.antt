-- The counters of several senders, and one more.
use Rattle.std.proofs.Common.{◌≡◌, ◌≢◌, ℕ, ◌+◌, ◌<◌, ◌≤◌, ◌⊎◌, nat_eq, Bool, true, false, List, [], ◌∷◌, ◌++◌, length, get_or, slice_set, cond, map, filter, refl, ap, sym, ◌∙◌, subst, inl, inr, arith, eq-eqb}
use Rattle.std.specs.Prelude.{Option, Some, None, slice_get}
use Rattle.std.specs.List.{All}
use Rattle.std.proofs.Math.ListN.{length-set}
use Rattle.std.proofs.lemmas.Bool.{cases_Bool, cases_eq, ne_eqb}
use Rattle.std.proofs.lemmas.List.{append-nil}
use Rattle.std.proofs.lemmas.List.Elements.{All-push}
use Rattle.std.proofs.lemmas.Option.{slice_get_within, slice_get_read, get_or_from_slice_get, slice_get-get_or}
use Rattle.srm_names.proofs.Lists.{get_set_same, set_elsewhere}
use Rattle.srm_window.proofs.Admitting.{admits_fresh, fits_after}
use Rattle.srm_window.specs.Freshness.{is_fresh, passed_behind, passed}
use Rattle.srm_window.specs.Windows.{WindowView, WindowFits, admits, after}
use Rattle.srm_window.specs.Senders.{Numbered, numbered, counters_of, window_of, admits_of, windows_after, FitOn, WindowsFit, is_new, passed_on_behind, passed_on, SendersApart}

-- one more of a sender, or of another one
counters_more : (s : ℕ) (came : List Numbered) (one : Numbered) → counters_of s (came ++ one ∷ []) ≡ counters_of s came ++ cond (nat_eq one.sender s) (one.counter ∷ []) []
counters_more s [] one = last (nat_eq one.sender s)
  where
    last : (b : Bool) → map (λ (n : Numbered). n.counter) (cond b (one ∷ []) []) ≡ cond b (one.counter ∷ []) []
    last true = refl
    last false = refl
counters_more s (first ∷ came) one = behind (nat_eq first.sender s) (counters_more s came one)
  where
    behind : (b : Bool) → counters_of s (came ++ one ∷ []) ≡ counters_of s came ++ cond (nat_eq one.sender s) (one.counter ∷ []) []
        → map (λ (n : Numbered). n.counter) (cond b (first ∷ filter (λ n. nat_eq n.sender s) (came ++ one ∷ [])) (filter (λ n. nat_eq n.sender s) (came ++ one ∷ [])))
        ≡ map (λ (n : Numbered). n.counter) (cond b (first ∷ filter (λ n. nat_eq n.sender s) came) (filter (λ n. nat_eq n.sender s) came)) ++ cond (nat_eq one.sender s) (one.counter ∷ []) []
    behind true is = ap (λ cs. first.counter ∷ cs) is
    behind false is = is

counters_own : (s : ℕ) (came : List Numbered) (one : Numbered) → one.sender ≡ s → counters_of s (came ++ one ∷ []) ≡ counters_of s came ++ one.counter ∷ []
counters_own s came one own = counters_more s came one ∙ ap (λ b. counters_of s came ++ cond b (one.counter ∷ []) []) (eq-eqb one.sender s own)

counters_others : (s : ℕ) (came : List Numbered) (one : Numbered) → (one.sender ≡ s → ⊥) → counters_of s (came ++ one ∷ []) ≡ counters_of s came
counters_others s came one other = counters_more s came one ∙ ap (λ b. counters_of s came ++ cond b (one.counter ∷ []) []) (ne_eqb one.sender s other) ∙ append-nil (counters_of s came)

-- so many windows, and each fits an empty list
pub none_fits : (ws : List WindowView) → length ws ≡ 32 → All (λ w. WindowFits w []) ws → WindowsFit ws []
none_fits ws all each = record { members = all; each = λ s w is. subst (λ (v : WindowView). WindowFits v []) (get_or_from_slice_get ws s w w is) (each s w (slice_get_within ws s w is)) }

pub one_more_fits : (ws vs : List WindowView) (w : WindowView) → vs ≡ ws ++ w ∷ [] → All (λ v. WindowFits v []) ws → WindowFits w [] → All (λ v. WindowFits v []) vs
one_more_fits ws vs w is each fits = subst (All (λ v. WindowFits v [])) (sym is) (All-push (λ v. WindowFits v []) ws w each fits)

-- the window of a sender noted one more, and the others stay
pub one_admitted : (ws : List WindowView) (w v : WindowView) (came : List Numbered) (sender counter : ℕ) → WindowsFit ws came → slice_get ws sender ≡ Some w
    → ((before : List ℕ) → WindowFits w before → WindowFits v (before ++ counter ∷ [])) → WindowsFit (slice_set ws sender v) (came ++ numbered sender counter ∷ [])
one_admitted ws w v came sender counter fits at admits = record {
  members = length-set ws sender v ∙ fits.members;
  each = λ s u is. by_sender s u (cases_eq sender s) is;
}
  where
    some_is : (x y : WindowView) (o : Option WindowView) → o ≡ Some x → o ≡ Some y → x ≡ y
    some_is x y o e f = cc

    by_sender : (s : ℕ) (u : WindowView) → (sender ≡ s) ⊎ (sender ≡ s → ⊥) → slice_get (slice_set ws sender v) s ≡ Some u → WindowFits u (counters_of s (came ++ numbered sender counter ∷ []))
    by_sender s u (inl own) is =
        let new : WindowFits v (counters_of s came ++ counter ∷ []) = admits (counters_of s came) (fits.each s w (subst (λ k. slice_get ws k ≡ Some w) own at)) in
        let same : v ≡ u = some_is v u (slice_get (slice_set ws sender v) s) (subst (λ k. slice_get (slice_set ws sender v) k ≡ Some v) own (get_set_same ws sender w v at)) is in
        subst (λ (x : WindowView). WindowFits x (counters_of s (came ++ numbered sender counter ∷ []))) same
        (subst (λ cs. WindowFits v cs) (sym (counters_own s came (numbered sender counter) own)) new)
    by_sender s u (inr other) is =
        subst (λ cs. WindowFits u cs) (sym (counters_others s came (numbered sender counter) other))
        (fits.each s u (sym (set_elsewhere ws sender s v (λ e. other (sym e))) ∙ is))

-- and the sender's window says whether that is new
pub one_new : (ws : List WindowView) (w : WindowView) (came : List Numbered) (sender counter : ℕ) (result : Bool) → WindowsFit ws came → slice_get ws sender ≡ Some w
    → ((before : List ℕ) → WindowFits w before → result ≡ is_fresh before counter) → result ≡ is_new came (numbered sender counter)
one_new ws w came sender counter result fits at says = says (counters_of sender came) (fits.each sender w at)

-- what is passed on of one sender, whatever came before
apart_behind : (before more : List Numbered) (s : ℕ) → counters_of s (passed_on_behind before more) ≡ passed_behind (counters_of s before) (counters_of s more)
apart_behind before [] s = refl
apart_behind before (one ∷ more) s = by_sender (cases_eq one.sender s) (apart_behind (before ++ one ∷ []) more s)
  where
    rest : List Numbered
    rest = passed_on_behind (before ++ one ∷ []) more

    own_first : one.sender ≡ s → (xs : List Numbered) → counters_of s (one ∷ xs) ≡ one.counter ∷ counters_of s xs
    own_first own xs = ap (λ b. map (λ (n : Numbered). n.counter) (cond b (one ∷ filter (λ n. nat_eq n.sender s) xs) (filter (λ n. nat_eq n.sender s) xs))) (eq-eqb one.sender s own)

    other_first : (one.sender ≡ s → ⊥) → (xs : List Numbered) → counters_of s (one ∷ xs) ≡ counters_of s xs
    other_first other xs = ap (λ b. map (λ (n : Numbered). n.counter) (cond b (one ∷ filter (λ n. nat_eq n.sender s) xs) (filter (λ n. nat_eq n.sender s) xs))) (ne_eqb one.sender s other)

    -- of the sender: passed on or not by one test
    own_chosen : one.sender ≡ s → (b : Bool) (xs : List Numbered) → counters_of s (cond b (one ∷ xs) xs) ≡ cond b (one.counter ∷ counters_of s xs) (counters_of s xs)
    own_chosen own true xs = own_first own xs
    own_chosen own false xs = refl

    other_chosen : (one.sender ≡ s → ⊥) → (b : Bool) (xs : List Numbered) → counters_of s (cond b (one ∷ xs) xs) ≡ counters_of s xs
    other_chosen other true xs = other_first other xs
    other_chosen other false xs = refl

    by_sender : (one.sender ≡ s) ⊎ (one.sender ≡ s → ⊥) → counters_of s (passed_on_behind (before ++ one ∷ []) more) ≡ passed_behind (counters_of s (before ++ one ∷ [])) (counters_of s more)
        → counters_of s (passed_on_behind before (one ∷ more)) ≡ passed_behind (counters_of s before) (counters_of s (one ∷ more))
    by_sender (inl own) is =
        own_chosen own (is_new before one) (passed_on_behind (before ++ one ∷ []) more)
        ∙ ap (λ cs. cond (is_new before one) (one.counter ∷ cs) cs) (is ∙ ap (λ cs. passed_behind cs (counters_of s more)) (counters_own s before one own))
        ∙ ap (λ k. cond (is_fresh (counters_of k before) one.counter) (one.counter ∷ passed_behind (counters_of s before ++ one.counter ∷ []) (counters_of s more)) (passed_behind (counters_of s before ++ one.counter ∷ []) (counters_of s more))) own
        ∙ ap (passed_behind (counters_of s before)) (sym (own_first own more))
    by_sender (inr other) is =
        other_chosen other (is_new before one) (passed_on_behind (before ++ one ∷ []) more)
        ∙ is ∙ ap (λ cs. passed_behind cs (counters_of s more)) (counters_others s before one other)
        ∙ ap (passed_behind (counters_of s before)) (sym (other_first other more))

pub senders_apart : SendersApart
senders_apart came s = apart_behind [] came s

-- the same at the place where the sender's window stands
pub admitted_at : (ws now : List WindowView) (w v : WindowView) (came : List Numbered) (place sender counter : ℕ) → ws ≡ now → place ≡ sender → place < length ws → w ≡ get_or ws place w → WindowsFit now came
    → ((before : List ℕ) → WindowFits w before → WindowFits v (before ++ counter ∷ [])) → WindowsFit (slice_set ws place v) (came ++ numbered sender counter ∷ [])
admitted_at ws now w v came place sender counter is at within read fits admits =
    subst (λ k. WindowsFit (slice_set ws k v) (came ++ numbered sender counter ∷ [])) (sym at)
    (one_admitted ws w v came sender counter (subst (λ all. WindowsFit all came) (sym is) fits) (subst (λ k. slice_get ws k ≡ Some w) at (slice_get_read ws (length ws) place w refl within read)) admits)

-- what comes of any sender
pub fit_on : FitOn
fit_on ws came one fits member =
    let at : slice_get ws one.sender ≡ Some (window_of one.sender ws) = slice_get-get_or ws one.sender (record { greatest = 0; blocks = []; bits = [] }) (omega (arith, fits.members)) in (
      admits_fresh (window_of one.sender ws) (counters_of one.sender came) one.counter (fits.each one.sender (window_of one.sender ws) at),
      one_admitted ws (window_of one.sender ws) (after one.counter (window_of one.sender ws)) came one.sender one.counter fits at (λ before is. fits_after (window_of one.sender ws) before one.counter is),
    )
