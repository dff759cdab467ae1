-- What is due fits into a list that has room for all of it.
use Rattle.std.proofs.Common.{◌≡◌, ℕ, ◌<◌, ◌≤◌, Bool, true, false, cond, ◌&&◌, ◌||◌, List, [], ◌∷◌, map, length, take, drop, refl, sym, ap, subst, ◌∙◌, arith}
use Rattle.std.specs.Prelude.{filter, find, None}
use Rattle.std.specs.List.{list_any}
use Rattle.std.specs.List.Sorted.{IsPartitionPoint}
use Rattle.std.proofs.lemmas.List.{length-map, take-append-drop}
use Rattle.std.proofs.lemmas.List.Folds.{list_any-append}
use Rattle.srm_names.specs.FullName.{FullName}
use Rattle.srm_names.specs.Names.{same_name, name_below, ascending, among, AreExactly}
use Rattle.srm_names.proofs.Orders.{name_order}
use Rattle.srm_names.proofs.Same.{same_name-is}
use Rattle.srm_deadlines.specs.declared.by_name.NamedValue.{NamedValue}
use Rattle.srm_deadlines.specs.declared.timed.Timed.{Timed}
use Rattle.srm_deadlines.specs.Places.{is_timed, is_at, names_of, has_place, value_at}
use Rattle.srm_names.specs.Moments.{has_come}
use Rattle.srm_deadlines.specs.Deadlines.{DueAmong, DueHasRoom}
use Rattle.srm_deadlines.specs.Agenda.{of_name, is_due, PairsHaveRoom}
use Rattle.srm_deadlines.proofs.Agendas.{there_is_room, none_among, rising_once, short_of}
use Rattle.srm_deadlines.proofs.Dues.{front_passes, any_both, among_names, names_counted, fewer}
use Rattle.srm_deadlines.proofs.Looking.{DueSoFar}

abbrev as_place : FullName → NamedValue ℕ
as_place n = record { name = n; value = None }

abbrev as_timed : FullName → Timed
as_timed n = record { moment = 0; name = n }

placed : (names : List FullName) (n : FullName) → has_place (map as_place names) n ≡ among names n
placed [] n = refl
placed (m ∷ names) n = ap (λ b. same_name n m || b) (placed names n)

named : (names : List FullName) → names_of (map as_timed names) ≡ names
named [] = refl
named (n ∷ names) = ap (λ ns. n ∷ ns) (named names)

not_both : (a b : Bool) → (a ≡ true → b ≡ true) → b ≡ false → a ≡ false
not_both true b h e = sym (h refl) ∙ e
not_both false b h e = refl

-- names that stand once each, all among others, are no more than these
pub no_more : (pairs : List Timed) (all : List FullName) → ((n : FullName) → length (of_name n pairs) ≤ 1) → ((n : FullName) → among (names_of pairs) n ≡ true → among all n ≡ true)
    → length pairs ≤ length all
no_more pairs all once inside =
    let k : length pairs ≤ length (map as_place all) = there_is_room (map as_place all) pairs once
    (λ n without. none_among pairs n (not_both (among (names_of pairs) n) (among all n) (inside n) (sym (placed all n) ∙ without))) in
    omega (arith, length-map all as_place)

-- the same of names
pub once_no_more : (names all : List FullName) → ((n : FullName) → length (filter (same_name n) names) ≤ 1) → ((n : FullName) → among names n ≡ true → among all n ≡ true) → length names ≤ length all
once_no_more names all once inside =
    let k : length (map as_timed names) ≤ length all = no_more (map as_timed names) all
    (λ n. subst (λ l. l ≤ 1) (sym (ap (λ ns. length (filter (same_name n) ns)) (named names)) ∙ names_counted (map as_timed names) n) (once n))
    (λ n at. inside n (ap (λ ns. among ns n) (sym (named names)) ∙ at)) in
    omega (arith, length-map names as_timed)

-- the front of an agenda
pub front_fits : (now : ℕ) (pairs : List Timed) (count room : ℕ) → ((n : FullName) → length (of_name n pairs) ≤ 1) → count ≤ length pairs
    → IsPartitionPoint (λ t. is_due now t ≡ true) (λ t. is_due now t ≡ false) pairs count → PairsHaveRoom now pairs room → length (take count pairs) ≤ room
front_fits now pairs count room once le parts fit =
    let front : take count pairs ≡ filter (is_due now) pairs = front_passes (is_due now) pairs count le parts in
    let k : length (filter (is_due now) pairs) ≤ length fit.names = no_more (filter (is_due now) pairs) fit.names
    (λ n. let l = fewer (is_timed n) (is_due now) pairs in let m = once n in omega arith)
    (λ n at. fit.due n (sym (among_names (filter (is_due now) pairs) n ∙ any_both (is_timed n) (is_due now) pairs) ∙ at)) in
    let l = fit.few in
    omega (arith, ap length front)

once_timed : (names : List FullName) → ascending name_below names ≡ true → (n : FullName) → length (of_name n (map as_timed names)) ≤ 1
once_timed names rising n = subst (λ xs. length xs ≤ 1) (sym (rising_once (map as_timed names) (ap (ascending name_below) (named names) ∙ rising) n)) (short_of (find (is_timed n) (map as_timed names)) [] (omega arith))

-- one more name that is due fits among them all
pub another_fits : (now room : ℕ) (seen places : List (NamedValue ℕ)) (names : List FullName) (name : FullName) → DueSoFar now seen places names → among names name ≡ false
    → has_come now (value_at places name) ≡ true → DueHasRoom now places room → length names < room
another_fits now room seen places names name so_far new come fit =
    let k : length (as_timed name ∷ map as_timed names) ≤ length fit.names = no_more (as_timed name ∷ map as_timed names) fit.names (λ n. once n (same_name n name) refl) (λ n at. inside n (same_name n name) refl at) in
    let l = fit.few in
    omega (arith, length-map names as_timed)
  where
    once : (n : FullName) (b : Bool) → same_name n name ≡ b → length (cond b (as_timed name ∷ of_name n (map as_timed names)) (of_name n (map as_timed names))) ≤ 1
    once n true e = omega (arith, ap length (none_among (map as_timed names) n (ap (λ ns. among ns n) (named names) ∙ ap (among names) (same_name-is n name e) ∙ new)))
    once n false e = once_timed names so_far.order n

    both : (a b : Bool) → (a && b) ≡ true → b ≡ true
    both true b e = e
    both false b e = absurd (let k : false ≡ true = e in cc)

    inside : (n : FullName) (b : Bool) → same_name n name ≡ b → (b || among (names_of (map as_timed names)) n) ≡ true → among fit.names n ≡ true
    inside n true e at = fit.due.each n (ap (λ m. has_come now (value_at places m)) (same_name-is n name e) ∙ come)
    inside n false e at = fit.due.each n (both (list_any (is_at n) seen) _ (sym (so_far.exact n) ∙ ap (λ ns. among ns n) (sym (named names)) ∙ at))

-- a name that goes between those below it and those above it is none of them
pub between_new : (names : List FullName) (i : ℕ) (name : FullName) → ((m : FullName) → among (take i names) m ≡ true → name_below m name ≡ true)
    → ((m : FullName) → among (drop i names) m ≡ true → name_below name m ≡ true) → among names name ≡ false
between_new names i name before after =
    ap (λ ns. among ns name) (sym (take-append-drop i names)) ∙ list_any-append (same_name name) (take i names) (drop i names) ∙ neither _ _ (before name) (after name)
  where
    below : name_below name name ≡ true → ⊥
    below e = let k : true ≡ false = sym e ∙ name_order.irreflexive name in cc

    neither : (a b : Bool) → (a ≡ true → name_below name name ≡ true) → (b ≡ true → name_below name name ≡ true) → (a || b) ≡ false
    neither true b p q = absurd (below (p refl))
    neither false true p q = absurd (below (q refl))
    neither false false p q = refl

-- what is due is no more than the names among which all of it is
pub due_no_more : (now : ℕ) (places : List (NamedValue ℕ)) (due all : List FullName) → AreExactly (λ n. has_come now (value_at places n)) due → DueAmong now places all → length due ≤ length all
due_no_more now places due all exactly among_all =
    let k : length (map as_timed due) ≤ length all = no_more (map as_timed due) all (once_timed due exactly.in_order)
    (λ n at. among_all.each n (sym (exactly.exact n) ∙ ap (λ ns. among ns n) (sym (named due)) ∙ at)) in
    omega (arith, length-map due as_timed)
