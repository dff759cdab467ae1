-- An agenda that follows the moments by name.
use Rattle.std.proofs.Common.{◌≡◌, ℕ, ◌+◌, ◌<◌, ◌≤◌, Bool, true, false, cond, List, [], ◌∷◌, ◌++◌, length, refl, sym, ap, subst, ◌∙◌, arith, length-append}
use Rattle.std.specs.Prelude.{Option, Some, None, IfSome, find, is_some, option_map, slice_get, if◌then◌else◌}
use Rattle.std.specs.List.{All}
use Rattle.std.proofs.lemmas.List.Elements.{All-filter, filter-append}
use Rattle.srm_names.specs.FullName.{FullName}
use Rattle.srm_names.specs.Histories.{or_else}
use Rattle.srm_names.specs.Names.{same_name, name_below, ascending, among}
use Rattle.srm_names.proofs.Same.{same_name-is, same_name-itself}
use Rattle.srm_deadlines.specs.declared.by_name.NamedValue.{NamedValue}
use Rattle.srm_deadlines.specs.declared.timed.Timed.{Timed}
use Rattle.srm_deadlines.specs.Places.{is_timed, names_of, value_at, has_place, SetsAll, ClearsAll, HasPlaces, IsLeast}
use Rattle.srm_deadlines.specs.Agenda.{Agenda, AgendaFits, of_name, timed_for, timed_or, timed_among}
use Rattle.srm_deadlines.proofs.Agendas.{there_is_room, appended, absent_found, short_of, none_among}
use Rattle.srm_deadlines.proofs.Looking.{none_without}

one_at_most : (n : FullName) (o : Option ℕ) → length (timed_for n o) ≤ 1
one_at_most n None = omega arith
one_at_most n (Some t) = omega arith

pub once_each : (a : Agenda) (places : List (NamedValue ℕ)) → AgendaFits a places → (n : FullName) → length (of_name n a.pairs) ≤ 1
once_each a places f n = subst (λ xs. length xs ≤ 1) (sym (f.each n)) (one_at_most n (value_at places n))

nothing_without : (a : Agenda) (places : List (NamedValue ℕ)) → AgendaFits a places → (n : FullName) → has_place places n ≡ false → of_name n a.pairs ≡ []
nothing_without a places f n e = f.each n ∙ ap (timed_for n) (none_without places n e)

-- ---- room

pub room_for_one : (a : Agenda) (places : List (NamedValue ℕ)) (pairs : List Timed) (name : FullName) → AgendaFits a places → has_place places name ≡ true
    → ((n : FullName) → of_name n pairs ≡ (if same_name n name then [] else of_name n a.pairs)) → length pairs < length places
room_for_one a places pairs name f has left =
    let t : Timed = record { moment = 0; name = name } in
    let k : length (t ∷ pairs) ≤ length places = there_is_room places (t ∷ pairs) (λ n. once n (same_name n name) refl) (λ n without. outside n without (same_name n name) refl) in
    omega arith
  where
    once : (n : FullName) (b : Bool) → same_name n name ≡ b → length (cond b (record { moment = 0; name = name } ∷ of_name n pairs) (of_name n pairs)) ≤ 1
    once n true e = omega (arith, ap length (left n ∙ ap (λ c. if c then [] else of_name n a.pairs) e))
    once n false e = subst (λ xs. length xs ≤ 1) (sym (left n ∙ ap (λ c. if c then [] else of_name n a.pairs) e)) (once_each a places f n)

    outside : (n : FullName) → has_place places n ≡ false → (b : Bool) → same_name n name ≡ b → cond b (record { moment = 0; name = name } ∷ of_name n pairs) (of_name n pairs) ≡ []
    outside n without true e = absurd (let k : true ≡ false = sym has ∙ ap (has_place places) (sym (same_name-is n name e)) ∙ without in cc)
    outside n without false e = left n ∙ ap (λ c. if c then [] else of_name n a.pairs) e ∙ nothing_without a places f n without

pub room_for_all : (a : Agenda) (places : List (NamedValue ℕ)) (pairs moments : List Timed) → AgendaFits a places → HasPlaces (names_of moments) places → ascending name_below (names_of moments) ≡ true
    → ((n : FullName) → of_name n pairs ≡ (if among (names_of moments) n then [] else of_name n a.pairs)) → length pairs + length moments ≤ length places
room_for_all a places pairs moments f has asc left =
    let k : length (pairs ++ moments) ≤ length places = there_is_room places (pairs ++ moments) once outside in
    omega (arith, length-append pairs moments)
  where
    absent : (n : FullName) → among (names_of moments) n ≡ true → of_name n pairs ≡ []
    absent n e = left n ∙ ap (λ c. if c then [] else of_name n a.pairs) e

    few : (n : FullName) (b : Bool) → among (names_of moments) n ≡ b → length (of_name n pairs) ≤ 1
    few n true e = omega (arith, ap length (absent n e))
    few n false e = subst (λ xs. length xs ≤ 1) (sym (left n ∙ ap (λ c. if c then [] else of_name n a.pairs) e)) (once_each a places f n)

    once : (n : FullName) → length (of_name n (pairs ++ moments)) ≤ 1
    once n = subst (λ xs. length xs ≤ 1) (sym (appended pairs moments asc absent n)) (short_of (find (is_timed n) moments) (of_name n pairs) (few n (among (names_of moments) n) refl))

    outside : (n : FullName) → has_place places n ≡ false → of_name n (pairs ++ moments) ≡ []
    outside n without = go (among (names_of moments) n) refl
      where
        go : (b : Bool) → among (names_of moments) n ≡ b → of_name n (pairs ++ moments) ≡ []
        go true e = absurd (let k : true ≡ false = sym (has.each n e) ∙ without in cc)
        go false e = filter-append (is_timed n) pairs moments
            ∙ ap (λ xs. xs ++ of_name n moments) (left n ∙ ap (λ c. if c then [] else of_name n a.pairs) e ∙ nothing_without a places f n without) ∙ none_among moments n e

-- ---- many moments are set

timed_is : (n : FullName) (t : Timed) → same_name n t.name ≡ true → t ∷ [] ≡ timed_for n (Some t.moment)
timed_is n t e = ap (λ m. record { moment = t.moment; name = m } ∷ []) (sym (same_name-is n t.name e))

found_passes : (n : FullName) (moments : List Timed) (t : Timed) → find (is_timed n) moments ≡ Some t → same_name n t.name ≡ true
found_passes n [] t e = absurd (cc)
found_passes n (x ∷ xs) t e = go (found_passes n xs t) (same_name n x.name) refl e
  where
    go : (find (is_timed n) xs ≡ Some t → same_name n t.name ≡ true) → (b : Bool) → same_name n x.name ≡ b → cond b (Some x) (find (is_timed n) xs) ≡ Some t → same_name n t.name ≡ true
    go later true f h = let same : x ≡ t = cc in ap (λ (y : Timed). same_name n y.name) (sym same) ∙ f
    go later false f h = later h

pub follows_all : (a b new : Agenda) (places now : List (NamedValue ℕ)) (moments : List Timed) → AgendaFits a places
    → ((n : FullName) → of_name n b.pairs ≡ (if among (names_of moments) n then [] else of_name n a.pairs)) → ((n : FullName) → of_name n new.pairs ≡ timed_among moments n (of_name n b.pairs))
    → SetsAll moments places now → length now ≡ length places → a.capacity ≤ b.capacity → b.capacity ≤ new.capacity → AgendaFits new now
follows_all a b new places now moments f left put sets len room more = record {
  each = λ n. put n ∙ go n (find (is_timed n) moments) refl ∙ ap (timed_for n) (sym (sets.each n));
  room = let k = f.room in omega arith;
}
  where
    go : (n : FullName) (o : Option Timed) → find (is_timed n) moments ≡ o → timed_or o (of_name n b.pairs) ≡ timed_for n (or_else (option_map (λ (t : Timed). t.moment) o) (value_at places n))
    go n (Some t) e = timed_is n t (found_passes n moments t e)
    go n None e = left n ∙ ap (λ c. if c then [] else of_name n a.pairs) (absent_found moments n ∙ ap is_some e) ∙ f.each n

-- ---- many moments are taken away

pub follows_none : (a new : Agenda) (places now : List (NamedValue ℕ)) (names : List FullName) → AgendaFits a places → ((n : FullName) → of_name n new.pairs ≡ (if among names n then [] else of_name n a.pairs))
    → ClearsAll names places now → length now ≡ length places → a.capacity ≤ new.capacity → AgendaFits new now
follows_none a new places now names f left clears len more = record {
  each = λ n. left n ∙ ap (λ xs. if among names n then [] else xs) (f.each n) ∙ go n (among names n) (value_at places n) ∙ ap (timed_for n) (sym (clears.each n));
  room = let k = f.room in omega arith;
}
  where
    go : (n : FullName) (b : Bool) (o : Option ℕ) → (if b then [] else timed_for n o) ≡ timed_for n (if b then None else o)
    go n true o = refl
    go n false o = refl

-- ---- the first

the_moment : (n : FullName) (o : Option ℕ) (t : Timed) (xs : List Timed) → timed_for n o ≡ t ∷ xs → o ≡ Some t.moment
the_moment n None t xs e = absurd (cc)
the_moment n (Some m) t xs e = ap Some (let k : record { moment = m; name = n } ≡ t = cc in ap (λ (u : Timed). u.moment) k)

pub none_least : (a : Agenda) (places : List (NamedValue ℕ)) → AgendaFits a places → slice_get a.pairs 0 ≡ None → IsLeast places None
none_least a places f e = record { none = λ h n. go n (value_at places n) (sym (f.each n) ∙ ap (of_name n) (empty a.pairs e)); is_one = tt; least = tt }
  where
    empty : (xs : List Timed) → slice_get xs 0 ≡ None → xs ≡ []
    empty [] h = refl
    empty (x ∷ xs) h = absurd (cc)

    go : (n : FullName) (o : Option ℕ) → timed_for n o ≡ [] → o ≡ None
    go n None h = refl
    go n (Some t) h = absurd (cc)

pub first_is_least : (a : Agenda) (places : List (NamedValue ℕ)) (t : Timed) → AgendaFits a places → slice_get a.pairs 0 ≡ Some t → All (λ (u : Timed). t.moment ≤ u.moment) a.pairs → IsLeast places (Some t.moment)
first_is_least a places t f e all = record {
  none = λ h. absurd (let k : true ≡ false = h in cc);
  is_one = (t.name, is_its a.pairs e (f.each t.name));
  least = λ n. go n (value_at places n) (All-filter (is_timed n) (λ (u : Timed). t.moment ≤ u.moment) a.pairs all) (f.each n);
}
  where
    is_its : (xs : List Timed) → slice_get xs 0 ≡ Some t → of_name t.name xs ≡ timed_for t.name (value_at places t.name) → value_at places t.name ≡ Some t.moment
    is_its [] h k = absurd (cc)
    is_its (x ∷ xs) h k =
        let same : x ≡ t = cc in
        let front : cond (same_name t.name x.name) (x ∷ of_name t.name xs) (of_name t.name xs) ≡ t ∷ of_name t.name xs =
        ap (λ (y : Timed). cond (same_name t.name y.name) (y ∷ of_name t.name xs) (of_name t.name xs)) same ∙ ap (λ b. cond b (t ∷ of_name t.name xs) (of_name t.name xs)) (same_name-itself t.name) in
        the_moment t.name (value_at places t.name) t (of_name t.name xs) (sym k ∙ front)

    go : (n : FullName) (o : Option ℕ) → All (λ (u : Timed). t.moment ≤ u.moment) (of_name n a.pairs) → of_name n a.pairs ≡ timed_for n o → IfSome o (λ m. t.moment ≤ m)
    go n None h k = tt
    go n (Some m) h k = subst (All (λ (u : Timed). t.moment ≤ u.moment)) k h 0 t (omega arith)

-- ---- the due
