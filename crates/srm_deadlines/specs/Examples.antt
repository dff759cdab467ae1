-- The definitions at worked examples.
use Rattle.std.specs.Prelude.{◌≡◌, ℕ, ◌≤◌, Bool, true, false, ◌||◌, cond, if◌then◌else◌, List, [], ◌∷◌, Option, Some, None, IfSome, option_map, refl}
use Rattle.std.proofs.Common.{arith, zero, suc, ◌+◌, ◌*◌, ◌<◌}
use Rattle.std.specs.declared.cmp.Ordering.TheVariants.{Less, Equal, Greater}
use Rattle.srm_names.specs.FullName.{FullName}
use Rattle.srm_names.specs.Histories.{or_else}
use Rattle.srm_names.specs.Names.{first_page, named, same_name}
use Rattle.srm_deadlines.specs.declared.by_name.NamedValue.{NamedValue}
use Rattle.srm_deadlines.specs.declared.timed.Timed.{Timed}
use Rattle.srm_deadlines.specs.Agenda.{timed_order, of_name, timed_for, timed_among, is_due}
use Rattle.srm_names.specs.Moments.{has_come}
use Rattle.srm_deadlines.specs.Deadlines.{DueAmong, DueHasRoom}
use Rattle.srm_deadlines.specs.Least.{lesser}
use Rattle.srm_deadlines.specs.MomentLists.{item_at, values_of, due_in, IsUnder, IsLeastIn, IsFirstIn, AreLeasts, Stands}
use Rattle.srm_deadlines.specs.Places.{value_in, value_at, has_place, moment_among, KeepsPlaces, GivesPlaces, KeepsValues, Sets, SetsAll, ClearsAll, HasPlaces, IsLeast, place_names}

-- ---- places: three names, the second without a moment, and a fourth without a place

abbrev name : (source number : ℕ) → FullName
name source number = named (record { source = source; page = first_page }) number

abbrev places : List (NamedValue ℕ)
places = record { name = name 0 1; value = Some 40 } ∷ record { name = name 0 2; value = None } ∷ record { name = name 1 1; value = Some 30 } ∷ []

value_of_the_third : value_at places (name 1 1) ≡ Some 30
value_of_the_third = refl

no_value_of_the_second : value_at places (name 0 2) ≡ None
no_value_of_the_second = refl

no_value_of_the_fourth : value_at places (name 2 1) ≡ None
no_value_of_the_fourth = refl

place_of_the_second : has_place places (name 0 2) ≡ true
place_of_the_second = refl

names_with_a_place : place_names places ≡ name 0 1 ∷ name 0 2 ∷ name 1 1 ∷ []
names_with_a_place = refl

no_place_of_the_fourth : has_place places (name 2 1) ≡ false
no_place_of_the_fourth = refl

-- ---- moments

abbrev at : (source number moment : ℕ) → Timed
at source number moment = record { moment = moment; name = name source number }

first_moment_counts : moment_among (at 0 1 5 ∷ at 1 1 6 ∷ at 1 1 7 ∷ []) (name 1 1) ≡ Some 6
first_moment_counts = refl

not_among : moment_among (at 0 1 5 ∷ at 1 1 6 ∷ []) (name 0 2) ≡ None
not_among = refl

comes_at_its_moment : has_come 30 (Some 30) ≡ true
comes_at_its_moment = refl

not_before : has_come 29 (Some 30) ≡ false
not_before = refl

none_never_comes : has_come 30 None ≡ false
none_never_comes = refl

lesser_of_two : lesser (Some 40) (Some 30) ≡ Some 30
lesser_of_two = refl

lesser_of_one : lesser None (Some 30) ≡ Some 30
lesser_of_one = refl

-- ---- the order: by the moment, then by source, page and number

by_moment : timed_order (at 1 2 30) (at 0 1 40) ≡ Less
by_moment = refl

by_source : timed_order (at 1 1 40) (at 0 2 40) ≡ Greater
by_source = refl

-- pages go by their creator and then by their number, before the drawop's own number
abbrev on_page : (creator page number : ℕ) → Timed
on_page creator page number = record { moment = 40; name = named (record { source = 0; page = record { creator = creator; number = page } }) number }

by_creator : timed_order (on_page 0 5 2) (on_page 1 0 1) ≡ Less
by_creator = refl

by_page : timed_order (on_page 1 6 1) (on_page 1 5 2) ≡ Greater
by_page = refl

by_number : timed_order (at 0 1 40) (at 0 2 40) ≡ Less
by_number = refl

itself : timed_order (at 0 2 40) (at 0 2 40) ≡ Equal
itself = refl

what_stands_there : of_name (name 0 1) (at 1 1 30 ∷ at 0 1 40 ∷ []) ≡ timed_for (name 0 1) (Some 40)
what_stands_there = refl

nothing_stands_there : of_name (name 0 2) (at 1 1 30 ∷ at 0 1 40 ∷ []) ≡ timed_for (name 0 2) None
nothing_stands_there = refl

a_list_goes_before : timed_among (at 0 1 5 ∷ []) (name 0 1) (at 0 1 40 ∷ []) ≡ at 0 1 5 ∷ []
a_list_goes_before = refl

what_stood_there_stays : timed_among (at 0 1 5 ∷ []) (name 1 1) (at 1 1 30 ∷ []) ≡ at 1 1 30 ∷ []
what_stood_there_stays = refl

due_at_its_moment : is_due 30 (at 1 1 30) ≡ true
due_at_its_moment = refl

-- ---- what calls do to the places: one name, which has a place, and then the moment 5 too

abbrev one : FullName
one = name 0 1

abbrev empty : NamedValue ℕ
empty = record { name = one; value = None }

abbrev filled : NamedValue ℕ
filled = record { name = one; value = Some 5 }

abbrev before : List (NamedValue ℕ)
before = empty ∷ []

abbrev after : List (NamedValue ℕ)
after = filled ∷ []

is_set : Sets one (Some 5) before after
is_set = record { each = λ n. go (same_name n one) }
  where
    go : (b : Bool) → value_in (cond b (Some filled) None) ≡ (if b then Some 5 else value_in (cond b (Some empty) None))
    go true = refl
    go false = refl

-- no other name's value may change with it
another_is_not_set : Sets (name 0 2) (Some 5) before after → ⊥
another_is_not_set h = absurd (let k : Some 5 ≡ None = h.each one in cc)

are_set : SetsAll (at 0 1 5 ∷ []) before after
are_set = record { each = λ n. go (same_name n one) }
  where
    go : (b : Bool) → value_in (cond b (Some filled) None) ≡ or_else (option_map (λ t. t.moment) (cond b (Some (at 0 1 5)) None)) (value_in (cond b (Some empty) None))
    go true = refl
    go false = refl

not_at_another_moment : SetsAll (at 0 1 6 ∷ []) before after → ⊥
not_at_another_moment h = absurd (let k : Some 5 ≡ Some 6 = h.each one in cc)

are_cleared : ClearsAll (one ∷ []) after before
are_cleared = record { each = λ n. go (same_name n one) }
  where
    go : (b : Bool) → value_in (cond b (Some empty) None) ≡ (if b || false then None else value_in (cond b (Some filled) None))
    go true = refl
    go false = refl

none_is_cleared : ClearsAll [] after before → ⊥
none_is_cleared h = absurd (let k : None ≡ Some 5 = h.each one in cc)

a_new_place_changes_none : KeepsValues [] before
a_new_place_changes_none = record { each = λ n. go (same_name n one) }
  where
    go : (b : Bool) → value_in (cond b (Some empty) None) ≡ None
    go true = refl
    go false = refl

a_value_is_a_change : KeepsValues before after → ⊥
a_value_is_a_change h = absurd (let k : Some 5 ≡ None = h.each one in cc)

its_place_is_given : GivesPlaces (one ∷ []) [] before
its_place_is_given = record { only = λ n h. h }

not_unasked : GivesPlaces (name 0 2 ∷ []) [] before → ⊥
not_unasked h = absurd (let k : false ≡ true = h.only one refl in cc)

not_taken_away : KeepsPlaces before [] → ⊥
not_taken_away h = absurd (let k : false ≡ true = h.each one refl in cc)

has_its_place : HasPlaces (one ∷ []) before
has_its_place = record { each = λ n h. h }

-- ---- what is due, and the least

due_is_among : DueAmong 5 after (one ∷ [])
due_is_among = record { each = λ n. go (same_name n one) }
  where
    go : (b : Bool) → has_come 5 (value_in (cond b (Some filled) None)) ≡ true → (b || false) ≡ true
    go true h = refl
    go false h = h

not_among_none : DueAmong 5 after [] → ⊥
not_among_none h = absurd (let k : false ≡ true = h.each one refl in cc)

-- a moment earlier nothing is due, and no room is needed
nothing_due_yet : DueHasRoom 4 after 0
nothing_due_yet = record { names = []; due = record { each = λ n. go (same_name n one) }; few = omega arith }
  where
    go : (b : Bool) → has_come 4 (value_in (cond b (Some filled) None)) ≡ true → false ≡ true
    go true h = h
    go false h = h

least : IsLeast after (Some 5)
least = record { none = λ h. absurd (let k : true ≡ false = h in cc); is_one = (one, refl); least = λ n. go (same_name n one) }
  where
    go : (b : Bool) → IfSome (value_in (cond b (Some filled) None)) (λ m. 5 ≤ m)
    go true = omega arith
    go false = tt

not_a_lesser : IsLeast after (Some 4) → ⊥
not_a_lesser h = go (same_name h.is_one.0 one) h.is_one.1
  where
    go : (b : Bool) → value_in (cond b (Some filled) None) ≡ Some 4 → ⊥
    go true e = absurd (let k : Some 5 ≡ Some 4 = e in cc)
    go false e = absurd (let k : None ≡ Some 4 = e in cc)

none_is_least_of_none : IsLeast before None
none_is_least_of_none = record { none = λ h n. go (same_name n one); is_one = tt; least = tt }
  where
    go : (b : Bool) → value_in (cond b (Some empty) None) ≡ None
    go true = refl
    go false = refl

-- ---- moments in a list

abbrev moments : List (Option ℕ)
moments = Some 40 ∷ None ∷ Some 30 ∷ []

stands_there : item_at moments 2 ≡ Some 30
stands_there = refl

nothing_past_the_end : item_at moments 3 ≡ None
nothing_past_the_end = refl

values_in_their_order : values_of places ≡ moments
values_in_their_order = refl

due_of_the_row : due_in 30 places ≡ name 1 1 ∷ []
due_of_the_row = refl

due_in_the_order_of_places : due_in 40 places ≡ name 0 1 ∷ name 1 1 ∷ []
due_in_the_order_of_places = refl

less_is_under : IsUnder (Some 30) (Some 40)
less_is_under = omega arith

more_is_not_under : IsUnder (Some 40) (Some 30) → ⊥
more_is_not_under h = let k : 40 ≤ 30 = h in absurd (omega arith)

none_is_under_none_alone : IsUnder None (Some 30) → ⊥
none_is_under_none_alone h = h

-- from the second on the third is the least and the first that has expired
least_of_two : IsLeastIn moments 1 3 (Some 30)
least_of_two = record { under = λ i from below. go i from below; is_one = λ t e. (2, omega arith, omega arith, e) }
  where
    go : (i : ℕ) → 1 ≤ i → i < 3 → IsUnder (Some 30) (item_at moments i)
    go zero from below = absurd (omega arith)
    go (suc zero) from below = tt
    go (suc (suc zero)) from below = omega arith
    go (suc (suc (suc i))) from below = absurd (omega arith)

not_the_first_of_all : IsFirstIn 40 moments 0 3 (Some 2) → ⊥
not_the_first_of_all h = absurd (let k : true ≡ false = h.before 2 refl 0 (omega arith) (omega arith) in cc)

longer_row_stands : Stands (Some 40 ∷ None ∷ Some 30 ∷ None ∷ []) places
longer_row_stands = record { each = go; long = omega arith }
  where
    go : (i : ℕ) → item_at (Some 40 ∷ None ∷ Some 30 ∷ None ∷ []) i ≡ item_at moments i
    go zero = refl
    go (suc zero) = refl
    go (suc (suc zero)) = refl
    go (suc (suc (suc zero))) = refl
    go (suc (suc (suc (suc i)))) = refl

another_moment_does_not : Stands (Some 41 ∷ None ∷ Some 30 ∷ []) places → ⊥
another_moment_does_not h = absurd (let k : Some 41 ≡ Some 40 = h.each 0 in cc)

-- three moments make one block, and its least stands above
one_block : AreLeasts (Some 30 ∷ []) moments
one_block = record { covers = omega arith; each = go }
  where
    first : (i : ℕ) → IsUnder (Some 30) (item_at moments i)
    first zero = omega arith
    first (suc zero) = tt
    first (suc (suc zero)) = omega arith
    first (suc (suc (suc i))) = tt

    later : (j i : ℕ) → 16 * suc j ≤ i → IsUnder None (item_at moments i)
    later j zero from = absurd (omega arith)
    later j (suc zero) from = tt
    later j (suc (suc zero)) from = absurd (omega arith)
    later j (suc (suc (suc i))) from = tt

    go : (j : ℕ) → IsLeastIn moments (16 * j) (16 * j + 16) (item_at (Some 30 ∷ []) j)
    go zero = record { under = λ i from below. first i; is_one = λ t e. (2, omega arith, omega arith, e) }
    go (suc j) = record { under = λ i from below. later j i from; is_one = λ t e. absurd (let k : None ≡ Some t = e in cc) }

not_a_greater : AreLeasts (Some 40 ∷ []) moments → ⊥
not_a_greater h = let k : 40 ≤ 30 = (h.each 0).under 2 (omega arith) (omega arith) in absurd (omega arith)
