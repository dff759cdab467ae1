-- The definitions at worked examples.
use Rattle.std.specs.Prelude.{◌≡◌, ℕ, true, false, [], ◌∷◌, map, length, Some, None, Option, List, refl}
use Rattle.srm_names.specs.declared.stream.Stream.{Stream}
use Rattle.srm_names.specs.declared.drawop.Drawop.{Drawop}
use Rattle.srm_names.specs.FullName.{FullName}
use Rattle.srm_names.specs.Names.{named}
use Rattle.srm_store.specs.declared.insert.Insert.TheVariants.{Fresh, Known, Conflict}
use Rattle.srm_store.specs.Held.{held_at, is_held, is_missing, insert_answer, known, missing, newly_missing, next_missing, released, lacks_room, outgrow, page_of_name}
use Rattle.srm_store.specs.PageTables.{with_pages}
use Rattle.srm_store.specs.Finals.{Settling, final}
use Rattle.srm_store.specs.Places.{gaps_up_to, next_gap}

abbrev on_page : ℕ → ℕ → Stream
on_page source number = record { source = source; page = record { creator = 0; number = number } }

abbrev s : Stream
s = on_page 0 0

abbrev drawn : ℕ → ℕ → Drawop
drawn number byte = record { name = named s number; stamp = 7; body = byte ∷ [] }

-- evidence of 3, then 2 is inserted, then evidence of 4
all_three : newly_missing [] [] (named s 3) ≡ named s 1 ∷ named s 2 ∷ named s 3 ∷ []
all_three = refl

the_fourth : newly_missing (drawn 2 1 ∷ []) (named s 3 ∷ []) (named s 4) ≡ named s 4 ∷ []
the_fourth = refl

not_the_held_one : newly_missing (drawn 2 1 ∷ []) [] (named s 3) ≡ named s 1 ∷ named s 3 ∷ []
not_the_held_one = refl

nothing_new : newly_missing [] (named s 3 ∷ []) (named s 2) ≡ []
nothing_new = refl

the_missing : missing (drawn 2 1 ∷ []) (named s 3 ∷ named s 4 ∷ []) s ≡ named s 1 ∷ named s 3 ∷ named s 4 ∷ []
the_missing = refl

-- the first missing name above a number
missing_above : map (next_missing (drawn 2 1 ∷ []) (named s 4 ∷ []) s) (0 ∷ 1 ∷ 3 ∷ 4 ∷ []) ≡ Some (named s 1) ∷ Some (named s 3) ∷ Some (named s 4) ∷ None ∷ []
missing_above = refl

-- a block that has number 2 of the numbers up to 3, and nothing past it
abbrev with_two : List (List (Option Drawop))
with_two = (None ∷ None ∷ Some (drawn 2 1) ∷ []) ∷ []

three_gaps : gaps_up_to with_two 4 ≡ 3
unfolding Rattle.srm_store.specs.Places.place_at
three_gaps = refl

gaps_above : map (λ after. next_gap with_two after 4) (0 ∷ 1 ∷ 3 ∷ 4 ∷ []) ≡ Some 1 ∷ Some 3 ∷ Some 4 ∷ None ∷ []
unfolding Rattle.srm_store.specs.Places.place_at
gaps_above = refl

three_is_missing : is_missing (drawn 2 1 ∷ []) (named s 3 ∷ []) (named s 3) ≡ true
three_is_missing = refl

the_greatest_known : known (named s 4 ∷ named (on_page 1 0) 9 ∷ named s 3 ∷ []) s ≡ 4
the_greatest_known = refl

-- release stops at the gap, and goes on once it is filled
none_before_the_gap : released (drawn 2 1 ∷ []) s ≡ []
none_before_the_gap = refl

both : released (drawn 2 1 ∷ drawn 1 2 ∷ drawn 4 3 ∷ []) s ≡ drawn 1 2 ∷ drawn 2 1 ∷ []
both = refl

-- the first drawop of a name stays
the_first_stays : held_at (drawn 2 1 ∷ drawn 2 9 ∷ []) (named s 2) ≡ Some (drawn 2 1)
the_first_stays = refl

two_is_held : is_held (drawn 2 1 ∷ []) (named s 2) ≡ true
two_is_held = refl

fresh : insert_answer (drawn 1 1) (held_at (drawn 2 1 ∷ []) (named s 1)) ≡ Fresh
fresh = refl

the_same_again : insert_answer (drawn 2 1) (held_at (drawn 2 1 ∷ []) (named s 2)) ≡ Known
the_same_again = refl

another_body : insert_answer (drawn 2 9) (held_at (drawn 2 1 ∷ []) (named s 2)) ≡ Conflict
another_body = refl

-- the first page and seven more fill a table
abbrev seven : List FullName
seven = map (λ k. named (on_page 0 k) 1) (1 ∷ 2 ∷ 3 ∷ 4 ∷ 5 ∷ 6 ∷ 7 ∷ [])

a_ninth : lacks_room [] seven (record { creator = 0; number = 8 }) ≡ true
a_ninth = refl

one_of_the_eight : lacks_room [] seven (record { creator = 0; number = 7 }) ≡ false
one_of_the_eight = refl

-- four names on three pages, one of them in the table
abbrev four : List FullName
four = named (on_page 0 0) 1 ∷ named (on_page 0 8) 1 ∷ named (on_page 1 8) 2 ∷ named (on_page 0 9) 1 ∷ []

two_slots_left : outgrow [] (map (λ k. named (on_page 0 k) 1) (1 ∷ 2 ∷ 3 ∷ 4 ∷ 5 ∷ [])) (map page_of_name four) ≡ false
two_slots_left = refl

one_slot_left : outgrow [] (map (λ k. named (on_page 0 k) 1) (1 ∷ 2 ∷ 3 ∷ 4 ∷ 5 ∷ 6 ∷ [])) (map page_of_name four) ≡ true
one_slot_left = refl

with_the_four : length (with_pages (map (λ k. record { creator = 0; number = k }) (0 ∷ 1 ∷ 2 ∷ [])) (map page_of_name four)) ≡ 5
with_the_four = refl

all_eight : with_pages (record { creator = 0; number = 0 } ∷ []) (map page_of_name seven) ≡ map (λ k. record { creator = 0; number = k }) (0 ∷ 1 ∷ 2 ∷ 3 ∷ 4 ∷ 5 ∷ 6 ∷ 7 ∷ [])
all_eight = refl

-- a settled member goes as far as its rows of the first settling
abbrev settled : List Settling
settled = record { member = 0; rows = named s 3 ∷ [] } ∷ record { member = 0; rows = named s 9 ∷ [] } ∷ []

its_row : final settled s ≡ Some 3
its_row = refl

no_row : final settled (on_page 0 1) ≡ Some 0
no_row = refl

not_settled : final settled (on_page 1 0) ≡ None
not_settled = refl
