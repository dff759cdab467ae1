-- The definitions at worked examples.
use Rattle.std.specs.Prelude.{◌≡◌, ℕ, ◌==◌, nat_lt, true, false, [], ◌∷◌, map, length, Option, Some, None, if◌then◌else◌, refl}
use Rattle.srm_names.specs.declared.page.Page.{Page}
use Rattle.srm_names.specs.declared.drawop.Drawop.{Drawop}
use Rattle.srm_names.specs.declared.page_msg.PageMsg.TheVariants.{Open, Draw, Left, Close}
use Rattle.srm_names.specs.Histories.{IsPrefix, steps, first_of, last_of, since, greatest, first_best, firsts, count_up, until_none}
use Rattle.srm_names.specs.Names.{first_page, name_below, echo_below, ascending, named, names_up_to, among, stream_on}
use Rattle.srm_names.specs.Between.{is_between}
use Rattle.srm_names.specs.PageFeeds.{is_page_feed, drawops_of}

abbrev later_page : Page
later_page = record { creator = 0; number = 1 }

-- Names go by source, then by the page's creator, then by its number, then by their own number.
by_source : name_below (named (stream_on 0 later_page) 9) (named (stream_on 1 first_page) 1) ≡ true
by_source = refl

by_creator : name_below (named (stream_on 1 later_page) 9) (named (stream_on 1 (record { creator = 1; number = 0 })) 1) ≡ true
by_creator = refl

by_page : name_below (named (stream_on 1 first_page) 9) (named (stream_on 1 later_page) 1) ≡ true
by_page = refl

by_number : name_below (named (stream_on 1 first_page) 9) (named (stream_on 1 first_page) 10) ≡ true
by_number = refl

not_itself : name_below (named (stream_on 1 first_page) 9) (named (stream_on 1 first_page) 9) ≡ false
not_itself = refl

up_to_three : names_up_to (stream_on 2 first_page) 3 ≡ named (stream_on 2 first_page) 1 ∷ named (stream_on 2 first_page) 2 ∷ named (stream_on 2 first_page) 3 ∷ []
up_to_three = refl

they_rise : ascending name_below (names_up_to (stream_on 2 first_page) 3) ≡ true
they_rise = refl

equal_ones_do_not_rise : ascending name_below (named (stream_on 2 first_page) 3 ∷ named (stream_on 2 first_page) 3 ∷ []) ≡ false
equal_ones_do_not_rise = refl

three_is_among : among (names_up_to (stream_on 2 first_page) 3) (named (stream_on 2 first_page) 3) ≡ true
three_is_among = refl

four_is_not : among (names_up_to (stream_on 2 first_page) 3) (named (stream_on 2 first_page) 4) ≡ false
four_is_not = refl

echoes_go_by_member : echo_below (record { member = 1; t1 = 9; delay = 0 }) (record { member = 2; t1 = 5; delay = 0 }) ≡ true
echoes_go_by_member = refl

-- histories
begins_with : IsPrefix {X = ℕ} (5 ∷ 6 ∷ []) (5 ∷ 6 ∷ 7 ∷ [])
begins_with = (7 ∷ [], refl)

begins_with_nothing : IsPrefix {X = ℕ} [] (5 ∷ [])
begins_with_nothing = (5 ∷ [], refl)

begins_otherwise : IsPrefix {X = ℕ} (6 ∷ []) (5 ∷ 6 ∷ []) → ⊥
begins_otherwise (rest, is) = cc

the_steps : steps {X = ℕ} (5 ∷ 6 ∷ []) ≡ record { before = []; this = 5 } ∷ record { before = 5 ∷ []; this = 6 } ∷ []
the_steps = refl

abbrev above_four : ℕ → Option ℕ
above_four n = if nat_lt 4 n then Some n else None

first_above_four : first_of above_four (3 ∷ 5 ∷ 7 ∷ []) ≡ Some 5
first_above_four = refl

last_above_four : last_of above_four (3 ∷ 5 ∷ 7 ∷ []) ≡ Some 7
last_above_four = refl

after_the_last_two : since (λ n. n == 2) (1 ∷ 2 ∷ 3 ∷ 2 ∷ 4 ∷ []) ≡ 4 ∷ []
after_the_last_two = refl

all_where_none_passes : since (λ n. n == 9) (1 ∷ 2 ∷ []) ≡ 1 ∷ 2 ∷ []
all_where_none_passes = refl

the_greatest : greatest (3 ∷ 8 ∷ 5 ∷ []) ≡ 8
the_greatest = refl

greatest_of_none : greatest [] ≡ 0
greatest_of_none = refl

first_of_the_best : first_best (λ (p : Page). p.number) (record { creator = 1; number = 4 } ∷ record { creator = 2; number = 7 } ∷ record { creator = 3; number = 7 } ∷ []) ≡ Some (record { creator = 2; number = 7 })
first_of_the_best = refl

each_once : firsts (λ a b. a == b) (3 ∷ 4 ∷ 3 ∷ 5 ∷ 4 ∷ []) ≡ 3 ∷ 4 ∷ 5 ∷ []
each_once = refl

from_two : count_up 2 3 ≡ 2 ∷ 3 ∷ 4 ∷ []
from_two = refl

up_to_the_gap : until_none {X = ℕ} (Some 1 ∷ Some 2 ∷ None ∷ Some 4 ∷ []) ≡ 1 ∷ 2 ∷ []
up_to_the_gap = refl

-- page feeds
abbrev drawop : ℕ → ℕ → Page → Drawop
drawop source number page = record { name = named (stream_on source page) number; stamp = 0; body = [] }

two_sources : is_page_feed (Open first_page ∷ Draw (drawop 0 1 first_page) ∷ Draw (drawop 1 1 first_page) ∷ Draw (drawop 0 2 first_page) ∷ Left 0 ∷ Draw (drawop 1 2 first_page) ∷ Close ∷ []) ≡ true
two_sources = refl

of_one_source : length (drawops_of 0 (Open first_page ∷ Draw (drawop 0 1 first_page) ∷ Draw (drawop 1 1 first_page) ∷ Draw (drawop 0 2 first_page) ∷ [])) ≡ 2
of_one_source = refl

none_at_all : is_page_feed [] ≡ true
none_at_all = refl

closed_at_once : is_page_feed (Close ∷ []) ≡ true
closed_at_once = refl

drawn_before_open : is_page_feed (Draw (drawop 0 1 first_page) ∷ []) ≡ false
drawn_before_open = refl

opened_twice : is_page_feed (Open first_page ∷ Open first_page ∷ []) ≡ false
opened_twice = refl

past_a_gap : is_page_feed (Open first_page ∷ Draw (drawop 0 2 first_page) ∷ []) ≡ false
past_a_gap = refl

twice : is_page_feed (Open first_page ∷ Draw (drawop 0 1 first_page) ∷ Draw (drawop 0 1 first_page) ∷ []) ≡ false
twice = refl

of_another_page : is_page_feed (Open first_page ∷ Draw (drawop 0 1 later_page) ∷ []) ≡ false
of_another_page = refl

after_it_left : is_page_feed (Open first_page ∷ Left 0 ∷ Draw (drawop 0 1 first_page) ∷ []) ≡ false
after_it_left = refl

after_the_close : is_page_feed (Open first_page ∷ Close ∷ Left 0 ∷ []) ≡ false
after_the_close = refl

-- neither of the two is between them
between_two_and_five : map (λ n. is_between (stream_on 0 first_page) 2 5 (named (stream_on 0 first_page) n)) (2 ∷ 3 ∷ 4 ∷ 5 ∷ []) ≡ false ∷ true ∷ true ∷ false ∷ []
between_two_and_five = refl

none_is_between : map (λ n. is_between (stream_on 0 first_page) 3 4 (named (stream_on 0 first_page) n)) (3 ∷ 4 ∷ []) ≡ false ∷ false ∷ []
none_is_between = refl

of_another_stream : is_between (stream_on 0 first_page) 2 5 (named (stream_on 1 first_page) 3) ≡ false
of_another_stream = refl
