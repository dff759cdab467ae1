-- The definitions at worked examples.
use Rattle.std.specs.Prelude.{◌≡◌, ℕ, List, [], ◌∷◌, ◌++◌, Option, Some, None, refl}
use Rattle.srm_bucket.specs.declared.class.Class.{Class}
use Rattle.srm_bucket.specs.declared.class.Class.TheVariants.{Shown, New, Other}
use Rattle.srm_bucket.specs.declared.item.Item.{Item}
use Rattle.srm_bucket.specs.Calls.{Classed, BucketCall, Handed, Refilled, Popped}
use Rattle.srm_bucket.specs.Classes.{handed, departed, queued, next_queued}
use Rattle.srm_bucket.specs.Ticks.{Tick, last_moment, ticks, charge, allowance, level}
use Rattle.srm_bucket.specs.Law.{level_at, may_go}

-- an item with a number for its value
abbrev pub item : (value bytes : ℕ) → Item ℕ
item value bytes = record { value = value; length = bytes }

abbrev pub entry : Class → (value bytes : ℕ) → Classed ℕ
entry class value bytes = record { class = class; item = item value bytes }

abbrev nothing : Option (Classed ℕ)
nothing = None

abbrev tick : (moment cost : ℕ) → Tick
tick moment cost = record { moment = moment; cost = cost }

-- five full datagrams
abbrev pub full : ℕ → Classed ℕ
full value = entry New value 1051

abbrev pub five : List (BucketCall ℕ)
five = Handed (full 1) ∷ Handed (full 2) ∷ Handed (full 3) ∷ Handed (full 4) ∷ Handed (full 5) ∷ []

abbrev pub four_gone : List (BucketCall ℕ)
four_gone = five ++ Popped 7000000 (Some (full 1)) ∷ Popped 7000000 (Some (full 2)) ∷ Popped 7000000 (Some (full 3)) ∷ Popped 7000000 (Some (full 4)) ∷ []

first_goes : may_go 8000 4204 five 7000000 ≡ Some (full 1)
first_goes = refl

four_are_all : may_go 8000 4204 four_gone 7000000 ≡ None
four_are_all = refl

not_yet : may_go 8000 4204 four_gone 7131374 ≡ None
not_yet = refl

then_the_fifth : may_go 8000 4204 four_gone 7131375 ≡ Some (full 5)
then_the_fifth = refl

fifth_is_left : queued four_gone New ≡ item 5 1051 ∷ []
fifth_is_left = refl

full_at_first : level_at 8000 4204 five 0 ≡ 4204000000
full_at_first = refl

never_past_the_depth : level_at 8000 4204 four_gone 9000000000 ≡ 4204000000
never_past_the_depth = refl

-- a bucket that was emptied at 0, and then one item of each class, the lowest first
abbrev pub emptied : List (BucketCall ℕ)
emptied = Handed (full 0) ∷ Popped 0 (Some (full 0)) ∷ Handed (entry Other 1 17) ∷ Handed (entry New 2 28) ∷ Handed (entry Shown 3 29) ∷ []

highest_first : next_queued emptied ≡ Some (entry Shown 3 29)
highest_first = refl

nothing_goes_that_would_fit : may_go 8000 1051 emptied 2125 ≡ None
nothing_goes_that_would_fit = refl

highest_goes : may_go 8000 1051 emptied 3625 ≡ Some (entry Shown 3 29)
highest_goes = refl

then_the_next : may_go 8000 1051 (emptied ++ Popped 3625 (Some (entry Shown 3 29)) ∷ []) 7125 ≡ Some (entry New 2 28)
then_the_next = refl

then_the_last : may_go 8000 1051 (emptied ++ Popped 3625 (Some (entry Shown 3 29)) ∷ Popped 7125 (Some (entry New 2 28)) ∷ []) 9250 ≡ Some (entry Other 1 17)
then_the_last = refl

-- a rate of three bytes a second
abbrev slow : List (BucketCall ℕ)
slow = Handed (entry Other 1 1051) ∷ Popped 0 (Some (entry Other 1 1051)) ∷ Handed (entry Other 2 17) ∷ []

not_at_5666666 : may_go 3 1051 slow 5666666 ≡ None
not_at_5666666 = refl

at_5666667 : may_go 3 1051 slow 5666667 ≡ Some (entry Other 2 17)
at_5666667 = refl

-- a moment below the last one counts as the last
last_stays : last_moment (slow ++ Refilled 900 ∷ Refilled 5 ∷ []) ≡ 900
last_stays = refl

level_stays : level_at 3 1051 (slow ++ Refilled 900 ∷ []) 5 ≡ 2700
level_stays = refl

-- ticks: hand-ins, refills and lower moments don't part one, a pop that lets nothing go and a later moment do
one_tick : ticks (Popped 5 (Some (full 1)) ∷ Handed (full 3) ∷ Refilled 4 ∷ Popped 2 (Some (full 2)) ∷ []) ≡ tick 5 2102000000 ∷ []
one_tick = refl

parted_by_nothing : ticks (Popped 5 (Some (full 1)) ∷ Popped 5 nothing ∷ Popped 5 (Some (full 2)) ∷ []) ≡ tick 5 1051000000 ∷ tick 5 1051000000 ∷ []
parted_by_nothing = refl

parted_by_time : ticks (Popped 5 (Some (full 1)) ∷ Refilled 6 ∷ Popped 5 (Some (full 2)) ∷ []) ≡ tick 5 1051000000 ∷ tick 6 1051000000 ∷ []
parted_by_time = refl

charged : charge (tick 5 1051000000 ∷ tick 6 17000000 ∷ []) ≡ 1068000000
charged = refl

allowed : allowance 8000 1051 5 131380 ≡ 2102000000
allowed = refl

least_of_all : level 8000 2000 10 (tick 5 1051000000 ∷ tick 9 17000000 ∷ []) ≡ 932040000
least_of_all = refl

-- by class
handed_by_class : handed New emptied ≡ item 0 1051 ∷ item 2 28 ∷ []
handed_by_class = refl

gone_by_class : departed New emptied ≡ item 0 1051 ∷ []
gone_by_class = refl
