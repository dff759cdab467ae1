-- Arrows, ends of timers, local actions and text, on examples.
use Rattle.std.specs.Prelude.{◌≡◌, true, false, [], ◌∷◌, codes, Some, refl}
use Rattle.std.proofs.lemmas.Bool.{true≢false, false≢true}
use Rattle.srm_names.specs.declared.page_msg.PageMsg.TheVariants.{Open, Draw}
use Rattle.srm_names.specs.Names.{first_page, named}
use Rattle.srm_codec.specs.declared.datagram.Datagram.TheVariants as datagrams
use Rattle.srm_timers.specs.declared.arm.ArmKind.TheVariants.{Ask, Fix}
use Rattle.srm_entries.specs.declared.entry.Entry.{Entry}
use Rattle.srm_entries.specs.Sample.{first_stream, first_drawop, second_drawop, third_drawop, draws, hears, ticks, gives, takes, ask_arm}
use Rattle.srm_entries.specs.SecondScript.{asks_b, asks_leave, parts}
use Rattle.srm_entries.specs.declared.kind.DatagramKind.TheVariants.{Data, Request}
use Rattle.srm_picture.specs.declared.arrow.Launch.{Launch}
use Rattle.srm_picture.specs.declared.arrow.Arrival.{Arrival}
use Rattle.srm_picture.specs.declared.arrow.ArrowEnd.TheVariants.{Accepted, Ignored, Lost}
use Rattle.srm_picture.specs.declared.action.LocalActionKind.TheVariants.{Drew, Gave, Took, Other, Gone}
use Rattle.srm_picture.specs.declared.bracket.TimerEnd.TheVariants.{RanOut, BackedOff, Cancelled}
use Rattle.srm_picture.specs.Arrows.{arrows_in}
use Rattle.srm_picture.specs.Escaping.{escaped}
use Rattle.srm_picture.specs.Brackets.{EndsLater, timers_in}
use Rattle.srm_picture.specs.Actions.{Shows, drew, gave, took, went, gave_other, asked}

-- entry 3 of member 0 sends data and a request
abbrev stroke : Launch
stroke = record { from = record { entry = 3; member = 0 }; nth = 0; kind = Data }

abbrev question : Launch
question = record { from = record { entry = 3; member = 0 }; nth = 1; kind = Request }

-- the data come to member 1, and back to member 0, which ignores them
abbrev came : Arrival
came = record { number = 0; at = record { entry = 5; member = 1 }; accepted = true }

abbrev came_back : Arrival
came_back = record { number = 0; at = record { entry = 6; member = 0 }; accepted = false }

two_datagrams : arrows_in (stroke ∷ question ∷ []) (came ∷ came_back ∷ []) ≡ record { number = 0; launch = stroke; end = Accepted came.at } ∷ record { number = 0; launch = stroke; end = Ignored came_back.at }
    ∷ record { number = 1; launch = question; end = Lost } ∷ []
two_datagrams = refl

spelled_out : escaped (codes "a<b>&\"") ≡ codes "a&lt;b&gt;&amp;&quot;"
spelled_out = refl

-- a line feed and a byte above ASCII
unprintable : escaped (10 ∷ 200 ∷ []) ≡ codes "??"
unprintable = refl

-- the second stored script: member 1 sets a request timer for the second drawop when it hears the third, requests it when that expires,
-- and hears the repair
set_by_hearing : timers_in (1, hears 1 31 (datagrams.Data third_drawop) (ask_arm 2 0 200000 ∷ [])) ≡ (0, record { from = record { entry = 1; member = 1 }; kind = Ask; name = named first_stream 2 }) ∷ []
set_by_hearing = refl

abbrev asking : Entry
asking = ticks 1 200031 (named first_stream 2 ∷ []) [] (ask_arm 2 1 400000 ∷ []) (asks_b ∷ [])

-- it sets the timer again too, but requests the name
asking_runs_out : EndsLater Ask (named first_stream 2) asking RanOut
asking_runs_out = refl

asking_does_not_back_off : EndsLater Ask (named first_stream 2) asking BackedOff → ⊥
asking_does_not_back_off h = true≢false h.0

asking_is_no_repair : EndsLater Fix (named first_stream 2) asking RanOut → ⊥
asking_is_no_repair h = false≢true h

-- another member that misses the drawop hears the request, and the source's drawop
backs_off : EndsLater Ask (named first_stream 2) (hears 2 200050 asks_b (ask_arm 2 1 400000 ∷ [])) BackedOff
backs_off = (refl, refl)

comes : EndsLater Ask (named first_stream 2) (hears 2 200060 (datagrams.Data second_drawop) []) Cancelled
comes = (refl, refl, refl)

-- data cancel no repair, and a repair does
data_repair_nothing : EndsLater Fix (named first_stream 2) (hears 2 200060 (datagrams.Data second_drawop) []) Cancelled → ⊥
data_repair_nothing h = false≢true h.2

another_repairs : EndsLater Fix (named first_stream 2) (hears 2 200060 (datagrams.Repair 0 second_drawop) []) Cancelled
another_repairs = (refl, refl, refl)

goes : EndsLater Ask (named first_stream 2) parts Cancelled
goes = (refl, refl, refl)

-- what entries show
a_drawop_is_drawn : Shows (draws 0 1 first_drawop) Drew
a_drawop_is_drawn = drew first_page (97 ∷ []) refl

a_page_is_opened : Shows (gives 1 32 (Some (Open first_page))) Other
a_page_is_opened = gave_other 0 (Open first_page) refl refl refl

a_drawop_is_given : Shows (gives 1 32 (Some (Draw first_drawop))) Gave
a_drawop_is_given = gave 0 first_drawop refl refl

a_drawop_is_taken : Shows (takes 1 32 (Some (Draw first_drawop))) Took
a_drawop_is_taken = took 0 first_drawop refl refl

a_member_asks_to_leave : Shows asks_leave Other
a_member_asks_to_leave = asked refl

a_member_goes : Shows parts Gone
a_member_goes = went refl refl
