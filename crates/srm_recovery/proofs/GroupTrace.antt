-- A session of three members, for examples. Member 0 draws, and its datum is lost as its session message arrives. Member 1 asks for it, and is answered. Then member 0 leaves, and its
-- farewell is lost. Member 2 begins, learns of the drawop by the session message of member 1, asks for it, and is answered by member 1.
use Rattle.std.proofs.Common.{◌≡◌, ℕ, ◌==◌, ◌<◌, Bool, true, false, ◌&&◌, List, [], ◌∷◌, ◌++◌, refl, ap, sym, ◌∙◌, subst, arith, lit<, lit≤}
use Rattle.std.specs.Prelude.{Some, None, option_map, nat_lt, if◌then◌else◌}
use Rattle.srm_names.specs.declared.stream.Stream.{Stream}
use Rattle.srm_names.specs.FullName.{FullName}
use Rattle.srm_names.specs.Names.{first_page, named, same_page, same_stream}
use Rattle.srm_names.proofs.Same.{same_stream-is}
use Rattle.srm_codec.specs.declared.datagram.Datagram.{Datagram}
use Rattle.srm_codec.specs.declared.datagram.Datagram.TheVariants.{Data, Request, Repair, Session}
use Rattle.srm_codec.specs.Spelling.{bits_set, IsSpellable}
use Rattle.srm_store.specs.Finals.{number_in_rows}
use Rattle.srm_entries.specs.Configs.{Config}
use Rattle.srm_entries.specs.declared.entry.Entry.{Entry}
use Rattle.srm_entries.specs.declared.state.AgentState.TheVariants.{Active, Leaving, Gone}
use Rattle.srm_entries.specs.declared.entry.Input.TheVariants.{Ticked, AskedLeave}
use Rattle.srm_entries.specs.Entries.{shown, known}
use Rattle.srm_entries.specs.Sessions.{expected_row, if_positive, SessionMessageRight}
use Rattle.srm_entries.specs.Sample.{trio, first_stream, first_drawop, hears, ticks, ask_arm, fix_arm}
use Rattle.srm_entries.proofs.Plain.{plain, one_spelled, row_spelled, draws_one}
use Rattle.srm_world.specs.Traces.{Trace}
use Rattle.srm_recovery.specs.Timing.{Timing}
use Rattle.srm_recovery.proofs.Calm.{rests}

-- members whose timers don't wait: a request or a repair goes by the next tick
abbrev pub prompt : ℕ → Config
prompt me = record (trio me) { c1 = 0; c2 = 0; d1 = 0; d2 = 0 }

abbrev pub lost : FullName
lost = named first_stream 1

abbrev pub message_0 : Datagram
message_0 = Session 0 1000000 false first_page (lost ∷ []) []

abbrev pub request_1 : Datagram
request_1 = Request 1 lost 0

abbrev pub repair_0 : Datagram
repair_0 = Repair 0 first_drawop

abbrev pub farewell : Datagram
farewell = Session 0 1999992 true first_page (lost ∷ []) []

abbrev pub message_1 : Datagram
message_1 = Session 1 1500000 false first_page (lost ∷ []) (record { member = 0; t1 = 1000000; delay = 999999 } ∷ [])

abbrev pub request_2 : Datagram
request_2 = Request 2 lost 0

abbrev pub repair_1 : Datagram
repair_1 = Repair 1 first_drawop

abbrev pub sends : Entry
sends = plain 0 1000000 Ticked None (Data first_drawop ∷ message_0 ∷ []) None Active

abbrev pub told_1 : Entry
told_1 = hears 1 500001 message_0 (ask_arm 1 0 0 ∷ [])

abbrev pub asks_1 : Entry
asks_1 = ticks 1 550000 (lost ∷ []) [] (ask_arm 1 1 0 ∷ []) (request_1 ∷ [])

abbrev pub asked_0 : Entry
asked_0 = hears 0 1050001 request_1 (fix_arm 1 0 ∷ [])

abbrev pub mends_0 : Entry
mends_0 = ticks 0 1100000 [] (lost ∷ []) [] (repair_0 ∷ [])

abbrev pub mended_1 : Entry
mended_1 = hears 1 600001 repair_0 []

abbrev pub asks_leave : Entry
asks_leave = plain 0 1999991 AskedLeave None [] None Leaving

abbrev pub departs : Entry
departs = plain 0 1999992 Ticked None (farewell ∷ []) None Gone

abbrev pub tells : Entry
tells = plain 1 1500000 Ticked None (message_1 ∷ []) None Active

abbrev pub told_2 : Entry
told_2 = hears 2 500001 message_1 (ask_arm 1 0 0 ∷ [])

abbrev pub asks_2 : Entry
asks_2 = ticks 2 550000 (lost ∷ []) [] (ask_arm 1 1 0 ∷ []) (request_2 ∷ [])

abbrev pub asked_1 : Entry
asked_1 = hears 1 1550001 request_2 (fix_arm 1 0 ∷ [])

abbrev pub mends_1 : Entry
mends_1 = ticks 1 1600000 [] (lost ∷ []) [] (repair_1 ∷ [])

abbrev pub mended_2 : Entry
mended_2 = hears 2 600001 repair_1 []

abbrev pub then_0 : List ℕ
then_0 = 1200000 ∷ 1300000 ∷ 1400000 ∷ 1500000 ∷ 1600000 ∷ 1700000 ∷ 1800000 ∷ 1900000 ∷ []

abbrev pub then_1 : List ℕ
then_1 = 650000 ∷ 750000 ∷ 850000 ∷ 950000 ∷ 1050000 ∷ 1150000 ∷ 1250000 ∷ 1350000 ∷ 1450000 ∷ []

abbrev pub later_1 : List ℕ
later_1 = 1700000 ∷ 1800000 ∷ 1900000 ∷ 2000000 ∷ 2100000 ∷ 2200000 ∷ []

abbrev pub later_2 : List ℕ
later_2 = 650000 ∷ 750000 ∷ 850000 ∷ 950000 ∷ 1050000 ∷ 1150000 ∷ 1250000 ∷ []

-- nothing is due: between the repair and the leaving, and at the end
abbrev pub lull : List Entry
lull = rests 1 650000 ∷ rests 0 1200000 ∷ rests 1 750000 ∷ rests 0 1300000 ∷ rests 1 850000 ∷ rests 0 1400000 ∷ rests 1 950000 ∷ rests 0 1500000 ∷ rests 1 1050000 ∷ rests 0 1600000 ∷ rests 1 1150000 ∷ rests 0 1700000 ∷ rests 1 1250000 ∷ rests 0 1800000 ∷ rests 1 1350000 ∷ rests 0 1900000 ∷ rests 1 1450000 ∷ []

abbrev pub last_lull : List Entry
last_lull = rests 2 650000 ∷ rests 1 1700000 ∷ rests 2 750000 ∷ rests 1 1800000 ∷ rests 2 850000 ∷ rests 1 1900000 ∷ rests 2 950000 ∷ rests 1 2000000 ∷ rests 2 1050000 ∷ rests 1 2100000 ∷ rests 2 1150000 ∷ rests 1 2200000 ∷ rests 2 1250000 ∷ []

abbrev pub leaving : List Entry
leaving = asks_leave ∷ departs ∷ tells ∷ told_2 ∷ asks_2 ∷ asked_1 ∷ mends_1 ∷ mended_2 ∷ last_lull

abbrev pub entries : List Entry
entries = draws_one ∷ sends ∷ told_1 ∷ asks_1 ∷ asked_0 ∷ mends_0 ∷ mended_1 ∷ (lull ++ leaving)

abbrev pub trace : Trace
trace = record { starts = record { config = prompt 0; made = 0 } ∷ record { config = prompt 1; made = 500000 } ∷ record { config = prompt 2; made = 499980 } ∷ []; entries = entries }

pub message_0_spelled : IsSpellable message_0
message_0_spelled = (lit< tt, lit≤ tt, (lit< tt, lit< tt), record { few = lit≤ tt; names = (row_spelled, tt); rising = refl; sources = ((λ e. refl), tt) }, record { few = lit≤ tt; each = tt; rising = refl })

pub farewell_spelled : IsSpellable farewell
farewell_spelled = (lit< tt, lit≤ tt, (lit< tt, lit< tt), record { few = lit≤ tt; names = (row_spelled, tt); rising = refl; sources = ((λ e. refl), tt) }, record { few = lit≤ tt; each = tt; rising = refl })

pub message_1_spelled : IsSpellable message_1
message_1_spelled = (
  lit< tt,
  lit≤ tt,
  (lit< tt, lit< tt),
  record { few = lit≤ tt; names = (row_spelled, tt); rising = refl; sources = ((λ e. absurd (grind arith)), tt) },
  record { few = lit≤ tt; each = ((lit< tt, lit≤ tt, lit≤ tt), tt); rising = refl },
)

pub request_spelled : (m : ℕ) → m < 3 → IsSpellable (Request m lost 0)
unfolding bits_set
request_spelled m l = (below m l, lit< tt, (row_spelled, tt))
  where
    below : (m : ℕ) → m < 3 → m < 32
    below m l = omega arith

pub repair_spelled : (m : ℕ) → m < 3 → IsSpellable (Repair m first_drawop)
repair_spelled m l = (below m l, one_spelled)
  where
    below : (m : ℕ) → m < 3 → m < 32
    below m l = omega arith

-- the rows of the session messages are those due
pub rows_right : (c : Config) (before : List Entry) (now : ℕ) → (number_in_rows (lost ∷ []) first_stream ≡ expected_row c before false first_stream) → ((s : Stream) → same_stream s first_stream ≡ false → known before s ≡ 0)
    → SessionMessageRight c before now false (lost ∷ [])
rows_right c before now here there = record { in_order = refl; exact = λ s. go s (same_stream s first_stream) refl }
  where
    empty : (b : Bool) → (if b then if_positive 0 else None) ≡ None
    empty true = refl
    empty false = refl

    go : (s : Stream) (b : Bool) → same_stream s first_stream ≡ b → number_in_rows (lost ∷ []) s ≡ expected_row c before false s
    go s true e = subst (λ (x : Stream). number_in_rows (lost ∷ []) x ≡ expected_row c before false x) (sym (same_stream-is s first_stream e)) here
    go s false e =
        ap (λ b. option_map (λ (n : FullName). n.number) (if b then Some lost else None)) e
        ∙ sym (ap (λ k. if same_page s.page (shown before) && nat_lt s.source c.members then if_positive k else None) (there s e) ∙ empty (same_page s.page (shown before) && nat_lt s.source c.members))

-- members 1 and 2 have clocks that began later
abbrev pub clock : ℕ → ℕ
clock m = if m == 1 then 500000 else if m == 2 then 1500000 else 0

abbrev pub timing : Timing
timing = record { clock = clock; delay = 1; tick = 100000; emptying = 100000; repair_wait = 0; hold_off = 300000 }
