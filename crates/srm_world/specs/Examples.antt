-- The definitions on both stored scripts, and on events that are skipped.
use Rattle.std.specs.Prelude.{◌≡◌, ℕ, ◌+◌, ◌^◌, true, false, List, [], ◌∷◌, ◌++◌, map, take, slice_get, Some, None, refl}
use Rattle.std.specs.List.{AllByRecursion}
use Rattle.std.proofs.Common.{lit<, lit≤, arith, zero, suc, sym, ◌∙◌, subst}
use Rattle.std.proofs.lemmas.Option.{same_Some}
use Rattle.srm_names.specs.declared.page.Page.{Page}
use Rattle.srm_names.specs.declared.page_msg.PageMsg.TheVariants.{Open, Draw, Left}
use Rattle.srm_names.specs.Names.{first_page, named}
use Rattle.srm_names.specs.PageFeeds.{drawops_of}
use Rattle.srm_codec.specs.declared.datagram.Datagram.TheVariants.{Data, Repair}
use Rattle.srm_timers.specs.ListedWords.{next_listed}
use Rattle.srm_entries.specs.declared.entry.Entry.{Entry}
use Rattle.srm_entries.specs.declared.entry.Input.{Input}
use Rattle.srm_entries.specs.declared.entry.Input.TheVariants.{Heard, Noise, Ticked, Showed, AskedLeave, Gave, Took}
use Rattle.srm_entries.specs.Entries.{sent}
use Rattle.srm_entries.specs.Giving.{given}
use Rattle.srm_entries.specs.Sample.{in_roster, first_stream, first_drawop, second_drawop, third_drawop, draws, hears, ticks, gives, takes, ask_arm}
use Rattle.srm_entries.specs.FirstScript as first
use Rattle.srm_entries.specs.SecondScript as second
use Rattle.srm_agent.specs.Noting.{moment_that_counts}
use Rattle.srm_world.specs.declared.event.Event.{Event}
use Rattle.srm_world.specs.declared.event.Event.TheVariants as events
use Rattle.srm_world.specs.declared.start.Start.{Start}
use Rattle.srm_world.specs.Traces.{of_member, drawn_by, taken_by, is_take, IsHonest, IsUntaken, CanBeHanded, IsHandable}
use Rattle.srm_world.specs.RecordStarts.{RecordStart}
use Rattle.srm_world.specs.WaitWords.{RecorderView, WorldView, AreByWords, AreByOwnWords, RecordsByWords, PlaysByWords}
use Rattle.srm_world.specs.Events.{member_of, moment_in, required_input, last_of_member, IsEntryOf, Follows}

abbrev start : ℕ → ℕ → Start
start members me = record { config = in_roster me members 4204; made = 0 }

abbrev two : List Start
two = map (start 2) (0 ∷ 1 ∷ [])

abbrev three : List Start
three = map (start 3) (0 ∷ 1 ∷ 2 ∷ [])

-- the entry that an event leaves, by its member, its input and its moment
is : {starts : List Start} {es : List Entry} {event : Event} {input : Input} {e : Entry} → e.member ≡ member_of event → e.input ≡ input
    → e.moment ≡ moment_that_counts (moment_in event) (last_of_member starts es (member_of event)) → IsEntryOf starts es event input e
is p q r = record { member = p; input_is = q; moment = r }

-- the first script: late, out of order and twice
abbrev three_drawn : List Event
three_drawn = events.Draw 0 1 first_page (97 ∷ []) ∷ events.Draw 0 2 first_page (98 ∷ []) ∷ events.Draw 0 3 first_page (99 ∷ []) ∷ events.Tick 0 4 ∷ []

abbrev first_events : List Event
first_events = three_drawn ++ events.Deliver 1 10 2 ∷ events.Deliver 1 11 0 ∷ events.Deliver 1 12 0 ∷ events.Deliver 1 13 1
    ∷ map (events.Give 1) (0 ∷ 0 ∷ 0 ∷ 0 ∷ 0 ∷ []) ++ map (events.Take 1) (0 ∷ 0 ∷ 0 ∷ 0 ∷ 0 ∷ [])

abbrev first_trace : List Entry
first_trace = first.member_0 ++ first.member_1

first_follows : Follows two [] first_events first_trace
first_follows = (
  take 1 first_trace,
  (draws 0 1 first_drawop, is refl refl refl, refl),
  (
    take 2 first_trace,
    (draws 0 2 second_drawop, is refl refl refl, refl),
    (
      take 3 first_trace,
      (draws 0 3 third_drawop, is refl refl refl, refl),
      (
        take 4 first_trace,
        (ticks 0 4 [] [] [] (Data first_drawop ∷ Data second_drawop ∷ Data third_drawop ∷ []), is refl refl refl, refl),
        (
          take 5 first_trace,
          (hears 1 10 (Data third_drawop) (ask_arm 1 0 200000 ∷ ask_arm 2 0 200000 ∷ []), is refl refl refl, refl),
          (
            take 6 first_trace,
            (hears 1 11 (Data first_drawop) [], is refl refl refl, refl),
            (
              take 7 first_trace,
              (hears 1 12 (Data first_drawop) [], is refl refl refl, refl),
              (
                take 8 first_trace,
                (hears 1 13 (Data second_drawop) [], is refl refl refl, refl),
                (
                  take 9 first_trace,
                  (gives 1 13 (Some (Open first_page)), is refl refl refl, refl),
                  (
                    take 10 first_trace,
                    (gives 1 13 (Some (Draw first_drawop)), is refl refl refl, refl),
                    (
                      take 11 first_trace,
                      (gives 1 13 (Some (Draw second_drawop)), is refl refl refl, refl),
                      (
                        take 12 first_trace,
                        (gives 1 13 (Some (Draw third_drawop)), is refl refl refl, refl),
                        (
                          take 13 first_trace,
                          (gives 1 13 None, is refl refl refl, refl),
                          (
                            take 14 first_trace,
                            (takes 1 13 (Some (Open first_page)), is refl refl refl, refl),
                            (
                              take 15 first_trace,
                              (takes 1 13 (Some (Draw first_drawop)), is refl refl refl, refl),
                              (
                                take 16 first_trace,
                                (takes 1 13 (Some (Draw second_drawop)), is refl refl refl, refl),
                                (
                                  take 17 first_trace,
                                  (takes 1 13 (Some (Draw third_drawop)), is refl refl refl, refl),
                                  (
                                    take 18 first_trace,
                                    (takes 1 13 None, is refl refl refl, refl),
                                    refl,
                                  ),
                                ),
                              ),
                            ),
                          ),
                        ),
                      ),
                    ),
                  ),
                ),
              ),
            ),
          ),
        ),
      ),
    ),
  ),
)

first_own_entries : map (λ m. of_member m first_trace) (0 ∷ 1 ∷ 2 ∷ []) ≡ first.member_0 ∷ first.member_1 ∷ [] ∷ []
first_own_entries = refl

first_sent : sent first_trace ≡ Data first_drawop ∷ Data second_drawop ∷ Data third_drawop ∷ []
first_sent = refl

first_is_honest : IsHonest first_trace
first_is_honest = (tt, (tt, (tt, (tt, ((2, lit< tt, refl), ((0, lit< tt, refl), ((0, lit< tt, refl), ((1, lit< tt, refl), (tt, (tt, (tt, (tt, (tt, (tt, (tt, (tt, (tt, (tt, tt))))))))))))))))))

all_was_taken : drawops_of 0 (taken_by first_trace 1 0) ≡ drawn_by first_trace 0 first_page
all_was_taken = refl

-- the second script: a source leaves, and what was lost comes from a third member
abbrev second_events : List Event
second_events = three_drawn ++ events.Leave 0 20 ∷ events.Tick 0 21 ∷ events.Deliver 2 30 0 ∷ events.Deliver 2 31 1 ∷ events.Deliver 2 32 2
    ∷ events.Deliver 1 30 0 ∷ events.Deliver 1 31 2 ∷ events.Deliver 1 32 3 ∷ events.Give 1 0 ∷ events.Give 1 0 ∷ events.Give 1 0
    ∷ events.Tick 1 200030 ∷ events.Tick 1 200031 ∷ events.Deliver 2 100 4 ∷ events.Tick 2 100099 ∷ events.Tick 2 100100 ∷ events.Deliver 1 200100 5
    ∷ map (events.Give 1) (0 ∷ 0 ∷ 0 ∷ 0 ∷ [])

abbrev second_trace : List Entry
second_trace = second.member_0 ++ second.heard_by_2 ++ second.before_repair
    ++ second.asked_of_2 ∷ ticks 2 100099 [] [] [] [] ∷ second.repairs ∷ second.repaired_at_1 ∷ second.given_late

second_follows : Follows three [] second_events second_trace
second_follows = (
  take 1 second_trace,
  (draws 0 1 first_drawop, is refl refl refl, refl),
  (
    take 2 second_trace,
    (draws 0 2 second_drawop, is refl refl refl, refl),
    (
      take 3 second_trace,
      (draws 0 3 third_drawop, is refl refl refl, refl),
      (
        take 4 second_trace,
        (second.sends, is refl refl refl, refl),
        (
          take 5 second_trace,
          (second.asks_leave, is refl refl refl, refl),
          (
            take 6 second_trace,
            (second.parts, is refl refl refl, refl),
            (
              take 7 second_trace,
              (hears 2 30 (Data first_drawop) [], is refl refl refl, refl),
              (
                take 8 second_trace,
                (hears 2 31 (Data second_drawop) [], is refl refl refl, refl),
                (
                  take 9 second_trace,
                  (hears 2 32 (Data third_drawop) [], is refl refl refl, refl),
                  (
                    take 10 second_trace,
                    (hears 1 30 (Data first_drawop) [], is refl refl refl, refl),
                    (
                      take 11 second_trace,
                      (hears 1 31 (Data third_drawop) (ask_arm 2 0 200000 ∷ []), is refl refl refl, refl),
                      (
                        take 12 second_trace,
                        (hears 1 32 second.farewell [], is refl refl refl, refl),
                        (
                          take 13 second_trace,
                          (gives 1 32 (Some (Open first_page)), is refl refl refl, refl),
                          (
                            take 14 second_trace,
                            (gives 1 32 (Some (Draw first_drawop)), is refl refl refl, refl),
                            (
                              take 15 second_trace,
                              (gives 1 32 None, is refl refl refl, refl),
                              (
                                take 16 second_trace,
                                (ticks 1 200030 [] [] [] [], is refl refl refl, refl),
                                (
                                  take 17 second_trace,
                                  (ticks 1 200031 (named first_stream 2 ∷ []) [] (ask_arm 2 1 400000 ∷ []) (second.asks_b ∷ []), is refl refl refl, refl),
                                  (
                                    take 18 second_trace,
                                    (second.asked_of_2, is refl refl refl, refl),
                                    (
                                      take 19 second_trace,
                                      (ticks 2 100099 [] [] [] [], is refl refl refl, refl),
                                      (
                                        take 20 second_trace,
                                        (second.repairs, is refl refl refl, refl),
                                        (
                                          take 21 second_trace,
                                          (second.repaired_at_1, is refl refl refl, refl),
                                          (
                                            take 22 second_trace,
                                            (gives 1 200100 (Some (Draw second_drawop)), is refl refl refl, refl),
                                            (
                                              take 23 second_trace,
                                              (gives 1 200100 (Some (Draw third_drawop)), is refl refl refl, refl),
                                              (
                                                take 24 second_trace,
                                                (gives 1 200100 (Some (Left 0)), is refl refl refl, refl),
                                                (
                                                  take 25 second_trace,
                                                  (gives 1 200100 None, is refl refl refl, refl),
                                                  refl,
                                                ),
                                              ),
                                            ),
                                          ),
                                        ),
                                      ),
                                    ),
                                  ),
                                ),
                              ),
                            ),
                          ),
                        ),
                      ),
                    ),
                  ),
                ),
              ),
            ),
          ),
        ),
      ),
    ),
  ),
)

second_own_entries : map (λ m. of_member m second_trace) (0 ∷ 1 ∷ 2 ∷ []) ≡ second.member_0 ∷ second.member_1 ∷ second.member_2 ∷ []
second_own_entries = refl

second_sent : sent second_trace ≡ Data first_drawop ∷ Data second_drawop ∷ Data third_drawop ∷ second.farewell ∷ second.asks_b ∷ Repair 2 second_drawop ∷ []
second_sent = refl

second_is_honest : IsHonest second_trace
second_is_honest = (tt, (tt, (tt, (tt, (tt, (tt, ((0, lit< tt, refl), ((1, lit< tt, refl), ((2, lit< tt, refl), ((0, lit< tt, refl), ((2, lit< tt, refl), ((3, lit< tt, refl), (tt, (tt, (tt, (tt, (tt, ((4, lit< tt, refl), (tt, (tt, ((5, lit< tt, refl), (tt, (tt, (tt, (tt, tt)))))))))))))))))))))))))

given_is_drawn : drawops_of 0 (given (of_member 1 second_trace) 0) ≡ drawn_by second_trace 0 first_page
given_is_drawn = refl

-- what events ask, and which are skipped: no such member, no such datagram yet, no such slot
abbrev other_page : Page
other_page = record { creator = 1; number = 0 }

asked_after : map (required_input two first_trace) (events.Show 0 50 other_page ∷ events.Leave 1 50 ∷ events.Tick 1 50 ∷ events.Deliver 1 50 2 ∷ events.Give 1 7 ∷ events.Take 0 7 ∷ [])
    ≡ Some (Showed other_page) ∷ Some AskedLeave ∷ Some Ticked ∷ Some (Heard (Data third_drawop)) ∷ Some (Gave 7) ∷ Some (Took 7) ∷ []
asked_after = refl

skipped : map (required_input two first_trace) (events.Tick 2 50 ∷ events.Deliver 2 50 0 ∷ events.Deliver 1 50 3 ∷ events.Give 1 8 ∷ events.Take 1 8 ∷ []) ≡ None ∷ None ∷ None ∷ None ∷ None ∷ []
skipped = refl

not_sent_yet : required_input two [] (events.Deliver 1 5 0) ≡ None
not_sent_yet = refl

skipping_follows : Follows two [] (events.Deliver 1 5 0 ∷ []) []
skipping_follows = ([], refl, refl)

-- a datagram that comes to a gone member is noise
noise : required_input three second_trace (events.Deliver 0 50 5) ≡ Some Noise
noise = refl

-- a moment before the last one counts as the last
moments : map (λ m. last_of_member three second_trace m) (0 ∷ 1 ∷ 2 ∷ []) ≡ 21 ∷ 200100 ∷ 100100 ∷ []
moments = refl

-- random numbers: the next one of its member's generator chooses a timer's wait

abbrev hears_c : (wait : ℕ) → Entry
hears_c wait = hears 1 10 (Data third_drawop) (ask_arm 1 0 wait ∷ [])

first_waits : AreByWords next_listed (in_roster 1 2 4204) [] first.member_1 []
first_waits = (refl, (refl, refl))

one_word : AreByWords next_listed (in_roster 1 2 4204) (5 ∷ 7 ∷ []) (hears_c 200005 ∷ []) (7 ∷ [])
one_word = (refl, refl)

no_word_stays : AreByWords next_listed (in_roster 1 2 4204) (5 ∷ 7 ∷ []) (hears_c 200005 ∷ []) (5 ∷ 7 ∷ []) → ⊥
no_word_stays h = absurd (let k : 5 ∷ 7 ∷ [] ≡ 7 ∷ [] = h.1 in cc)

another_wait : AreByWords next_listed (in_roster 1 2 4204) (5 ∷ 7 ∷ []) (hears_c 200007 ∷ []) (7 ∷ []) → ⊥
another_wait h = let k : 200007 ≡ 200005 = h.0 in absurd (omega (arith, k))

-- two timers of one entry take two numbers, in their order
abbrev two_arms : Entry
two_arms = hears 1 10 (Data third_drawop) (ask_arm 1 0 200005 ∷ ask_arm 2 0 200007 ∷ [])

in_their_order : AreByWords next_listed (in_roster 1 2 4204) (5 ∷ 7 ∷ []) (two_arms ∷ []) []
in_their_order = (refl, (refl, refl))

not_swapped : AreByWords next_listed (in_roster 1 2 4204) (7 ∷ 5 ∷ []) (two_arms ∷ []) [] → ⊥
not_swapped h = let k : 200005 ≡ 200007 = h.0 in absurd (omega (arith, k))

-- and so do those of two entries
over_two_entries : AreByWords next_listed (in_roster 1 2 4204) (5 ∷ 7 ∷ []) (hears_c 200005 ∷ hears 1 11 (Data third_drawop) (ask_arm 2 0 200007 ∷ []) ∷ []) []
over_two_entries = (refl, (refl, refl))

no_word_without_a_timer : AreByWords next_listed (in_roster 1 2 4204) (5 ∷ 7 ∷ []) [] (7 ∷ []) → ⊥
no_word_without_a_timer h = absurd (let k : 7 ∷ [] ≡ 5 ∷ 7 ∷ [] = h in cc)

-- each member has a generator
own_words : AreByOwnWords next_listed two ((5 ∷ []) ∷ (7 ∷ []) ∷ []) (hears_c 200007 ∷ []) ((5 ∷ []) ∷ [] ∷ [])
own_words = record { count = refl; each = at }
  where
    at : (m : ℕ) (a : Start) (u v : List ℕ) → slice_get two m ≡ Some a → slice_get ((5 ∷ []) ∷ (7 ∷ []) ∷ []) m ≡ Some u → slice_get ((5 ∷ []) ∷ [] ∷ []) m ≡ Some v → AreByWords next_listed a.config u (of_member m (hears_c 200007 ∷ [])) v
    at zero a u v p q r = same_Some v u (sym r ∙ q)
    at (suc zero) a u v p q r = subst (λ (s : Start). AreByWords next_listed s.config u (hears_c 200007 ∷ []) v) (same_Some (start 2 1) a p)
        (subst (λ w. AreByWords next_listed (start 2 1).config w (hears_c 200007 ∷ []) v) (same_Some (7 ∷ []) u q) (subst (λ w. AreByWords next_listed (start 2 1).config (7 ∷ []) (hears_c 200007 ∷ []) w) (same_Some [] v r) (refl, refl)))
    at (suc (suc m)) a u v p q r = absurd (let k : None ≡ Some a = p in cc)

abbrev no_words : List ℕ
no_words = []

the_other_source_stays : AreByOwnWords next_listed two ((5 ∷ []) ∷ (7 ∷ []) ∷ []) (hears_c 200007 ∷ []) (no_words ∷ no_words ∷ []) → ⊥
the_other_source_stays h = absurd (let k : no_words ≡ 5 ∷ [] = h.each 0 (start 2 0) (5 ∷ []) no_words refl refl refl in cc)

-- the numbers that were consumed chose the waits in what a recorder and a world gained

abbrev recorded : List Entry → List ℕ → RecorderView (List ℕ)
recorded entries words = record { journal = record { start = start 2 1; entries = entries }; words = words; begins = None }

one_entry_recorded : RecordsByWords next_listed (recorded [] (5 ∷ 7 ∷ [])) (recorded (hears_c 200005 ∷ []) (7 ∷ []))
one_entry_recorded = record { added = hears_c 200005 ∷ []; grown = refl; words = one_word; begins = refl }

no_word_goes_unrecorded : RecordsByWords next_listed (recorded [] (5 ∷ 7 ∷ [])) (recorded [] (7 ∷ [])) → ⊥
no_word_goes_unrecorded h = absurd (let k : 7 ∷ [] ≡ 5 ∷ 7 ∷ [] = subst (λ es. AreByWords next_listed (in_roster 1 2 4204) (5 ∷ 7 ∷ []) es (7 ∷ [])) (sym h.grown) h.words in cc)

-- a history isn't written to a record that it wasn't written to before
abbrev a_record : RecordStart
a_record = record { start = start 2 1; seed = 9; wall = 0; first = Some [] }

no_record_begins_later : RecordsByWords next_listed (recorded [] []) (record (recorded [] []) { begins = Some a_record }) → ⊥
no_record_begins_later h = absurd (let k : Some a_record ≡ None = h.begins in cc)

abbrev played : List Entry → List (List ℕ) → WorldView (List ℕ)
played entries words = record { trace = record { starts = two; entries = entries }; words = words }

one_entry_played : PlaysByWords next_listed (played [] ((5 ∷ []) ∷ (7 ∷ []) ∷ [])) (played (hears_c 200007 ∷ []) ((5 ∷ []) ∷ [] ∷ []))
one_entry_played = record { added = hears_c 200007 ∷ []; grown = refl; words = own_words }

-- what a page worker takes is no entry of a journal
untaken : AllByRecursion IsUntaken first.member_0
untaken = (refl, (refl, (refl, (refl, tt))))

which_takes : map is_take (Ticked ∷ Gave 3 ∷ Took 3 ∷ Noise ∷ []) ≡ false ∷ false ∷ true ∷ false ∷ []
which_takes = refl

-- a recorder takes these calls
handed : AllByRecursion IsHandable first.member_0
handed = (
  record { moment = lit≤ tt; input = (lit< tt, lit< tt) },
  (record { moment = lit≤ tt; input = (lit< tt, lit< tt) }, (record { moment = lit≤ tt; input = (lit< tt, lit< tt) }, (record { moment = lit≤ tt; input = tt }, tt))),
)

-- and neither a take, nor a page slot or a moment past the last
no_take : CanBeHanded (Took 3) → ⊥
no_take can = can

no_ninth_slot : CanBeHanded (Gave 8) → ⊥
no_ninth_slot can = omega (arith, can)

none_too_late : IsHandable (ticks 0 (2 ^ 48 + 1) [] [] [] []) → ⊥
none_too_late h = omega (arith, h.moment)
