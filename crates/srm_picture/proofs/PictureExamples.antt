-- Whole runs: where their timers end, and which entries show nothing.
use Rattle.std.proofs.Common.{◌≡◌, ℕ, List, [], ◌∷◌, ◌++◌, refl, ap, arith}
use Rattle.std.specs.Prelude.{Option, Some, None, option_map}
use Rattle.std.proofs.lemmas.Option.{none-some}
use Rattle.srm_names.specs.Names.{named}
use Rattle.srm_codec.specs.declared.datagram.Datagram.TheVariants.{Data}
use Rattle.srm_timers.specs.declared.arm.ArmKind.{ArmKind}
use Rattle.srm_timers.specs.declared.arm.ArmKind.TheVariants.{Ask, Fix}
use Rattle.srm_entries.specs.declared.entry.Entry.{Entry}
use Rattle.srm_entries.specs.declared.entry.Input.TheVariants.{Ticked}
use Rattle.srm_entries.specs.declared.state.AgentState.TheVariants as states
use Rattle.srm_entries.specs.Sample.{first_stream, first_drawop, third_drawop, quiet, entry, hears, ticks, gives, ask_arm}
use Rattle.srm_entries.specs.SecondScript.{asks_b, member_0, before_repair, asked_of_2, repairs, repaired_at_1, farewell}
use Rattle.srm_picture.specs.declared.bracket.TimerEnd.{TimerEnd}
use Rattle.srm_picture.specs.declared.bracket.TimerEnd.TheVariants.{RanOut, BackedOff, Cancelled}
use Rattle.srm_picture.specs.declared.bracket.BracketEnd.{BracketEnd}
use Rattle.srm_picture.specs.declared.bracket.Bracket.{Bracket}
use Rattle.srm_picture.specs.declared.action.LocalActionKind.{LocalActionKind}
use Rattle.srm_picture.specs.declared.action.LocalActionKind.TheVariants.{Drew, Other, Gone}
use Rattle.srm_picture.specs.declared.action.LocalAction.{LocalAction}
use Rattle.srm_picture.specs.Brackets.{Timer, EndIs, AreBrackets}
use Rattle.srm_picture.specs.Actions.{AreActions, Shows}
use Rattle.srm_picture.proofs.Ending.{end_is, same_end}
use Rattle.srm_picture.proofs.Determining.{actions_are}
use Rattle.srm_picture.proofs.Showing.{shown}

-- the second stored script, from the third drawop to the repair of the second: member 1 requests it in entry 7, member 2 repairs it in
-- entry 9
abbrev repaired : List Entry
repaired = before_repair ++ asked_of_2 ∷ repairs ∷ repaired_at_1 ∷ []

abbrev at_entry : ℕ → ℕ → ArmKind → Timer
at_entry index member kind = record { from = record { entry = index; member = member }; kind = kind; name = named first_stream 2 }

abbrev ends : ℕ → TimerEnd → Option BracketEnd
ends index how = Some (record { entry = index; ending = how })

abbrev bracket : ℕ → ℕ → ArmKind → Option BracketEnd → Bracket
bracket index member kind end = record { from = record { entry = index; member = member }; nth = 0; kind = kind; name = named first_stream 2; end = end }

-- the request timer expired; the repair cancelled the next one; the repair timer expired
brackets : AreBrackets repaired (bracket 1 1 Ask (ends 7 RanOut) ∷ bracket 7 1 Ask (ends 10 Cancelled) ∷ bracket 8 2 Fix (ends 9 RanOut) ∷ [])
brackets = record {
  are = refl;
  ends = (end_is repaired (at_entry 1 1 Ask), (end_is repaired (at_entry 7 1 Ask), (end_is repaired (at_entry 8 2 Fix), tt)));
}

entry_of : Option BracketEnd → ℕ
entry_of None = 0
entry_of (Some end) = end.entry

another_entry : (i j : ℕ) (how other : TimerEnd) → ends i how ≡ ends j other → i ≡ j
unfolding entry_of
another_entry i j how other same = ap entry_of same

another_way : (i j : ℕ) (how other : TimerEnd) → ends i how ≡ ends j other → Some how ≡ Some other
another_way i j how other same = ap (option_map (λ (end : BracketEnd). end.ending)) same

-- the first timer doesn't end at the repair, which is the second entry that would end it
not_at_the_second : EndIs repaired (at_entry 1 1 Ask) (ends 10 Cancelled) → ⊥
not_at_the_second h =
    let same = another_entry 10 7 Cancelled RanOut (same_end repaired (at_entry 1 1 Ask) (ends 10 Cancelled) (ends 7 RanOut) h (end_is repaired (at_entry 1 1 Ask))) in
    omega arith

-- two members miss the drawop: one asks in entry 1, and the other backs off as it hears that
abbrev backing_off : List Entry
backing_off = hears 2 31 (Data third_drawop) (ask_arm 2 0 200000 ∷ []) ∷ ticks 1 200031 (named first_stream 2 ∷ []) [] (ask_arm 2 1 400000 ∷ []) (asks_b ∷ []) ∷ hears 2 200050 asks_b (ask_arm 2 1 400000 ∷ []) ∷ []

backs_off : EndIs backing_off (at_entry 0 2 Ask) (ends 2 BackedOff)
backs_off = end_is backing_off (at_entry 0 2 Ask)

still_runs : EndIs backing_off (at_entry 2 2 Ask) None
still_runs = end_is backing_off (at_entry 2 2 Ask)

not_by_another_member : EndIs backing_off (at_entry 0 2 Ask) (ends 1 RanOut) → ⊥
not_by_another_member h =
    let same = another_entry 1 2 RanOut BackedOff (same_end backing_off (at_entry 0 2 Ask) (ends 1 RanOut) (ends 2 BackedOff) h backs_off) in
    omega arith

did_not_run_out : EndIs backing_off (at_entry 0 2 Ask) (ends 2 RanOut) → ⊥
did_not_run_out h =
    let same = another_way 2 2 RanOut BackedOff (same_end backing_off (at_entry 0 2 Ask) (ends 2 RanOut) (ends 2 BackedOff) h backs_off) in
    absurd (cc)

-- a timer that is set in the tick of the farewell ends there
abbrev parting : List Entry
parting = entry 0 21 Ticked (record (quiet states.Gone) { asks = named first_stream 2 ∷ []; arms = ask_arm 2 1 400000 ∷ []; outs = farewell ∷ [] }) ∷ []

ends_with_its_member : EndIs parting (at_entry 0 0 Ask) (ends 0 Cancelled)
ends_with_its_member = end_is parting (at_entry 0 0 Ask)

-- the source of the second stored script draws three drawops, sends them, asks to leave and is gone with its farewell
abbrev action : ℕ → ℕ → LocalActionKind → LocalAction
action index nth kind = record { at = record { entry = index; member = 0 }; nth = nth; kind = kind }

source_shows : AreActions member_0 (action 0 0 Drew ∷ action 1 0 Drew ∷ action 2 0 Drew ∷ action 4 0 Other ∷ action 5 1 Gone ∷ [])
source_shows = actions_are member_0

-- hearing, and a give of nothing, show nothing
hearing_shows_nothing : (kind : LocalActionKind) → Shows (hears 1 30 (Data first_drawop) []) kind → ⊥
hearing_shows_nothing kind s = none-some kind (shown (hears 1 30 (Data first_drawop) []) kind s)

nothing_given : (kind : LocalActionKind) → Shows (gives 1 32 None) kind → ⊥
nothing_given kind s = none-some kind (shown (gives 1 32 None) kind s)
