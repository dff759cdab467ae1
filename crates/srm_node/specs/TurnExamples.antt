-- The drawing, the leaving and the waits of a turn, at worked examples.
use Rattle.std.specs.Prelude.{◌≡◌, ◌+◌, ◌<◌, ◌≤◌, ℕ, true, false, List, [], ◌∷◌, ◌++◌, map, Some, None, replicate, refl}
use Rattle.std.proofs.Common.{arith, ap, inl, inr, subst, sym}
use Rattle.srm_names.specs.Names.{first_page}
use Rattle.srm_codec.specs.declared.datagram.Datagram.TheVariants.{Data}
use Rattle.srm_timers.specs.ListedWords.{next_listed}
use Rattle.srm_pages.specs.declared.stroke.Stroke.{Stroke}
use Rattle.srm_pages.specs.Ends.{WellView}
use Rattle.srm_entries.specs.declared.entry.Entry.{Entry}
use Rattle.srm_entries.specs.declared.entry.Input.TheVariants.{AskedLeave}
use Rattle.srm_entries.specs.declared.state.AgentState.TheVariants as states
use Rattle.srm_entries.specs.Sample.{in_roster, drawop_of, draws, hears, ask_arm, entry, quiet}
use Rattle.srm_agent.specs.Noting.{moment_that_counts}
use Rattle.srm_world.specs.Traces.{Journal}
use Rattle.srm_world.specs.Recording.{IsAt}
use Rattle.srm_world.specs.WaitWords.{RecorderView, AreByWords}
use Rattle.srm_node.specs.Parts.{strokes_after, IsAdmitted, DrawsStrokes, DrewStrokes, DrawingEnds, is_to_leave, Leaves}
use Rattle.srm_node.specs.Waits.{ChosenByWords, WaitsByWords}
use Rattle.srm_node.specs.Moments.{IsMadeAt, GrowsAt}
use Rattle.srm_node.specs.Nodes.{moment_of}

-- a member with a bucket of 1,051 bytes, which is one full datagram
abbrev journal : List Entry → Journal
journal es = record { start = record { config = in_roster 0 2 1051; made = 3 }; entries = es }

-- the clock tells 5, and then 2, which counts as 5
abbrev first_drawn : Entry
first_drawn = draws 0 5 (drawop_of 1 1 (replicate 1024 7))

abbrev asked : Entry
asked = entry 0 5 AskedLeave (quiet states.Leaving)

at_the_clock : IsAt 5 (journal []) first_drawn
at_the_clock = refl

not_earlier : IsAt 2 (journal (first_drawn ∷ [])) asked
not_earlier = refl

-- a full stroke, and one of 1 byte
abbrev full : Stroke
full = record { pen = 0; page = first_page; body = replicate 1024 7 }

abbrev short : Stroke
short = record { pen = 0; page = first_page; body = 7 ∷ [] }

-- nothing waits, and so the first is admitted
first_admitted : IsAdmitted 5 (journal []) full true
first_admitted = record { goings = ([], refl, tt, tt); is = refl }

-- a turn that takes both out of the stroke queue has drawn the first, and the second is in hand
abbrev after : WellView → WellView
after w = record w { received = w.received ++ full ∷ short ∷ []; nones = w.nones + 0 }

draws_one : (w : WellView) → DrawsStrokes 5 1 false (journal []) (journal (first_drawn ∷ [])) w (after w) None (Some short)
draws_one w = record {
  all = full ∷ short ∷ [];
  pops = record { popped = full ∷ short ∷ []; received = refl; all_is = refl };
  draws = record { strokes = full ∷ []; entries = first_drawn ∷ []; counted = refl; grown = refl; each = (record { moment = refl; input = refl; admitted = first_admitted }, tt); all_is = refl };
}

-- behind nothing heard a turn draws at most 64; what was heard leaves so many fewer, but never fewer than 8, a flood of noise included
rooms : map strokes_after (0 ∷ 1 ∷ 10 ∷ 55 ∷ 56 ∷ 57 ∷ 64 ∷ []) ≡ 64 ∷ 63 ∷ 54 ∷ 9 ∷ 8 ∷ 8 ∷ 8 ∷ []
rooms = refl

-- with one in hand it ends only where that isn't admitted
not_while_admitted : DrawingEnds 5 64 0 false (journal []) (Some full) ≡ ((false ≡ false) × IsAdmitted 5 (journal []) full false)
not_while_admitted = refl

-- after as many as it might draw it isn't known whether more are left
not_known_after_64 : DrawingEnds 5 64 64 true (journal []) None ≡ (64 < 64)
not_known_after_64 = refl

known_after_63 : DrawingEnds 5 64 63 true (journal []) None
known_after_63 = omega arith

known_after_7 : DrawingEnds 5 8 7 true (journal []) None
known_after_7 = omega arith

-- a turn that may draw 8 doesn't draw 9
not_nine : (old new : Journal) (w : WellView) (h : DrewStrokes 5 (strokes_after 64) false old new w w None None) → h.count ≡ 9 → ⊥
not_nine old new w h nine = let most : h.count ≤ 8 = h.few in omega arith

-- a member leaves where none is left
leaves_then : Leaves 2 true (journal (first_drawn ∷ [])) (journal (first_drawn ∷ asked ∷ []))
leaves_then = record { entries = asked ∷ []; grown = refl; moments = (refl, tt); inputs = refl }

-- one that leaves has an entry of it
leaves_with_its_entry : Leaves 2 true (journal []) (journal []) → ⊥
leaves_with_its_entry h = without h.entries h.grown h.inputs
  where
    without : (es : List Entry) → journal [] ≡ journal es → map (λ (e : Entry). e.input) es ≡ AskedLeave ∷ [] → ⊥
    without [] same h = cc
    without (e ∷ es) same h = let none : [] ≡ e ∷ es = ap (λ (j : Journal). j.entries) same in cc

-- at its moment, with its producers done and no stroke left; not a microsecond earlier, and not unless it was asked to
to_leave : is_to_leave true true (Some 5) 5 ∷ is_to_leave true true (Some 5) 4 ∷ is_to_leave true false (Some 5) 5 ∷ is_to_leave false true (Some 5) 5 ∷ is_to_leave true true None 5 ∷ [] ≡ true ∷ false ∷ false ∷ false ∷ false ∷ []
to_leave = refl

-- Behind a draw, which sets no timer, number 2 is heard and number 1 is missing: its wait is by the next random number, and the other stays.
abbrev one_missing : (wait : ℕ) → Entry
one_missing wait = hears 0 7 (Data (drawop_of 1 2 (7 ∷ []))) (ask_arm 1 0 wait ∷ [])

abbrev before_it : RecorderView (List ℕ)
before_it = record { journal = journal []; words = 5 ∷ 9 ∷ []; begins = None }

abbrev behind_it : (wait : ℕ) → List ℕ → RecorderView (List ℕ)
behind_it wait words = record { journal = journal (first_drawn ∷ one_missing wait ∷ []); words = words; begins = None }

waits_by_one_word : WaitsByWords next_listed before_it (behind_it 200005 (9 ∷ []))
waits_by_one_word = record { start = refl; words = record { added = first_drawn ∷ one_missing 200005 ∷ []; grown = refl; words = (refl, refl); begins = refl } }

-- so that number chose the wait of a journal that ends so, and it is no other wait
chosen_by_one_word : ChosenByWords next_listed (journal []) (5 ∷ 9 ∷ []) (journal (first_drawn ∷ one_missing 200005 ∷ []))
chosen_by_one_word = record { added = first_drawn ∷ one_missing 200005 ∷ []; grown = refl; to = 9 ∷ []; chosen = (refl, refl) }

not_one_more : (n : ℕ) → n + 1 ≡ n → ⊥
not_one_more n same = absurd (omega (arith, same))

not_chosen : ChosenByWords next_listed (journal []) (5 ∷ 9 ∷ []) (journal (first_drawn ∷ one_missing 200006 ∷ [])) → ⊥
not_chosen h =
    let waits : AreByWords next_listed (in_roster 0 2 1051) (5 ∷ 9 ∷ []) (first_drawn ∷ one_missing 200006 ∷ []) h.to = subst (λ es. AreByWords next_listed (in_roster 0 2 1051) (5 ∷ 9 ∷ []) es h.to) (sym h.grown) h.chosen in
    not_one_more 200005 waits.0

-- THE CLOCK

-- at 5 the draw was made
made_at_5 : GrowsAt 5 (journal []) (journal (first_drawn ∷ []))
made_at_5 = record { entries = first_drawn ∷ []; grown = refl; made = (inr refl, tt) }

-- at 2 what comes behind the draw, where 2 counts as 5
made_at_2 : GrowsAt 2 (journal (first_drawn ∷ [])) (journal (first_drawn ∷ asked ∷ []))
made_at_2 = record { entries = asked ∷ []; grown = refl; made = (inr refl, tt) }

-- and not the draw
not_made_at_2 : IsMadeAt 2 (journal []) first_drawn → ⊥
not_made_at_2 (inl is) = cc
not_made_at_2 (inr at) = let same : 5 ≡ moment_that_counts (Some 2) 3 = at in cc

-- what a clock tells past 2^48 counts as 2^48
a_late_reading : moment_of 281474976710657 ≡ 281474976710656
a_late_reading = refl
