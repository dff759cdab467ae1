-- A node's first turn at worked examples, whole and cut: it draws a stroke and gives it.
use Rattle.std.specs.Prelude.{◌≡◌, ◌+◌, ℕ, suc, Bool, true, false, List, [], ◌∷◌, ◌++◌, map, take, Some, None, Ok, refl, if◌then◌else◌}
use Rattle.std.specs.List.{AllByRecursion}
use Rattle.std.proofs.Common.{arith, inl, inr, ap, sym, lit≤, lit<}
use Rattle.srm_names.specs.Histories.{steps}
use Rattle.srm_names.specs.Names.{first_page}
use Rattle.srm_names.specs.declared.page_msg.PageMsg.{PageMsg}
use Rattle.srm_names.specs.declared.page_msg.PageMsg.TheVariants.{Open, Draw}
use Rattle.srm_codec.specs.declared.datagram.Datagram.TheVariants.{Data}
use Rattle.srm_codec.specs.Spelling.{head, page_bytes, name_bytes, drawop_bytes, spelling}
use Rattle.srm_bucket.specs.declared.class.Class.TheVariants.{New}
use Rattle.srm_bucket.specs.Law.{BucketLaw}
use Rattle.srm_pages.specs.declared.stroke.Stroke.{Stroke}
use Rattle.srm_pages.specs.Ends.{FeedView, WellView, LaneId, is_drained}
use Rattle.srm_entries.specs.declared.entry.Entry.{Entry}
use Rattle.srm_entries.specs.declared.entry.Input.TheVariants.{Drew, Ticked, AskedLeave}
use Rattle.srm_entries.specs.declared.state.AgentState.TheVariants.{Active}
use Rattle.srm_entries.specs.Giving.{given}
use Rattle.srm_entries.specs.Bucket.{Going, idle, GoesAsCharged, bucket_calls}
use Rattle.srm_entries.specs.Runs.{EntryRight}
use Rattle.srm_entries.specs.Sample.{first_drawop, config}
use Rattle.srm_entries.proofs.Plain.{plain, idle_right, one_spelled, right, missing_none, one_goes, draws_one, missing_drawn, one_data}
use Rattle.srm_outbox.specs.declared.out.Out.{Out}
use Rattle.srm_world.specs.Traces.{Journal}
use Rattle.srm_world.specs.Claims.{IsLawfulJournal}
use Rattle.srm_world.proofs.Lawful.{lawful_journal}
use Rattle.srm_wire.specs.Wires.{bytes_to}
use Rattle.srm_node.specs.Carrying.{Carries, CarriesEach, DrawsReceived}
use Rattle.srm_node.specs.Parts.{IsAdmitted, is_to_leave, still_asked}
use Rattle.srm_node.specs.TurnSample.{Node, at_each, feed, eight, journal, calls, unturned, read_once, reads_once, heard_nothing, hears_nothing, looked, looks_once, shows_nothing, gives_as, opens_as, give_right, handed_at_1, gives_up_to}
use Rattle.srm_node.specs.Nodes.{AreNewFeeds, IsNewJournal, IsNewNode, IsMadeNow}
use Rattle.srm_node.specs.Turns.{DrawsNow, LeavesNow, TicksNow, GivesNow, DrawsCut, Turned, TurnEnds, IsCut}

-- A NEW NODE

-- eight feeds: the first one put these
abbrev pub feeds : List PageMsg → LaneId → List FeedView
feeds put lane = eight put [] lane

-- member 0 of two over a wire that tells, which did nothing yet
abbrev pub before : LaneId → WellView → Node
before lane well = unturned None lane well

pub new_feeds : (lane : LaneId) → AreNewFeeds (feeds [] lane)
new_feeds lane = record {
  slots = refl;
  each = at_each (λ slot f. (f.put ≡ []) × (f.disconnected ≡ false)) (feeds [] lane) ((refl, refl), ((refl, refl), ((refl, refl), ((refl, refl), ((refl, refl), ((refl, refl), ((refl, refl), ((refl, refl), tt))))))));
}

-- feeds aren't new if one has put something
not_new : (lane : LaneId) → AreNewFeeds (feeds (Open first_page ∷ []) lane) → ⊥
not_new lane h = let e : Open first_page ∷ [] ≡ [] = (h.each 0 (feed 0 (Open first_page ∷ []) lane) refl).0 in cc

new_node : (lane : LaneId) (well : WellView) → IsNewNode (config 0) (feeds [] lane) well 0 (Some (record { came = []; went = [] })) 1 (before lane well)
new_node lane well = record { made = 0; is = refl }

-- of a clock that told 0 at its one reading
made_now : (lane : LaneId) (well : WellView) → IsMadeNow (λ old told new. (told ≡ 0) × (new ≡ suc old)) 0 (before lane well)
made_now lane well = record { told = 0; reads = (refl, refl); counts = refl }

-- and not of one that wasn't read
not_unread : (lane : LaneId) (well : WellView) → IsMadeNow (λ old told new. (told ≡ 0) × (new ≡ suc old)) 1 (before lane well) → ⊥
not_unread lane well h = let read : 1 ≡ 2 = h.reads.1 in cc

new_journal : IsNewJournal (config 0) (journal [])
new_journal = record { made = 0; is = refl }

-- a journal that has an entry isn't new
not_a_new_journal : (e : Entry) → IsNewJournal (config 0) (journal (e ∷ [])) → ⊥
not_a_new_journal e h = let none : e ∷ [] ≡ [] = ap (λ (j : Journal). j.entries) h.is in cc

-- WHAT THE TURN WRITES

-- One stroke is in the stroke queue. It is drawn and sent at moment 1; then slot 0 is given its page and the drawop, and then there is nothing more.
abbrev pub stroke : Stroke
stroke = record { pen = 0; page = first_page; body = 97 ∷ [] }

abbrev sends : Entry
sends = plain 0 1 Ticked None (Data first_drawop ∷ []) None Active

abbrev shows : Entry
shows = gives_as Active 0 (Some (Draw first_drawop))

-- nothing is given in slot 0, and in those behind it
abbrev nothing_more : List Entry
nothing_more = gives_as Active 0 None ∷ gives_as Active 1 None ∷ gives_as Active 2 None ∷ gives_as Active 3 None ∷ gives_as Active 4 None ∷ gives_as Active 5 None ∷ gives_as Active 6 None ∷ gives_as Active 7 None ∷ []

abbrev all_gives : List Entry
all_gives = opens_as Active ∷ shows ∷ nothing_more

abbrev pub entries : List Entry
entries = draws_one ∷ sends ∷ all_gives

abbrev one_bytes : List ℕ
one_bytes = 0x53 ∷ 0x52 ∷ 1 ∷ 1 ∷ 0 ∷ 0 ∷ 0 ∷ 1 ∷ 0 ∷ 0 ∷ 0 ∷ 0 ∷ 0 ∷ 0 ∷ 0 ∷ 0 ∷ 1 ∷ 0 ∷ 0 ∷ 0 ∷ 0 ∷ 0 ∷ 0 ∷ 0 ∷ 1 ∷ 0 ∷ 1 ∷ 97 ∷ []

abbrev out : Out
out = record { datagram = Data first_drawop; bytes = one_bytes }

spelled_so : one_bytes ≡ spelling 1 (Data first_drawop)
unfolding head page_bytes name_bytes drawop_bytes spelling
spelled_so = refl

-- THE JOURNAL IS LAWFUL

abbrev sent : List Entry
sent = draws_one ∷ sends ∷ []

abbrev shown : List Entry
shown = sent ++ opens_as Active ∷ shows ∷ []

-- with nothing given in the slots below this one
abbrev served : ℕ → List Entry
served below = shown ++ take below nothing_more

each_right : AllByRecursion (EntryRight (config 0) 0) (steps entries)
each_right = (
  right (config 0) 0 [] 0 1 (Drew first_page (97 ∷ [])) (Some first_drawop) [] None Active missing_none missing_drawn (λ n. refl) (λ n. refl) refl (lit≤ tt) refl refl tt tt tt refl refl refl,
  (
    right (config 0) 0 (draws_one ∷ []) 0 1 Ticked None (Data first_drawop ∷ []) None Active missing_drawn missing_drawn (λ n. refl) (λ n. refl) refl (lit≤ tt) refl refl (refl, tt) (one_spelled, tt) tt refl refl refl,
    (
      give_right Active sent 0 (Some (Open first_page)) missing_drawn missing_drawn (λ n. refl) refl (refl, refl) refl,
      (
        give_right Active (sent ++ opens_as Active ∷ []) 0 (Some (Draw first_drawop)) missing_drawn missing_drawn (λ n. refl) refl (refl, refl, refl, refl) refl,
        (
          give_right Active (served 0) 0 None missing_drawn missing_drawn (λ n. refl) refl ((λ h. h), refl) refl,
          (
            give_right Active (served 1) 1 None missing_drawn missing_drawn (λ n. refl) refl ((λ h. h), refl) refl,
            (
              give_right Active (served 2) 2 None missing_drawn missing_drawn (λ n. refl) refl ((λ h. h), refl) refl,
              (
                give_right Active (served 3) 3 None missing_drawn missing_drawn (λ n. refl) refl ((λ h. h), refl) refl,
                (
                  give_right Active (served 4) 4 None missing_drawn missing_drawn (λ n. refl) refl ((λ h. h), refl) refl,
                  (
                    give_right Active (served 5) 5 None missing_drawn missing_drawn (λ n. refl) refl ((λ h. h), refl) refl,
                    (
                      give_right Active (served 6) 6 None missing_drawn missing_drawn (λ n. refl) refl ((λ h. h), refl) refl,
                      (
                        give_right Active (served 7) 7 None missing_drawn missing_drawn (λ n. refl) refl ((λ h. h), refl) refl,
                        tt,
                      ),
                    ),
                  ),
                ),
              ),
            ),
          ),
        ),
      ),
    ),
  ),
)

abbrev goings : List Going
goings = idle draws_one ∷ record { entry = sends; goes = one_data ∷ [] } ∷ map idle all_gives

law : BucketLaw 8000 4204 (bucket_calls 0 goings)
law = one_goes 8000 4204 1 New one_data.item (lit≤ tt, lit≤ tt, tt) (lit≤ tt, lit≤ tt, tt)

goings_right : AllByRecursion GoesAsCharged (steps goings)
goings_right = (idle_right refl, (record { same = refl; at_ticks = tt }, (idle_right refl, (idle_right refl, (idle_right refl, (idle_right refl, (idle_right refl, (idle_right refl, (idle_right refl, (idle_right refl, (idle_right refl, (idle_right refl, tt))))))))))))

pub lawful : IsLawfulJournal (journal entries)
lawful = lawful_journal (journal entries) (record {
  run = record { each = each_right; bucket = (goings, refl, goings_right, law) };
  handed = handed_at_1 entries ((refl, (lit< tt, lit< tt)), ((refl, tt), ((refl, lit< tt), ((refl, lit< tt), ((refl, lit< tt), ((refl, lit< tt), ((refl, lit< tt), ((refl, lit< tt), ((refl, lit< tt), ((refl, lit< tt), ((refl, lit< tt), ((refl, lit< tt), tt))))))))))));
})

-- A WHOLE TURN

abbrev heard : LaneId → WellView → Node
heard lane well = heard_nothing None lane well

-- after the producers said that they are done the stroke was received, and then none was there so often
abbrev popped : ℕ → WellView → WellView
popped nones well = record well { received = well.received ++ stroke ∷ []; nones = well.nones + nones; done_at = Some well.nones }

abbrev drawn : LaneId → WellView → Node
drawn lane well = record (heard lane well) { journal = journal (draws_one ∷ []); well = popped 1 well }

abbrev ticked : LaneId → WellView → Node
ticked lane well = record (drawn lane well) { journal = journal (draws_one ∷ sends ∷ []); told = Some (record { came = None ∷ []; went = bytes_to 1 one_bytes ∷ [] }); wire = 3 }

abbrev pub put : List PageMsg
put = Open first_page ∷ Draw first_drawop ∷ []

-- the node after its turn
abbrev pub after : LaneId → WellView → Node
after lane well = record (ticked lane well) { journal = journal entries; feeds = feeds put lane }

admitted : IsAdmitted 1 (journal []) stroke true
admitted = record { goings = ([], refl, tt, tt); is = refl }

draws_it : (lane : LaneId) (well : WellView) → DrawsNow 1 64 true (looked None lane well) (drawn lane well)
draws_it lane well = record {
  drew = record {
    count = 1;
    few = omega arith;
    draws = record {
      all = stroke ∷ [];
      pops = record { popped = stroke ∷ []; received = refl; all_is = refl };
      draws = record { strokes = stroke ∷ []; entries = draws_one ∷ []; counted = refl; grown = refl; each = (record { moment = refl; input = refl; admitted = admitted }, tt); all_is = refl };
    };
    ends = omega arith;
  };
  same = refl;
}

-- nobody asked to leave
stays : (lane : LaneId) (well : WellView) → LeavesNow 1 true (drawn lane well) (drawn lane well)
stays lane well = record { leaves = record { entries = []; grown = refl; moments = tt; inputs = stays_so (is_drained (drawn lane well).well) }; same = ap (λ a. record (drawn lane well) { asked = a }) (sym (asked_still (is_drained (drawn lane well).well))) }
  where
    stays_so : (drained : Bool) → [] ≡ (if is_to_leave true drained None 1 then AskedLeave ∷ [] else [])
    stays_so true = refl
    stays_so false = refl

    asked_still : (drained : Bool) → still_asked (is_to_leave true drained None 1) None ≡ None
    asked_still true = refl
    asked_still false = refl

ticks_once : (lane : LaneId) (well : WellView) → TicksNow calls.sends 1 false (drawn lane well) (ticked lane well)
ticks_once lane well = record {
  outs = out ∷ [];
  ticks = record { entry = sends; grown = refl; moment = refl; is_tick = record { input = refl; sends = record { same = refl; spelled = (record { spelled = record { spellable = one_spelled; text = spelled_so } }, tt) } } };
  sends = record { failures = (omega arith, tt); went = bytes_to 1 one_bytes ∷ []; some = inl (refl, tt); whole = refl; tells = record { told = refl } };
  tried = (3, false, false, refl, (refl, refl), (refl, refl));
  same = refl;
}

pub carries : (lane : LaneId) → CarriesEach (journal entries) (feeds put lane)
carries lane = at_each (λ slot f. Carries (given entries slot) f) (feeds put lane) (refl, (refl, (refl, (refl, (refl, (refl, (refl, (refl, tt))))))))

pub gives_all : (lane : LaneId) (well : WellView) → GivesNow 8 (ticked lane well) (after lane well)
gives_all lane well = record {
  gives = gives_up_to put [] (draws_one ∷ sends ∷ []) all_gives lane (refl, (refl, (refl, (refl, (refl, (refl, (refl, (refl, (refl, (refl, tt)))))))))) lawful (carries lane) (refl, (refl, (refl, (refl, (refl, (refl, (refl, (refl, tt))))))));
  same = refl;
}

pub whole : (lane : LaneId) (well : WellView) → Turned calls false false (before lane well) (after lane well)
whole lane well = record {
  ticked = ticked lane well;
  to_tick = record {
    now = 1;
    shown = drawn lane well;
    to_showing = record {
      left = drawn lane well;
      to_leaving = record {
        none_left = true;
        came = 0;
        most = 64;
        read = read_once None lane well;
        heard = heard lane well;
        looked = looked None lane well;
        drawn = drawn lane well;
        reads = reads_once None lane well;
        hears = hears_nothing None lane well;
        looks = looks_once None lane well;
        room = refl;
        draws = draws_it lane well;
        leaves = stays lane well;
      };
      shows = shows_nothing (drawn lane well) refl;
    };
    ticks = ticks_once lane well;
  };
  gives = gives_all lane well;
}

-- what such a turn answers is no fault
ends_well : (lane : LaneId) (well : WellView) → TurnEnds calls (Ok tt) (before lane well) (after lane well) ≡ Turned calls false false (before lane well) (after lane well)
ends_well lane well = refl

-- WHAT THE STROKE QUEUE GAVE

received_one : DrawsReceived (journal entries) (stroke ∷ []) None
received_one = refl

-- a stroke that was neither drawn nor kept
not_dropped : DrawsReceived (journal entries) (stroke ∷ stroke ∷ []) None → ⊥
not_dropped h = cc

-- the second one is in hand
keeps_it : DrawsReceived (journal entries) (stroke ∷ stroke ∷ []) (Some stroke)
keeps_it = refl

-- A TURN THAT IS CUT

-- Memory ran out for the stroke, which is in hand then.
abbrev cut : LaneId → WellView → Node
cut lane well = record (heard lane well) { well = popped 0 well; hand = Some stroke }

draws_none : (lane : LaneId) (well : WellView) → DrawsCut 1 64 (looked None lane well) (cut lane well)
draws_none lane well = record {
  drew = record {
    count = 0;
    few = omega arith;
    draws = record {
      all = stroke ∷ [];
      pops = record { popped = stroke ∷ []; received = refl; all_is = refl };
      draws = record { strokes = []; entries = []; counted = refl; grown = refl; each = tt; all_is = refl };
    };
    in_hand = refl;
  };
  same = refl;
}

cut_drawing : (lane : LaneId) (well : WellView) → IsCut calls (before lane well) (cut lane well)
cut_drawing lane well = inr (inl (record { now = 1; unheard = false; came = 0; most = 64; read = read_once None lane well; heard = heard lane well; looked = looked None lane well; reads = reads_once None lane well; hears = hears_nothing None lane well; looks = looks_once None lane well; room = refl; draws = draws_none lane well }))

-- where the stroke isn't in hand the turn isn't cut so
not_lost : (lane : LaneId) (well : WellView) → DrawsCut 1 64 (looked None lane well) (record (cut lane well) { hand = None }) → ⊥
not_lost lane well h = let some : false ≡ true = h.drew.in_hand in cc
