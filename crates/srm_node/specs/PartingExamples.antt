-- A node's turn where its member leaves and each lane gets its close, and the run that ends by it, at worked examples.
use Rattle.std.specs.Prelude.{◌≡◌, ℕ, ◌==◌, true, false, List, [], ◌∷◌, ◌++◌, map, take, Option, Some, None, Ok, Err, refl}
use Rattle.std.specs.List.{AllByRecursion}
use Rattle.std.proofs.Common.{arith, inl, sym, ◌∙◌, ap, lit≤, lit<}
use Rattle.std.proofs.lemmas.List.{append-nil}
use Rattle.srm_names.specs.FullName.{FullName}
use Rattle.srm_names.specs.Histories.{steps}
use Rattle.srm_names.specs.Names.{first_page}
use Rattle.srm_names.specs.declared.stream.Stream.{Stream}
use Rattle.srm_names.specs.declared.page_msg.PageMsg.{PageMsg}
use Rattle.srm_names.specs.declared.page_msg.PageMsg.TheVariants.{Open, Close}
use Rattle.srm_codec.specs.declared.datagram.Datagram.{Datagram}
use Rattle.srm_codec.specs.declared.datagram.Datagram.TheVariants.{Session}
use Rattle.srm_codec.specs.Spelling.{IsSpellable, head, page_bytes, name_bytes, echo_bytes, spelling}
use Rattle.srm_bucket.specs.Law.{BucketLaw}
use Rattle.srm_pages.specs.Ends.{FeedView, WellView, LaneId, is_drained}
use Rattle.srm_entries.specs.declared.entry.Entry.{Entry}
use Rattle.srm_entries.specs.declared.entry.Input.TheVariants.{AskedLeave, Ticked, Gave}
use Rattle.srm_entries.specs.declared.state.AgentState.TheVariants.{Leaving, Gone}
use Rattle.srm_entries.specs.Entries.{state, known}
use Rattle.srm_entries.specs.Timers.{fix_running}
use Rattle.srm_entries.specs.Giving.{given, MessageRight}
use Rattle.srm_entries.specs.Bucket.{GoesAsCharged, bucket_calls, idle}
use Rattle.srm_entries.specs.Runs.{EntryRight, MomentRight, expected_state}
use Rattle.srm_entries.specs.Sessions.{SessionMessageRight}
use Rattle.srm_entries.specs.Sample.{config}
use Rattle.srm_entries.proofs.Plain.{plain, idle_right, right, missing_none, unknown_unmissed, neither}
use Rattle.srm_outbox.specs.declared.out.Out.{Out}
use Rattle.srm_world.specs.Claims.{IsLawfulJournal}
use Rattle.srm_world.proofs.Lawful.{lawful_journal}
use Rattle.srm_wire.specs.Wires.{bytes_to}
use Rattle.srm_node.specs.declared.fault.NodeFault.TheVariants.{Turns}
use Rattle.srm_node.specs.Carrying.{Carries, CarriesEach}
use Rattle.srm_node.specs.Nodes.{has_ended}
use Rattle.srm_node.specs.Turns.{DrawsNow, LeavesNow, TicksNow, GivesNow, Turned, RunEnds}
use Rattle.srm_node.specs.TurnSample.{Node, at_each, eight, journal, calls, unturned, unpaused, waits_once, read_once, reads_once, heard_nothing, hears_nothing, looked, looks_once, shows_nothing, gives_as, opens_as, give_right, handed_at_1, gives_up_to}

-- WHAT THE TURN WRITES

-- Nothing was drawn or heard, and the member asks to leave at moment 1. The tick sends its farewell; page slot 0 is given its page and its close, and the others
-- their close, and then there is nothing more.
abbrev asks : Entry
asks = plain 0 1 AskedLeave None [] None Leaving

abbrev farewell : Datagram
farewell = Session 0 1 true first_page [] []

abbrev parts : Entry
parts = plain 0 1 Ticked None (farewell ∷ []) None Gone

abbrev closes : ℕ → Entry
closes slot = gives_as Gone slot (Some Close)

abbrev nothing : ℕ → Entry
nothing slot = gives_as Gone slot None

abbrev all_gives : List Entry
all_gives = opens_as Gone ∷ closes 0 ∷ nothing 0 ∷ closes 1 ∷ nothing 1 ∷ closes 2 ∷ nothing 2 ∷ closes 3 ∷ nothing 3 ∷ closes 4 ∷ nothing 4 ∷ closes 5 ∷ nothing 5 ∷ closes 6 ∷ nothing 6 ∷ closes 7 ∷ nothing 7 ∷ []

abbrev pub entries : List Entry
entries = asks ∷ parts ∷ all_gives

-- the first entries
abbrev first : ℕ → List Entry
first count = take count entries

abbrev farewell_bytes : List ℕ
farewell_bytes = 0x53 ∷ 0x52 ∷ 1 ∷ 4 ∷ 0 ∷ 0 ∷ 0 ∷ 1 ∷ 0 ∷ 0 ∷ 0 ∷ 0 ∷ 0 ∷ 0 ∷ 0 ∷ 0 ∷ 1 ∷ 1 ∷ 0 ∷ 0 ∷ 0 ∷ 0 ∷ 0 ∷ []

abbrev out : Out
out = record { datagram = farewell; bytes = farewell_bytes }

farewell_spelled : IsSpellable farewell
farewell_spelled = (lit< tt, lit≤ tt, (lit< tt, lit< tt), record { few = lit≤ tt; names = tt; rising = refl; sources = tt }, record { few = lit≤ tt; each = tt; rising = refl })

spelled_so : farewell_bytes ≡ spelling 1 farewell
unfolding head page_bytes name_bytes echo_bytes spelling
spelled_so = refl

-- THE JOURNAL IS LAWFUL

message_right : SessionMessageRight (config 0) (asks ∷ []) 1 true []
message_right = record { in_order = refl; exact = λ (s : Stream). neither (s.source == 0) }

-- a give that the entries before it allow, where nothing is known
unknown_right : (past : List Entry) (slot : ℕ) (message : Option PageMsg) → ((n : FullName) → known past n.stream ≡ 0) → ((n : FullName) → known (past ++ gives_as Gone slot message ∷ []) n.stream ≡ 0)
    → ((n : FullName) → fix_running past n ≡ None) → MomentRight (config 0) 0 past (gives_as Gone slot message) → MessageRight (config 0) past (Gave slot) message → Gone ≡ expected_state (state past) false (Some (Gave slot))
    → EntryRight (config 0) 0 (record { before = past; this = gives_as Gone slot message })
unknown_right past slot message here next fix moment given after =
    give_right Gone past slot message (λ n. unknown_unmissed past n (here n)) (λ n. unknown_unmissed (past ++ gives_as Gone slot message ∷ []) n (next n)) fix moment given after

each_right : AllByRecursion (EntryRight (config 0) 0) (steps entries)
each_right = (
  right (config 0) 0 [] 0 1 AskedLeave None [] None Leaving missing_none (λ n. unknown_unmissed (first 1) n refl) (λ n. refl) (λ n. refl) refl (lit≤ tt) refl refl tt tt tt refl refl refl,
  (
    right (config 0) 0 (first 1) 0 1 Ticked None (farewell ∷ []) None Gone (λ n. unknown_unmissed (first 1) n refl) (λ n. unknown_unmissed (first 2) n refl) (λ n. refl) (λ n. refl) refl (lit≤ tt) refl refl (refl, tt) (farewell_spelled, tt) tt (farewell, refl, (refl, refl, refl, refl, refl, message_right)) refl refl,
    (
      unknown_right (first 2) 0 (Some (Open first_page)) (λ n. refl) (λ n. refl) (λ n. refl) refl (refl, refl) refl,
      (
        unknown_right (first 3) 0 (Some Close) (λ n. refl) (λ n. refl) (λ n. refl) refl (refl, refl, refl) refl,
        (
          unknown_right (first 4) 0 None (λ n. refl) (λ n. refl) (λ n. refl) refl ((λ h. refl), refl) refl,
          (
            unknown_right (first 5) 1 (Some Close) (λ n. refl) (λ n. refl) (λ n. refl) refl (refl, refl, refl) refl,
            (
              unknown_right (first 6) 1 None (λ n. refl) (λ n. refl) (λ n. refl) refl ((λ h. refl), refl) refl,
              (
                unknown_right (first 7) 2 (Some Close) (λ n. refl) (λ n. refl) (λ n. refl) refl (refl, refl, refl) refl,
                (
                  unknown_right (first 8) 2 None (λ n. refl) (λ n. refl) (λ n. refl) refl ((λ h. refl), refl) refl,
                  (
                    unknown_right (first 9) 3 (Some Close) (λ n. refl) (λ n. refl) (λ n. refl) refl (refl, refl, refl) refl,
                    (
                      unknown_right (first 10) 3 None (λ n. refl) (λ n. refl) (λ n. refl) refl ((λ h. refl), refl) refl,
                      (
                        unknown_right (first 11) 4 (Some Close) (λ n. refl) (λ n. refl) (λ n. refl) refl (refl, refl, refl) refl,
                        (
                          unknown_right (first 12) 4 None (λ n. refl) (λ n. refl) (λ n. refl) refl ((λ h. refl), refl) refl,
                          (
                            unknown_right (first 13) 5 (Some Close) (λ n. refl) (λ n. refl) (λ n. refl) refl (refl, refl, refl) refl,
                            (
                              unknown_right (first 14) 5 None (λ n. refl) (λ n. refl) (λ n. refl) refl ((λ h. refl), refl) refl,
                              (
                                unknown_right (first 15) 6 (Some Close) (λ n. refl) (λ n. refl) (λ n. refl) refl (refl, refl, refl) refl,
                                (
                                  unknown_right (first 16) 6 None (λ n. refl) (λ n. refl) (λ n. refl) refl ((λ h. refl), refl) refl,
                                  (
                                    unknown_right (first 17) 7 (Some Close) (λ n. refl) (λ n. refl) (λ n. refl) refl (refl, refl, refl) refl,
                                    (
                                      unknown_right (first 18) 7 None (λ n. refl) (λ n. refl) (λ n. refl) refl ((λ h. refl), refl) refl,
                                      tt,
                                    ),
                                  ),
                                ),
                              ),
                            ),
                          ),
                        ),
                      ),
                    ),
                  ),
                ),
              ),
            ),
          ),
        ),
      ),
    ),
  ),
)

law : BucketLaw 8000 4204 (bucket_calls 0 (map idle entries))
law = (record { in_order = λ class. ([], refl); highest_first = tt; not_too_much = (lit≤ tt, lit≤ tt, tt); all_that_may = tt }, tt)

goings_right : AllByRecursion GoesAsCharged (steps (map idle entries))
goings_right = (idle_right refl, (idle_right refl, (idle_right refl, (idle_right refl, (idle_right refl, (idle_right refl, (idle_right refl, (idle_right refl, (idle_right refl, (idle_right refl, (idle_right refl, (idle_right refl, (idle_right refl, (idle_right refl, (idle_right refl, (idle_right refl, (idle_right refl, (idle_right refl, (idle_right refl, tt)))))))))))))))))))

pub lawful : IsLawfulJournal (journal entries)
lawful = lawful_journal (journal entries) (record {
  run = record { each = each_right; bucket = (map idle entries, refl, goings_right, law) };
  handed = handed_at_1 entries ((refl, tt), ((refl, tt), ((refl, lit< tt), ((refl, lit< tt), ((refl, lit< tt), ((refl, lit< tt), ((refl, lit< tt), ((refl, lit< tt), ((refl, lit< tt), ((refl, lit< tt), ((refl, lit< tt), ((refl, lit< tt), ((refl, lit< tt), ((refl, lit< tt), ((refl, lit< tt), ((refl, lit< tt), ((refl, lit< tt), ((refl, lit< tt), ((refl, lit< tt), tt)))))))))))))))))));
})

-- THE TURN

-- the node was asked to leave at once
abbrev pub asked_before : LaneId → WellView → Node
asked_before lane well = unturned (Some 0) lane (record well { nones = 0 })

abbrev heard : LaneId → WellView → Node
heard lane well = heard_nothing (Some 0) lane (record well { nones = 0 })

-- the producers said that they are done
abbrev seen : LaneId → WellView → Node
seen lane well = looked (Some 0) lane (record well { nones = 0 })

-- and then the stroke queue was found to have no stroke
abbrev drawn : LaneId → WellView → Node
drawn lane well = record (seen lane well) { well = record well { nones = 1; done_at = Some 0 } }

abbrev left : LaneId → WellView → Node
left lane well = record (drawn lane well) { journal = journal (first 1); asked = None }

abbrev ticked : LaneId → WellView → Node
ticked lane well = record (left lane well) { journal = journal (first 2); told = Some (record { came = None ∷ []; went = bytes_to 1 farewell_bytes ∷ [] }); wire = 3 }

abbrev pub put : List PageMsg
put = Open first_page ∷ Close ∷ []

-- the first feed put its page and its close, and the others their close
abbrev closed : LaneId → List FeedView
closed lane = eight put (Close ∷ []) lane

-- the node after its turn
abbrev pub ended : LaneId → WellView → Node
ended lane well = record (ticked lane well) { journal = journal entries; feeds = closed lane }

-- no stroke is there
draws_none : (lane : LaneId) (well : WellView) → DrawsNow 1 64 true (seen lane well) (drawn lane well)
draws_none lane well = record {
  drew = record {
    count = 0;
    few = omega arith;
    draws = record {
      all = [];
      pops = record { popped = []; received = ap (λ ss. record well { received = ss; nones = 1; done_at = Some 0 }) (sym (append-nil well.received)); all_is = refl };
      draws = record { strokes = []; entries = []; counted = refl; grown = refl; each = tt; all_is = refl };
    };
    ends = omega arith;
  };
  same = refl;
}

-- A look that came behind the last time that none was found says nothing of what a producer sent in between.
not_by_a_later_look : (well : WellView) → is_drained (record well { nones = 1; done_at = Some 1 }) ≡ false
not_by_a_later_look well = refl

leaves : (lane : LaneId) (well : WellView) → LeavesNow 1 true (drawn lane well) (left lane well)
leaves lane well = record { leaves = record { entries = asks ∷ []; grown = refl; moments = (refl, tt); inputs = refl }; same = refl }

ticks_once : (lane : LaneId) (well : WellView) → TicksNow calls.sends 1 false (left lane well) (ticked lane well)
ticks_once lane well = record {
  outs = out ∷ [];
  ticks = record { entry = parts; grown = refl; moment = refl; is_tick = record { input = refl; sends = record { same = refl; spelled = (record { spelled = record { spellable = farewell_spelled; text = spelled_so } }, tt) } } };
  sends = record { failures = (omega arith, tt); went = bytes_to 1 farewell_bytes ∷ []; some = inl (refl, tt); whole = refl; tells = record { told = refl } };
  tried = (3, false, false, refl, (refl, refl), (refl, refl));
  same = refl;
}

pub carries : (lane : LaneId) → CarriesEach (journal entries) (closed lane)
carries lane = at_each (λ slot f. Carries (given entries slot) f) (closed lane) (refl, (refl, (refl, (refl, (refl, (refl, (refl, (refl, tt))))))))

pub gives_all : (lane : LaneId) (well : WellView) → GivesNow 8 (ticked lane well) (ended lane well)
gives_all lane well = record {
  gives = gives_up_to put (Close ∷ []) (first 2) all_gives lane (refl, (refl, (refl, (refl, (refl, (refl, (refl, (refl, (refl, (refl, (refl, (refl, (refl, (refl, (refl, (refl, (refl, tt))))))))))))))))) lawful (carries lane) (refl, (refl, (refl, (refl, (refl, (refl, (refl, (refl, tt))))))));
  same = refl;
}

pub turned : (lane : LaneId) (well : WellView) → Turned calls false false (asked_before lane well) (ended lane well)
turned lane well = record {
  ticked = ticked lane well;
  to_tick = record {
    now = 1;
    shown = left lane well;
    to_showing = record {
      left = left lane well;
      to_leaving = record {
        none_left = true;
        came = 0;
        most = 64;
        read = read_once (Some 0) lane (record well { nones = 0 });
        heard = heard lane well;
        looked = seen lane well;
        drawn = drawn lane well;
        reads = reads_once (Some 0) lane (record well { nones = 0 });
        hears = hears_nothing (Some 0) lane (record well { nones = 0 });
        looks = looks_once (Some 0) lane (record well { nones = 0 });
        room = refl;
        draws = draws_none lane well;
        leaves = leaves lane well;
      };
      shows = shows_nothing (left lane well) refl;
    };
    ticks = ticks_once lane well;
  };
  gives = gives_all lane well;
}

-- THE RUN

-- before the pause
abbrev pub first_of_all : LaneId → WellView → Node
first_of_all lane well = unpaused (Some 0) lane (record well { nones = 0 })

has_ended_so : (lane : LaneId) (well : WellView) → has_ended (ended lane well) ≡ true
has_ended_so lane well = refl

-- behind a pause it did this turn, and then it has ended, though five were asked for
pub runs_to_end : (lane : LaneId) (well : WellView) → RunEnds calls (Ok tt) 5 (first_of_all lane well) (ended lane well)
runs_to_end lane well = record {
  count = 1;
  few = omega arith;
  runs = record { turns = (first_of_all lane well, asked_before lane well, refl, refl, waits_once (Some 0) lane (record well { nones = 0 }), turned lane well) };
  ended = refl;
}

-- a node that has ended does no turn more
no_turn_more : (lane : LaneId) (well : WellView) (n : Node) → RunEnds calls (Err Turns) 1 (ended lane well) n → ⊥
no_turn_more lane well n h = let (node, waited, same, goes_on, waits, turn) = h.runs.turns in let open_yet : true ≡ false = sym (ap has_ended same) ∙ goes_on in cc
