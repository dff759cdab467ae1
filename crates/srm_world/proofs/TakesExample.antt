-- An honest run: one member draws, sends and leaves, the other hears it all, gives it and has it taken. So the premises of the law of
-- takes can be met, and those of 'the whole' too.
use Rattle.std.proofs.Common.{◌≡◌, ◌==◌, Bool, true, false, List, [], ◌∷◌, ◌++◌, map, refl, ap, sym, lit<, lit≤}
use Rattle.std.specs.Prelude.{Option, Some, None, IfSome, if◌then◌else◌, option_map}
use Rattle.std.specs.List.{AllByRecursion}
use Rattle.srm_names.specs.declared.stream.Stream.{Stream}
use Rattle.srm_names.specs.declared.page_msg.PageMsg.{PageMsg}
use Rattle.srm_names.specs.declared.page_msg.PageMsg.TheVariants.{Open, Draw, Left}
use Rattle.srm_names.specs.FullName.{FullName}
use Rattle.srm_names.specs.Histories.{steps, greatest}
use Rattle.srm_names.specs.Names.{first_page, named, same_stream}
use Rattle.srm_names.proofs.Same.{same_stream-is}
use Rattle.srm_codec.specs.declared.datagram.Datagram.{Datagram}
use Rattle.srm_codec.specs.declared.datagram.Datagram.TheVariants.{Data, Session}
use Rattle.srm_codec.specs.Spelling.{IsSpellable}
use Rattle.srm_bucket.specs.declared.class.Class.TheVariants.{New}
use Rattle.srm_bucket.specs.Calls.{Popped}
use Rattle.srm_bucket.specs.Law.{BucketLaw, GoesRight as CallRight}
use Rattle.srm_store.specs.Finals.{number_in_rows}
use Rattle.srm_entries.specs.declared.entry.Entry.{Entry}
use Rattle.srm_entries.specs.declared.state.AgentState.TheVariants.{Active, Leaving, Gone}
use Rattle.srm_entries.specs.declared.entry.Input.{Input}
use Rattle.srm_entries.specs.declared.entry.Input.TheVariants.{Drew, Heard, Ticked, AskedLeave, Gave, Took}
use Rattle.srm_entries.specs.Entries.{heard_in, is_missing, state}
use Rattle.srm_entries.specs.Timers.{asker, fix_running}
use Rattle.srm_entries.specs.Verdicts.{VerdictRight}
use Rattle.srm_entries.specs.Sessions.{SessionRight, SessionMessageRight, expected_row, if_positive}
use Rattle.srm_entries.specs.Bucket.{Going, idle, GoesAsCharged, bucket_calls}
use Rattle.srm_entries.specs.Giving.{MessageRight}
use Rattle.srm_entries.specs.Runs.{EntryRight, IsMemberRun, MomentRight, expected_drawop, expected_state}
use Rattle.srm_entries.specs.declared.entry.Verdict.TheVariants.{Done}
use Rattle.srm_world.specs.Traces.{Trace, taken_by, IsRun, IsHonest}
use Rattle.srm_entries.specs.Sample.{first_stream, first_drawop, config}
use Rattle.srm_entries.proofs.Plain.{plain, idle_right, one_spelled, row_spelled, neither, right, one_held, none_missing_in, missing_none, one_of, went_one, all_gone, one_goes, draws_one, missing_drawn, one_data, twice_known}

abbrev sends : Entry
sends = plain 0 4 Ticked None (Data first_drawop ∷ []) None Active

abbrev asks_leave : Entry
asks_leave = plain 0 20 AskedLeave None [] None Leaving

abbrev farewell : Datagram
farewell = Session 0 21 true first_page (named first_stream 1 ∷ []) []

farewell_spelled : IsSpellable farewell
farewell_spelled = (lit< tt, lit≤ tt, (lit< tt, lit< tt), record { few = lit≤ tt; names = (row_spelled, tt); rising = refl; sources = ((λ e. refl), tt) }, record { few = lit≤ tt; each = tt; rising = refl })

abbrev parts : Entry
parts = plain 0 21 Ticked None (farewell ∷ []) None Gone

abbrev hears : Entry
hears = plain 1 30 (Heard (Data first_drawop)) None [] None Active

abbrev hears_parting : Entry
hears_parting = plain 1 31 (Heard farewell) None [] None Active

abbrev gives : PageMsg → Entry
gives m = plain 1 31 (Gave 0) None [] (Some m) Active

abbrev takes : PageMsg → Entry
takes m = plain 1 31 (Took 0) None [] (Some m) Active

abbrev opens : PageMsg
opens = Open first_page

missing_told : (n : FullName) → is_missing (hears ∷ hears_parting ∷ []) n ≡ false
missing_told n = none_missing_in (hears ∷ hears_parting ∷ []) one_held twice_known n

-- the member that draws and leaves

row_right : (s : Stream) → number_in_rows (named first_stream 1 ∷ []) s ≡ expected_row (config 0) (draws_one ∷ sends ∷ asks_leave ∷ []) true s
row_right s = which (same_stream s first_stream) refl
  where
    which : (b : Bool) → same_stream s first_stream ≡ b
        → option_map (λ (n : FullName). n.number) (if b then Some (named first_stream 1) else None) ≡ (if s.source == 0 then if_positive (greatest (one_of b ++ [])) else None)
    which true e = ap (λ (t : Stream). if t.source == 0 then Some 1 else None) (sym (same_stream-is s first_stream e))
    which false e = neither (s.source == 0)

message_right : SessionMessageRight (config 0) (draws_one ∷ sends ∷ asks_leave ∷ []) 21 true (named first_stream 1 ∷ [])
message_right = record { in_order = refl; exact = row_right }

abbrev first_run : List Entry
first_run = draws_one ∷ sends ∷ asks_leave ∷ parts ∷ []

first_each : AllByRecursion (EntryRight (config 0) 0) (steps first_run)
first_each = (
  right (config 0) 0 [] 0 1 (Drew first_page (97 ∷ [])) (Some first_drawop) [] None Active missing_none missing_drawn (λ n. refl) (λ n. refl) refl (lit≤ tt) refl refl tt tt tt refl refl refl,
  (
    right (config 0) 0 (draws_one ∷ []) 0 4 Ticked None (Data first_drawop ∷ []) None Active missing_drawn missing_drawn (λ n. refl) (λ n. refl) refl (lit≤ tt) refl refl (refl, tt) (one_spelled, tt) tt refl refl refl,
    (
      right (config 0) 0 (draws_one ∷ sends ∷ []) 0 20 AskedLeave None [] None Leaving missing_drawn missing_drawn (λ n. refl) (λ n. refl) refl (lit≤ tt) refl refl tt tt tt refl refl refl,
      (
        right (config 0) 0 (draws_one ∷ sends ∷ asks_leave ∷ []) 0 21 Ticked None (farewell ∷ []) None Gone missing_drawn missing_drawn (λ n. refl) (λ n. refl) refl (lit≤ tt) refl refl (refl, tt) (farewell_spelled, tt) tt
            (farewell, refl, (refl, refl, refl, refl, refl, message_right)) refl refl,
        tt,
      ),
    ),
  ),
)

abbrev goings : List Going
goings = idle draws_one ∷ record { entry = sends; goes = one_data ∷ [] } ∷ idle asks_leave ∷ idle parts ∷ []

first_law : BucketLaw 8000 4204 (bucket_calls 0 goings)
first_law = let first = one_goes 8000 4204 4 New one_data.item (lit≤ tt, lit≤ tt, tt) (lit≤ tt, lit≤ tt, tt) in (first.0, (first.1.0, (first.1.1.0, (ends_too, tt))))
  where
    ends_too : CallRight 8000 4204 (went_one 4 New one_data.item ++ Popped 4 None ∷ []) (went_one 4 New one_data.item ++ Popped 4 None ∷ Popped 21 None ∷ []) (Popped 21 None)
    ends_too = record { in_order = all_gone 4 New one_data.item; highest_first = tt; not_too_much = (lit≤ tt, lit≤ tt, (lit≤ tt, lit≤ tt, tt)); all_that_may = tt }

first_goes : AllByRecursion GoesAsCharged (steps goings)
first_goes = (idle_right refl, (record { same = refl; at_ticks = tt }, (idle_right refl, (idle_right refl, tt))))

first_right : IsMemberRun (config 0) 0 first_run
first_right = record { each = first_each; bucket = (goings, refl, first_goes, first_law) }

-- the member that hears, gives and has it taken

abbrev second_run : List Entry
second_run = hears ∷ hears_parting ∷ gives opens ∷ gives (Draw first_drawop) ∷ gives (Left 0) ∷ takes opens ∷ takes (Draw first_drawop) ∷ takes (Left 0) ∷ []

abbrev before_gives : List Entry
before_gives = hears ∷ hears_parting ∷ []

abbrev before_takes : List Entry
before_takes = before_gives ++ gives opens ∷ gives (Draw first_drawop) ∷ gives (Left 0) ∷ []

-- an entry of it at moment 31
later : (before : List Entry) (input : Input) (message : Option PageMsg) → ((n : FullName) → is_missing before n ≡ false)
    → ((n : FullName) → is_missing (before ++ plain 1 31 input None [] message Active ∷ []) n ≡ false)
    → ((n : FullName) → asker n (plain 1 31 input None [] message Active) ≡ None) → ((n : FullName) → fix_running before n ≡ None) → MomentRight (config 1) 0 before (plain 1 31 input None [] message Active)
    → VerdictRight (config 1) before input Done → None ≡ expected_drawop (config 1) before 31 (Some input) → IfSome (heard_in (Some input)) IsSpellable
    → SessionRight (config 1) 0 before (plain 1 31 input None [] message Active) → MessageRight (config 1) before input message → Active ≡ expected_state (state before) false (Some input)
    → EntryRight (config 1) 0 (record { before = before; this = plain 1 31 input None [] message Active })
later before input message p1 p2 p3 p4 p5 p6 p7 read p8 p9 p10 = right (config 1) 0 before 1 31 input None [] message Active p1 p2 p3 p4 refl p5 p6 p7 tt tt read p8 p9 p10

second_each : AllByRecursion (EntryRight (config 1) 0) (steps second_run)
second_each = (right (config 1) 0 [] 1 30 (Heard (Data first_drawop)) None [] None Active missing_none missing_drawn (λ n. refl) (λ n. refl) refl (lit≤ tt) (refl, refl) refl tt tt one_spelled refl refl refl, (later (hears ∷ []) (Heard farewell) None missing_drawn missing_told (λ n. refl) (λ n. refl) (lit≤ tt) (refl, refl) refl farewell_spelled refl refl refl, (later before_gives (Gave 0) (Some opens) missing_told missing_told (λ n. refl) (λ n. refl) refl refl refl tt refl (refl, refl) refl, (later (before_gives ++ gives opens ∷ []) (Gave 0) (Some (Draw first_drawop)) missing_told missing_told (λ n. refl) (λ n. refl) refl refl refl tt refl (refl, refl, refl, refl) refl, (later (before_gives ++ gives opens ∷ gives (Draw first_drawop) ∷ []) (Gave 0) (Some (Left 0)) missing_told missing_told (λ n. refl) (λ n. refl) refl refl refl tt refl (refl, refl, refl, refl) refl, (later before_takes (Took 0) (Some opens) missing_told missing_told (λ n. refl) (λ n. refl) refl refl refl tt refl refl refl, (later (before_takes ++ takes opens ∷ []) (Took 0) (Some (Draw first_drawop)) missing_told missing_told (λ n. refl) (λ n. refl) refl refl refl tt refl refl refl, (later (before_takes ++ takes opens ∷ takes (Draw first_drawop) ∷ []) (Took 0) (Some (Left 0)) missing_told missing_told (λ n. refl) (λ n. refl) refl refl refl tt refl refl refl, tt))))))))

second_right : IsMemberRun (config 1) 0 second_run
second_right = record {
  each = second_each;
  bucket = (map idle second_run, refl, (idle_right refl, (idle_right refl, (idle_right refl, (idle_right refl, (idle_right refl, (idle_right refl, (idle_right refl, (idle_right refl, tt)))))))), tt);
}

-- both

abbrev pub trace : Trace
trace = record { starts = record { config = config 0; made = 0 } ∷ record { config = config 1; made = 0 } ∷ []; entries = first_run ++ second_run }

pub run : IsRun trace
run = record {
  roster = record { some = lit< tt; places = ((refl, refl), ((refl, refl), tt)); session = ((refl, (refl, tt)), ((refl, (refl, tt)), tt)) };
  inside = (lit< tt, (lit< tt, (lit< tt, (lit< tt, (lit< tt, (lit< tt, (lit< tt, (lit< tt, (lit< tt, (lit< tt, (lit< tt, (lit< tt, tt))))))))))));
  each = (first_right, (second_right, tt));
}

pub honest : IsHonest trace.entries
honest = (tt, (tt, (tt, (tt, ((0, lit< tt, refl), ((1, lit< tt, refl), (tt, (tt, (tt, (tt, (tt, (tt, tt))))))))))))

pub took : taken_by trace.entries 1 0 ≡ opens ∷ Draw first_drawop ∷ Left 0 ∷ []
took = refl
