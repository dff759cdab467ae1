-- An honest run of two members that are at rest, after one drawop and a session message of each. So the premises of the law of rest can
-- be met.
use Rattle.std.proofs.Common.{◌≡◌, ℕ, Bool, true, false, ◌&&◌, List, [], ◌∷◌, ◌++◌, map, refl, ap, sym, ◌∙◌, subst, arith, lit<, lit≤}
use Rattle.std.specs.Prelude.{Some, None, option_map, nat_lt, if◌then◌else◌}
use Rattle.std.specs.List.{AllByRecursion}
use Rattle.srm_names.specs.declared.stream.Stream.{Stream}
use Rattle.srm_names.specs.FullName.{FullName}
use Rattle.srm_names.specs.Histories.{steps, greatest}
use Rattle.srm_names.specs.Names.{first_page, named, same_page, same_stream, stream_on}
use Rattle.srm_names.proofs.Same.{same_stream-is}
use Rattle.srm_codec.specs.declared.datagram.Datagram.{Datagram}
use Rattle.srm_codec.specs.declared.datagram.Datagram.TheVariants.{Data, Session}
use Rattle.srm_codec.specs.Spelling.{IsSpellable}
use Rattle.srm_bucket.specs.declared.class.Class.TheVariants.{New}
use Rattle.srm_bucket.specs.Law.{BucketLaw}
use Rattle.srm_store.specs.Finals.{number_in_rows}
use Rattle.srm_entries.specs.Configs.{Config}
use Rattle.srm_entries.specs.declared.entry.Entry.{Entry}
use Rattle.srm_entries.specs.declared.state.AgentState.TheVariants.{Active}
use Rattle.srm_entries.specs.declared.entry.Input.TheVariants.{Drew, Heard, Ticked}
use Rattle.srm_entries.specs.Entries.{shown, known, is_missing, released}
use Rattle.srm_entries.specs.Sessions.{expected_row, if_positive, SessionMessageRight}
use Rattle.srm_entries.specs.Bucket.{Going, idle, bucket_calls}
use Rattle.srm_entries.specs.Runs.{EntryRight, IsMemberRun}
use Rattle.srm_world.specs.Traces.{Trace, of_member, IsHonest, IsRun}
use Rattle.srm_world.specs.Claims.{AtRest}
use Rattle.srm_entries.specs.Sample.{first_stream, first_drawop, config}
use Rattle.srm_entries.proofs.Plain.{plain, idle_right, one_spelled, row_spelled, right, one_held, none_missing_in, missing_none, one_of, one_goes, draws_one, missing_drawn, one_data, one_known, twice_known}

abbrev message_of_0 : Datagram
message_of_0 = Session 0 1000000 false first_page (named first_stream 1 ∷ []) []

abbrev sends : Entry
sends = plain 0 1000000 Ticked None (Data first_drawop ∷ message_of_0 ∷ []) None Active

abbrev hears : Entry
hears = plain 1 1000100 (Heard (Data first_drawop)) None [] None Active

abbrev hears_message : Entry
hears_message = plain 1 1000200 (Heard message_of_0) None [] None Active

abbrev message_of_1 : Datagram
message_of_1 = Session 1 1000500 false first_page (named first_stream 1 ∷ []) (record { member = 0; t1 = 1000000; delay = 300 } ∷ [])

abbrev answers : Entry
answers = plain 1 1000500 Ticked None (message_of_1 ∷ []) None Active

abbrev hears_back : Entry
hears_back = plain 0 1000600 (Heard message_of_1) None [] None Active

abbrev entries : List Entry
entries = draws_one ∷ sends ∷ hears ∷ hears_message ∷ answers ∷ hears_back ∷ []

message_of_0_spelled : IsSpellable message_of_0
message_of_0_spelled = (lit< tt, lit≤ tt, (lit< tt, lit< tt), record { few = lit≤ tt; names = (row_spelled, tt); rising = refl; sources = ((λ e. refl), tt) }, record { few = lit≤ tt; each = tt; rising = refl })

message_of_1_spelled : IsSpellable message_of_1
message_of_1_spelled = (
  lit< tt,
  lit≤ tt,
  (lit< tt, lit< tt),
  record { few = lit≤ tt; names = (row_spelled, tt); rising = refl; sources = ((λ e. absurd (grind arith)), tt) },
  record { few = lit≤ tt; each = ((lit< tt, lit≤ tt, lit≤ tt), tt); rising = refl },
)

-- neither misses anything at any time

missing_sent : (n : FullName) → is_missing (draws_one ∷ sends ∷ []) n ≡ false
missing_sent n = none_missing_in (draws_one ∷ sends ∷ []) one_held one_known n

missing_told : (n : FullName) → is_missing (draws_one ∷ sends ∷ hears_back ∷ []) n ≡ false
missing_told n = none_missing_in (draws_one ∷ sends ∷ hears_back ∷ []) one_held twice_known n

missing_heard : (n : FullName) → is_missing (hears ∷ []) n ≡ false
missing_heard n = none_missing_in (hears ∷ []) one_held one_known n

missing_told_now : (n : FullName) → is_missing (hears ∷ hears_message ∷ []) n ≡ false
missing_told_now n = none_missing_in (hears ∷ hears_message ∷ []) one_held twice_known n

missing_answered : (n : FullName) → is_missing (hears ∷ hears_message ∷ answers ∷ []) n ≡ false
missing_answered n = none_missing_in (hears ∷ hears_message ∷ answers ∷ []) one_held twice_known n

-- the rows of the session messages are those due
rows_right : (c : Config) (before : List Entry) (now : ℕ) → (number_in_rows (named first_stream 1 ∷ []) first_stream ≡ expected_row c before false first_stream) → ((s : Stream) → same_stream s first_stream ≡ false → known before s ≡ 0)
    → SessionMessageRight c before now false (named first_stream 1 ∷ [])
rows_right c before now here there = record { in_order = refl; exact = λ s. go s (same_stream s first_stream) refl }
  where
    empty : (b : Bool) → (if b then if_positive 0 else None) ≡ None
    empty true = refl
    empty false = refl

    go : (s : Stream) (b : Bool) → same_stream s first_stream ≡ b → number_in_rows (named first_stream 1 ∷ []) s ≡ expected_row c before false s
    go s true e = subst (λ (x : Stream). number_in_rows (named first_stream 1 ∷ []) x ≡ expected_row c before false x) (sym (same_stream-is s first_stream e)) here
    go s false e =
        ap (λ b. option_map (λ (n : FullName). n.number) (if b then Some (named first_stream 1) else None)) e
        ∙ sym (ap (λ k. if same_page s.page (shown before) && nat_lt s.source c.members then if_positive k else None) (there s e) ∙ empty (same_page s.page (shown before) && nat_lt s.source c.members))

-- the member that drew

each_0 : AllByRecursion (EntryRight (config 0) 0) (steps (draws_one ∷ sends ∷ hears_back ∷ []))
each_0 = (
  right (config 0) 0 [] 0 1 (Drew first_page (97 ∷ [])) (Some first_drawop) [] None Active missing_none missing_drawn (λ n. refl) (λ n. refl) refl (lit≤ tt) refl refl tt tt tt refl refl refl,
  (
    right (config 0) 0 (draws_one ∷ []) 0 1000000 Ticked None (Data first_drawop ∷ message_of_0 ∷ []) None Active missing_drawn missing_sent (λ n. refl) (λ n. refl) refl (lit≤ tt) refl refl
        (refl, (refl, tt)) (one_spelled, (message_of_0_spelled, tt)) tt
        (message_of_0, refl, (refl, refl, refl, refl, refl, rows_right (config 0) (draws_one ∷ []) 1000000 refl (λ s e. ap (λ b. greatest (one_of b ++ [])) e))) refl refl,
    (right (config 0) 0 (draws_one ∷ sends ∷ []) 0 1000600 (Heard message_of_1) None [] None Active missing_sent missing_told (λ n. refl) (λ n. refl) refl (lit≤ tt) (refl, refl) refl tt tt message_of_1_spelled refl refl refl, tt),
  ),
)

abbrev goings_0 : List Going
goings_0 = idle draws_one ∷ record { entry = sends; goes = one_data ∷ [] } ∷ idle hears_back ∷ []

law_0 : BucketLaw 8000 4204 (bucket_calls 0 goings_0)
law_0 = one_goes 8000 4204 1000000 New one_data.item (lit≤ tt, lit≤ tt, tt) (lit≤ tt, lit≤ tt, tt)

run_0 : IsMemberRun (config 0) 0 (of_member 0 entries)
run_0 = record { each = each_0; bucket = (goings_0, refl, (idle_right refl, (record { same = refl; at_ticks = tt }, (idle_right refl, tt))), law_0) }

-- the member that heard of it

each_1 : AllByRecursion (EntryRight (config 1) 0) (steps (hears ∷ hears_message ∷ answers ∷ []))
each_1 = (
  right (config 1) 0 [] 1 1000100 (Heard (Data first_drawop)) None [] None Active missing_none missing_heard (λ n. refl) (λ n. refl) refl (lit≤ tt) (refl, refl) refl tt tt one_spelled refl refl refl,
  (
    right (config 1) 0 (hears ∷ []) 1 1000200 (Heard message_of_0) None [] None Active missing_heard missing_told_now (λ n. refl) (λ n. refl) refl (lit≤ tt) (refl, refl) refl tt tt message_of_0_spelled refl refl refl,
    (
      right (config 1) 0 (hears ∷ hears_message ∷ []) 1 1000500 Ticked None (message_of_1 ∷ []) None Active missing_told_now missing_answered (λ n. refl) (λ n. refl) refl (lit≤ tt) refl refl
          (refl, tt) (message_of_1_spelled, tt) tt
          (message_of_1, refl, (refl, refl, refl, refl, refl, rows_right (config 1) (hears ∷ hears_message ∷ []) 1000500 refl (λ s e. ap (λ b. greatest (one_of b ++ (one_of b ++ []))) e))) refl refl,
      tt,
    ),
  ),
)

law_1 : BucketLaw 8000 4204 (bucket_calls 1 (map idle (hears ∷ hears_message ∷ answers ∷ [])))
law_1 = (record { in_order = λ class. ([], refl); highest_first = tt; not_too_much = (lit≤ tt, lit≤ tt, tt); all_that_may = tt }, tt)

run_1 : IsMemberRun (config 1) 0 (of_member 1 entries)
run_1 = record { each = each_1; bucket = (map idle (hears ∷ hears_message ∷ answers ∷ []), refl, (idle_right refl, (idle_right refl, (idle_right refl, tt))), law_1) }

-- both

abbrev pub trace : Trace
trace = record { starts = record { config = config 0; made = 0 } ∷ record { config = config 1; made = 0 } ∷ []; entries = entries }

pub run : IsRun trace
run = record {
  roster = record { some = lit< tt; places = ((refl, refl), ((refl, refl), tt)); session = ((refl, (refl, tt)), ((refl, (refl, tt)), tt)) };
  inside = (lit< tt, (lit< tt, (lit< tt, (lit< tt, (lit< tt, (lit< tt, tt))))));
  each = (run_0, (run_1, tt));
}

pub honest : IsHonest trace.entries
honest = (tt, (tt, ((0, lit< tt, refl), ((1, lit< tt, refl), (tt, ((2, lit< tt, refl), tt))))))

once_or_twice : (b : Bool) → greatest (one_of b ++ []) ≡ greatest (one_of b ++ (one_of b ++ []))
once_or_twice true = refl
once_or_twice false = refl

pub at_rest : AtRest trace.entries 0 1 first_page
at_rest = record {
  one = record {
    session_message = message_of_1;
    before = draws_one ∷ sends ∷ hears ∷ hears_message ∷ [];
    sending = answers;
    after = hears_back ∷ [];
    split = refl;
    of_k = refl;
    sent = (0, lit< tt, refl);
    is_session_message = (refl, refl, refl);
    came = (0, lit< tt, refl);
    same = λ source. refl;
  };
  other = record {
    session_message = message_of_0;
    before = draws_one ∷ [];
    sending = sends;
    after = hears ∷ hears_message ∷ answers ∷ hears_back ∷ [];
    split = refl;
    of_k = refl;
    sent = (1, lit< tt, refl);
    is_session_message = (refl, refl, refl);
    came = (1, lit< tt, refl);
    same = λ source. once_or_twice (same_stream (stream_on source first_page) first_stream);
  };
  one_complete = λ n e. missing_told n;
  other_complete = λ n e. missing_answered n;
}

pub agreed : released (of_member 0 trace.entries) first_stream ≡ first_drawop ∷ []
agreed = refl

pub agreed_too : released (of_member 1 trace.entries) first_stream ≡ first_drawop ∷ []
agreed_too = refl
