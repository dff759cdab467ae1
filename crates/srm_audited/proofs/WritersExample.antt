-- Files that both members of an honest run wrote, so that the premises of the laws can be met.
use Rattle.std.proofs.Common.{◌≡◌, ◌≢◌, ℕ, zero, suc, ◌*◌, ◌<◌, ◌≤◌, true, false, List, [], ◌∷◌, ◌++◌, length, take, drop, refl, ap, sym, ◌∙◌, subst, lit<, lit≤, arith, Ok, append_assoc, append-nil, length-append, length-drop}
use Rattle.std.specs.Prelude.{Some, slice_get}
use Rattle.std.specs.List.{AllByRecursion}
use Rattle.std.proofs.lemmas.List.{take-append-drop}
use Rattle.std.proofs.lemmas.Option.{same_Some}
use Rattle.srm_names.specs.declared.page_msg.PageMsg.{PageMsg}
use Rattle.srm_names.specs.declared.page_msg.PageMsg.TheVariants.{Open, Draw, Left}
use Rattle.srm_names.specs.Names.{first_page, named}
use Rattle.srm_codec.specs.declared.datagram.Datagram.{Datagram}
use Rattle.srm_codec.specs.declared.datagram.Datagram.TheVariants.{Data, Session}
use Rattle.srm_codec.specs.Spelling.{spelling, length_of}
use Rattle.srm_codec.proofs.Lengths.{length-spelling}
use Rattle.srm_names.specs.Histories.{IsPrefix}
use Rattle.srm_names.proofs.Lists.{by_place}
use Rattle.srm_timers.specs.Seeds.{words_of}
use Rattle.srm_entries.specs.declared.entry.Entry.{Entry}
use Rattle.srm_entries.specs.Giving.{given}
use Rattle.srm_entries.specs.Runs.{IsMemberRun}
use Rattle.srm_entries.specs.Sample.{config, first_drawop, first_stream}
use Rattle.srm_entries.proofs.Cutting.{run_part}
use Rattle.srm_world.specs.Traces.{Trace, Journal, of_member, IsHandable}
use Rattle.srm_world.specs.Claims.{IsLawfulJournal}
use Rattle.srm_world.proofs.Lawful.{lawful_journal}
use Rattle.srm_world.proofs.TakesExample.{trace, run, honest}
use Rattle.srm_frames.specs.declared.beginning.Beginning.{Beginning}
use Rattle.srm_frames.specs.declared.reading.Record.{Record}
use Rattle.srm_frames.specs.Beginnings.{beginning_text}
use Rattle.srm_frames.specs.Lines.{kind_of, payload_of, line_text, lines_text}
use Rattle.srm_frames.specs.declared.line.Line.{Line}
use Rattle.srm_frames.specs.WhatIsRead.{IsBeginning}
use Rattle.srm_record.specs.Calls.{lines_of}
use Rattle.srm_record.specs.Records.{record_text, record_of, last_of_record, whole_record}
use Rattle.srm_record.specs.Replays.{start_of}
use Rattle.srm_output.specs.Writing.{AppendsFront}
use Rattle.srm_record.specs.Writing.{FileView, HasRecord, Stays}
use Rattle.srm_audited.specs.declared.verdict.Verdict.{Verdict}
use Rattle.srm_audited.specs.declared.verdict.Verdict.TheVariants.{Honest}
use Rattle.srm_audited.specs.Verdicts.{IsVerdict}
use Rattle.srm_audited.specs.Writers.{IsWrittenIn, IsWrittenWhole, AreWrittenWhole}
use Rattle.srm_audited.specs.Written.{IsRecorded, IsReadingOf, IsReadWhole, IsReadPart, DidInRun, text_behind_calls, IsFileOf}
use Rattle.srm_audited.proofs.Refusing.{completeness_law}
use Rattle.srm_audited.proofs.Cutting.{begins_long, frame_long}
use Rattle.srm_audited.proofs.Written.{written_law, cut_law}
use Rattle.srm_audited.proofs.Filed.{behind_calls, cut_files_law, ended_law, files_law, kept_law}

abbrev pub began : ℕ → Beginning
began me = record { config = config me; made = 0; seed = 0; wall = 0 }

-- what member 1 did before its workers took what it gave
abbrev pub calls : ℕ → List Entry
calls me = take 5 (of_member me trace.entries)

abbrev pub journal : ℕ → Journal
journal me = record { start = start_of (began me); entries = calls me }

abbrev messages : List PageMsg
messages = Open first_page ∷ Draw first_drawop ∷ Left 0 ∷ []

abbrev none_taken : List (List PageMsg)
none_taken = [] ∷ [] ∷ [] ∷ [] ∷ [] ∷ [] ∷ [] ∷ [] ∷ []

abbrev all_taken : List (List PageMsg)
all_taken = messages ∷ [] ∷ [] ∷ [] ∷ [] ∷ [] ∷ [] ∷ [] ∷ []

-- what a recorder was handed

first_handed : AllByRecursion IsHandable (calls 0)
first_handed = (
  record { moment = lit≤ tt; input = (lit< tt, lit< tt) },
  (record { moment = lit≤ tt; input = tt }, (record { moment = lit≤ tt; input = tt }, (record { moment = lit≤ tt; input = tt }, tt))),
)

second_handed : AllByRecursion IsHandable (calls 1)
second_handed = (
  record { moment = lit≤ tt; input = tt },
  (
    record { moment = lit≤ tt; input = tt },
    (record { moment = lit≤ tt; input = lit< tt }, (record { moment = lit≤ tt; input = lit< tt }, (record { moment = lit≤ tt; input = lit< tt }, tt))),
  ),
)

pub first_lawful : IsLawfulJournal (journal 0)
first_lawful = lawful_journal (journal 0) (record { run = run.each.0; handed = first_handed })

second_lawful : IsLawfulJournal (journal 1)
second_lawful = lawful_journal (journal 1) (record {
  run = run_part (config 1) 0 (calls 1) (drop 5 (of_member 1 trace.entries)) (subst (IsMemberRun (config 1) 0) (sym (take-append-drop 5 (of_member 1 trace.entries))) run.each.1.0);
  handed = second_handed;
})

pub settings_fit : (me : ℕ) → me < 2 → IsBeginning (began me)
settings_fit me l = record {
  config = record {
    in_roster = l;
    members = lit≤ tt;
    least_rate = lit≤ tt;
    greatest_rate = lit≤ tt;
    least_depth = lit≤ tt;
    greatest_depth = lit≤ tt;
    c1 = lit≤ tt;
    c2 = lit≤ tt;
    d1 = lit≤ tt;
    d2 = lit≤ tt;
    shortest_distance = lit≤ tt;
    longest_distance = lit≤ tt;
  };
  session = lit< tt;
  made = lit≤ tt;
  seed = lit< tt;
  wall = lit< tt;
}

nothing_taken : (slot : ℕ) (list : List PageMsg) → slice_get none_taken slot ≡ Some list → IsPrefix list (given (calls 0) slot)
nothing_taken slot list at = subst (λ ms. IsPrefix ms (given (calls 0) slot)) (empty none_taken slot (refl, (refl, (refl, (refl, (refl, (refl, (refl, (refl, tt)))))))) at) (given (calls 0) slot, refl)
  where
    empty : (lists : List (List PageMsg)) (k : ℕ) → AllByRecursion (λ (ms : List PageMsg). [] ≡ ms) lists → slice_get lists k ≡ Some list → [] ≡ list
    empty lists k all here = by_place (λ (ms : List PageMsg). [] ≡ ms) lists k list all here

some_taken : (slot : ℕ) (list : List PageMsg) → slice_get all_taken slot ≡ Some list → IsPrefix list (given (calls 1) slot)
some_taken zero list at = subst (λ ms. IsPrefix ms (given (calls 1) 0)) (same_Some messages list at) ([], refl)
some_taken (suc slot) list at =
    subst (λ ms. IsPrefix ms (given (calls 1) (suc slot))) (by_place (λ (ms : List PageMsg). [] ≡ ms) ([] ∷ [] ∷ [] ∷ [] ∷ [] ∷ [] ∷ [] ∷ []) slot list (refl, (refl, (refl, (refl, (refl, (refl, (refl, tt))))))) at)
    (given (calls 1) (suc slot), refl)

first_recorded : IsRecorded (began 0) (journal 0) none_taken
first_recorded = record {
  beginning = settings_fit 0 (lit< tt);
  start = refl;
  lawful = first_lawful;
  words = (words_of 0, refl);
  slots = refl;
  taken = nothing_taken;
}

second_recorded : IsRecorded (began 1) (journal 1) all_taken
second_recorded = record {
  beginning = settings_fit 1 (lit< tt);
  start = refl;
  lawful = second_lawful;
  words = (words_of 0, refl);
  slots = refl;
  taken = some_taken;
}

first_played : DidInRun trace (journal 0)
first_played = record { run = run; began = (0, lit< tt, refl); did = refl }

second_played : DidInRun trace (journal 1)
second_played = record { run = run; began = (1, lit< tt, refl); did = refl }

-- their whole files

abbrev first_file : List ℕ
first_file = whole_record (began 0) (calls 0) none_taken

abbrev second_file : List ℕ
second_file = whole_record (began 1) (calls 1) all_taken

whole_file : (me : ℕ) (lists : List (List PageMsg)) → IsFileOf (began me) (calls me) lists (whole_record (began me) (calls me) lists)
whole_file me lists = record { missing = []; parts = append-nil (whole_record (began me) (calls me) lists); few = omega arith }

first_read_whole : (r : Record) → IsReadingOf first_file (Ok r) → IsReadWhole (began 0) (journal 0) none_taken r
first_read_whole r reads = written_law (began 0) (journal 0) none_taken first_file (Ok r) first_recorded refl reads

second_read_whole : (s : Record) → IsReadingOf second_file (Ok s) → IsReadWhole (began 1) (journal 1) all_taken s
second_read_whole s reads = written_law (began 1) (journal 1) all_taken second_file (Ok s) second_recorded refl reads

-- Member 0 sent datagrams, with its last call too. Its file has all of its calls, and nothing behind them.

abbrev first_calls : List ℕ
first_calls = record_of (began 0) (calls 0)

abbrev first_view : FileView
first_view = record { beginning = began 0; first = Some []; now = Some first_calls; waiting = []; last = last_of_record (began 0) (calls 0); failed = false }

first_has_record : HasRecord first_view (calls 0)
first_has_record = record {
  text = record {
    whole = λ _. record { front = first_calls; parts = append-nil first_calls; output = refl };
    front = record { behind = []; most = record { front = first_calls; parts = append-nil first_calls; output = refl } };
  };
  waits = λ _. omega arith;
  few = λ _. omega arith;
  last = refl;
}

first_kept : IsFileOf (began 0) (calls 0) none_taken first_calls
first_kept = (kept_law first_view (calls 0) none_taken first_calls first_has_record refl refl).0 refl

-- Member 1's file ends within the frame of the first message that was taken.

abbrev second_behind : List ℕ
second_behind = text_behind_calls (began 1) (calls 1) all_taken

abbrev second_takes : List ℕ
second_takes = record_of (began 1) (calls 1) ++ take 5 second_behind

second_parts : second_takes ++ drop 5 second_behind ≡ second_file
second_parts =
    append_assoc (record_of (began 1) (calls 1)) (take 5 second_behind) (drop 5 second_behind) ∙ ap (λ w. record_of (began 1) (calls 1) ++ w) (take-append-drop 5 second_behind)
    ∙ sym (behind_calls (began 1) (calls 1) all_taken)

second_cut : IsFileOf (began 1) (calls 1) all_taken second_takes
second_cut = record {
  missing = drop 5 second_behind;
  parts = second_parts;
  few = (let short : length (drop 5 second_behind) ≤ length second_behind = omega (arith, length-drop 5 second_behind) in omega (arith, short));
}

-- files of both members, read

module _ (one other : List ℕ) (one_is : IsFileOf (began 0) (calls 0) none_taken one) (other_is : IsFileOf (began 1) (calls 1) all_taken other) (r s : Record) (first : IsReadingOf one (Ok r)) (second : IsReadingOf other (Ok s)) where
  first_read : IsWrittenWhole trace r × (r.beginning ≡ began 0)
  first_read = files_law trace (began 0) (journal 0) none_taken one (Ok r) first_played first_recorded one_is first

  second_read : IsWrittenWhole trace s × (s.beginning ≡ began 1)
  second_read = files_law trace (began 1) (journal 1) all_taken other (Ok s) second_played second_recorded other_is second

  others : s.beginning.config.me ≢ r.beginning.config.me
  others e = let both : suc zero ≡ zero = ap (λ (b : Beginning). b.config.me) (sym second_read.1) ∙ e ∙ ap (λ (b : Beginning). b.config.me) first_read.1 in absurd (cc)

  all_written : AreWrittenWhole trace (r ∷ s ∷ [])
  all_written = record {
    run = run;
    honest = honest;
    each = (first_read.0, (second_read.0, tt));
    others = ((others, tt), (tt, tt));
    all = lit≤ tt;
  }

  -- so the verdict on them is that they are honest
  found_honest : (v : Verdict) → IsVerdict (r ∷ s ∷ []) v → (found : Trace) × (v ≡ Honest found)
  found_honest v is = completeness_law (r ∷ s ∷ []) v trace is all_written

abbrev FoundHonest : List ℕ → List ℕ → Type 0
FoundHonest one other = (r s : Record) → IsReadingOf one (Ok r) → IsReadingOf other (Ok s) → (v : Verdict) → IsVerdict (r ∷ s ∷ []) v → (found : Trace) × (v ≡ Honest found)

whole_found : FoundHonest first_file second_file
whole_found = found_honest first_file second_file (whole_file 0 none_taken) (whole_file 1 all_taken)

cut_found : FoundHonest first_calls second_takes
cut_found = found_honest first_calls second_takes first_kept second_cut

-- Member 1 sent nothing, so its file counts also where it ends behind the beginning, and all else waits.

abbrev only_begun : List ℕ
only_begun = beginning_text (began 1)

abbrev file : FileView
file = record { beginning = began 1; first = Some []; now = Some only_begun; waiting = lines_text (lines_of 1 (calls 1)); last = last_of_record (began 1) (calls 1); failed = false }

abbrev IsShortLine : Line → Type 0
IsShortLine l = length (payload_of l.call) ≤ 100

few_bytes : (ls : List Line) → AllByRecursion IsShortLine ls → length (lines_text ls) ≤ 117 * length ls
unfolding line_text
few_bytes [] all = omega arith
few_bytes (l ∷ ls) all =
    let short : length (payload_of l.call) ≤ 100 = all.0 in
    omega (arith, short, frame_long (kind_of l.call) l.moment (payload_of l.call), length-append (line_text l) (lines_text ls), few_bytes ls all.1)

short_datagram : (g : Datagram) → length_of g ≤ 100 → length (spelling 1 g) ≤ 100
short_datagram g l = subst (λ n. n ≤ 100) (length-spelling 1 g) l

short_lines : AllByRecursion IsShortLine (lines_of 1 (calls 1))
short_lines = (short_datagram (Data first_drawop) (lit≤ tt), (short_datagram (Session 0 21 true first_page (named first_stream 1 ∷ []) []) (lit≤ tt), (lit≤ tt, (lit≤ tt, (lit≤ tt, tt)))))

has_record : HasRecord file (calls 1)
unfolding record_text
has_record = record {
  text = record {
    whole = λ _. record { front = only_begun; parts = refl; output = refl };
    front = record { behind = file.waiting; most = record { front = only_begun; parts = refl; output = refl } };
  };
  waits = λ _. omega arith;
  few = λ _. (let l : length file.waiting ≤ 117 * 5 = few_bytes (lines_of 1 (calls 1)) short_lines in omega (arith, l));
  last = refl;
}

only_begun_kept : IsFileOf (began 1) (calls 1) all_taken only_begun
only_begun_kept = (kept_law file (calls 1) all_taken only_begun has_record refl refl).0 refl

is_front : IsPrefix only_begun second_file
is_front = (kept_law file (calls 1) all_taken only_begun has_record refl refl).1

begun_found : FoundHonest first_file only_begun
begun_found = found_honest first_file only_begun (whole_file 0 none_taken) only_begun_kept

-- At its end all that waited was written, and of what its workers took a part of the first frame.

abbrev ending : List ℕ
ending = file.waiting ++ take 5 second_behind

it_stays : Stays (Some only_begun) (Some second_takes)
unfolding record_text
it_stays = (ending, append_assoc only_begun file.waiting (take 5 second_behind))

some_written : AppendsFront (Some []) (Some second_takes) second_file
some_written = record { behind = drop 5 second_behind; most = record { front = second_takes; parts = second_parts; output = refl } }

second_ended : IsFileOf (began 1) (calls 1) all_taken second_takes
second_ended = ended_law file (calls 1) all_taken second_takes has_record refl refl it_stays some_written

ended_found : FoundHonest first_file second_takes
ended_found = found_honest first_file second_takes (whole_file 0 none_taken) second_ended

module _ (s : Record) (cut : IsReadingOf only_begun (Ok s)) where
  cut_read : IsReadPart (began 1) (journal 1) all_taken s
  cut_read = cut_law (began 1) (journal 1) all_taken only_begun (Ok s) second_recorded is_front (omega (arith, begins_long (began 1))) cut

  cut_written : IsWrittenIn trace s
  cut_written = cut_files_law trace (began 1) (journal 1) all_taken s second_played cut_read
