-- A record that says that a page worker took what its member didn't give. It is refused, so that the premise of the law on refusals can be met.
use Rattle.std.proofs.Common.{◌≡◌, ℕ, zero, suc, ◌≤◌, false, List, [], ◌∷◌, ◌++◌, length, get_or, take, refl, ap, sym, ◌∙◌, subst, inr, lit<, lit≤, arith, Ok, append-nil}
use Rattle.std.specs.Prelude.{Option, None, option_map, unwrap_or}
use Rattle.std.specs.List.{flat_map}
use Rattle.std.proofs.lemmas.Bool.{ne_eqb}
use Rattle.rand_pcg.specs.Lcg.{Lcg}
use Rattle.rand_pcg.specs.Pcg.{pcg64}
use Rattle.srm_names.specs.declared.page_msg.PageMsg.{PageMsg}
use Rattle.srm_names.specs.declared.page_msg.PageMsg.TheVariants.{Left}
use Rattle.srm_codec.specs.Spelling.{page_bytes}
use Rattle.srm_timers.specs.Seeds.{words_of}
use Rattle.srm_entries.specs.declared.entry.Entry.{Entry}
use Rattle.srm_entries.proofs.Plain.{draws_one}
use Rattle.srm_world.specs.Traces.{Trace, Journal, of_member}
use Rattle.srm_world.specs.WaitWords.{AreByWords}
use Rattle.srm_world.proofs.Members.{none_of}
use Rattle.srm_frames.specs.declared.reading.Record.{Record}
use Rattle.srm_frames.specs.declared.reading.RecordEnd.TheVariants.{Whole}
use Rattle.srm_frames.specs.Beginnings.{beginning_text}
use Rattle.srm_frames.specs.Lines.{lines_text}
use Rattle.srm_frames.specs.WhatIsRead.{RecordView, IsRecordIn, seen}
use Rattle.srm_record.specs.Allowances.{timers_allowed, timers_in}
use Rattle.srm_record.specs.Making.{MakesAll}
use Rattle.srm_record.specs.Records.{record_text, whole_lines, whole_record}
use Rattle.srm_record.specs.Replays.{start_of, lines_told}
use Rattle.srm_record.specs.Takes.{lists_in}
use Rattle.srm_record.proofs.Untold.{tells_of_runs}
use Rattle.srm_audit.specs.declared.got.Got.{Got}
use Rattle.srm_gaps.specs.declared.told.Told.{Told}
use Rattle.srm_gaps.specs.Possible.{told_of, calls_told, HasOrder}
use Rattle.srm_gaps.proofs.Retelling.{told_first}
use Rattle.srm_audited.specs.declared.verdict.Verdict.TheVariants.{NotHonest}
use Rattle.srm_audited.specs.declared.verdict.Reason.TheVariants.{Foreign}
use Rattle.srm_audited.specs.Sessions.{Replay, IsReplayOf, gots_of, is_cut}
use Rattle.srm_audited.specs.Verdicts.{ArePart, IsUngiven, IsVerdict}
use Rattle.srm_audited.specs.Writers.{AreWrittenIn}
use Rattle.srm_audited.specs.Written.{IsReadingOf}
use Rattle.srm_audited.proofs.Refusing.{refused_law}
use Rattle.srm_audited.proofs.WritersExample.{began, calls, journal, first_lawful, settings_fit}

-- Member 0 drew, sent and left, and gave nothing. By its record a worker took that member 1 left.

abbrev lies : List (List PageMsg)
lies = (Left 1 ∷ []) ∷ [] ∷ [] ∷ [] ∷ [] ∷ [] ∷ [] ∷ [] ∷ []

abbrev view : RecordView
view = record { beginning = began 0; lines = whole_lines (began 0) (calls 0) lies; end = Whole }

abbrev file : List ℕ
file = whole_record (began 0) (calls 0) lies

is_record : IsRecordIn file view
unfolding record_text page_bytes
is_record = record {
  rest = [];
  reads = record {
    text = ap (λ w. beginning_text (began 0) ++ w) (sym (append-nil (lines_text view.lines)));
    beginning = settings_fit 0 (lit< tt);
    lines = (
      record { moment = lit≤ tt; call = (lit< tt, lit< tt); size = lit< tt },
      (
        record { moment = lit≤ tt; call = tt; size = lit< tt },
        (
          record { moment = lit≤ tt; call = tt; size = lit< tt },
          (
            record { moment = lit≤ tt; call = tt; size = lit< tt },
            (record { moment = lit≤ tt; call = (lit< tt, lit< tt); size = lit< tt }, (record { moment = lit≤ tt; call = tt; size = lit< tt }, refl)),
          ),
        ),
      ),
    );
  };
  end = (refl, refl);
}

-- its calls, made anew

abbrev so_far : ℕ → Journal
so_far n = record { start = start_of (began 0); entries = take n (calls 0) }

abbrev call_at : ℕ → Entry
call_at n = get_or (calls 0) n draws_one

makes : MakesAll view.lines (so_far 0) (journal 0)
makes = (
  so_far 1,
  record { entry = call_at 0; grows = record { moment = refl; grown = refl }; is = refl },
  (
    so_far 2,
    record { entry = call_at 1; grows = record { moment = refl; grown = refl }; is = refl },
    (
      so_far 3,
      record { entry = call_at 2; grows = record { moment = refl; grown = refl }; is = refl },
      (so_far 4, record { entry = call_at 3; grows = record { moment = refl; grown = refl }; is = refl }, (so_far 4, refl, (so_far 4, refl, refl))),
    ),
  ),
)

abbrev replay : Replay
replay = record { told = record { journal = journal 0; is_cut = false }; lists = lies }

abbrev lone : List Told
lone = replay.told ∷ []

abbrev gots : List Got
gots = flat_map gots_of (replay ∷ [])

-- the record of the other member is missing

part : ArePart lone
part = record { incomplete = λ all. (let few : 2 ≤ 1 = all.1.0.1 in absurd (omega (arith, few))); session = (tt, tt) }

abbrev calls_in : Option Told → List Entry
calls_in o = unwrap_or (option_map (λ (t : Told). t.journal.entries) o) []

untold : (m : ℕ) → 1 ≤ m → told_of lone m ≡ None
untold m l = told_first replay.told [] m false (ne_eqb 0 m (λ e. omega (arith, l, e)))

all_told : (m : ℕ) → of_member m (calls 0) ≡ calls_told lone m
all_told zero = refl
all_told (suc m) = none_of 1 (suc m) (calls 0) (omega arith) (lit< tt, (lit< tt, (lit< tt, (lit< tt, tt)))) ∙ ap calls_in (sym (untold (suc m) (omega arith)))

order : HasOrder lone
order = record { es = calls 0; all = all_told; possible = (tt, (tt, (tt, (tt, tt)))) }

ungiven : IsUngiven lone gots 0 0
ungiven = record {
  place = 0;
  got = record { member = 0; slot = 0; list = Left 1 ∷ [] };
  here = refl;
  before = tt;
  ungiven = λ p. (let none : Left 1 ∷ p.0 ≡ [] = p.1 in absurd (cc));
  member_is = refl;
  slot_is = refl;
}

module _ (r : Record) (reads : IsReadingOf file (Ok r)) where
  same : seen r ≡ view
  same = reads view is_record

  start : (journal 0).start ≡ start_of r.beginning
  start = ap (λ (v : RecordView). start_of v.beginning) (sym same)

  words : (to : Lcg) × AreByWords pcg64 (journal 0).start.config (words_of r.beginning.seed) (calls 0) to
  words = (words_of 0, subst (λ (v : RecordView). AreByWords pcg64 (journal 0).start.config (words_of v.beginning.seed) (calls 0) (words_of 0)) (sym same) refl)

  made : MakesAll r.lines.items (record { start = start_of r.beginning; entries = [] }) (journal 0)
  made = subst (λ (v : RecordView). MakesAll v.lines (record { start = start_of v.beginning; entries = [] }) (journal 0)) (sym same) makes

  is_replay : IsReplayOf r replay
  is_replay = record {
    start = start;
    lawful = first_lawful;
    words = words;
    made = made;
    told = ap (λ (v : RecordView). v.lines) same ∙ ap (λ (v : RecordView). lines_told v.beginning (calls 0) lies v.end) (sym same);
    bounded = subst (λ (v : RecordView). timers_in (calls 0) ≤ timers_allowed (length v.lines)) (sym same) (lit≤ tt);
    runs = tells_of_runs r (journal 0) lies start first_lawful words (ap (λ (v : RecordView). lists_in v.lines) (sym same)) made;
    slots = refl;
    cut = ap (λ (v : RecordView). is_cut v.end) (sym same);
  }

  judged : IsVerdict (r ∷ []) (NotHonest (Foreign 0 0))
  judged = record { told = lone; gots = gots; of = record { replays = replay ∷ []; each = (is_replay, tt); told = refl; lists = refl }; on = inr (part, order, ungiven) }

  -- so in no honest run its member wrote it
  unwritten : (t : Trace) → ¬ (AreWrittenIn t (r ∷ []))
  unwritten t = refused_law (r ∷ []) (Foreign 0 0) t judged
