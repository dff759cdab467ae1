-- What is written is read.
use Rattle.std.proofs.Common.{◌≡◌, ℕ, ◌<◌, ◌≤◌, Bool, true, false, List, [], ◌∷◌, ◌++◌, length, refl, ap, sym, ◌∙◌, subst, arith, append_assoc, append-nil, lit<, Ok, Err}
use Rattle.std.specs.List.{AllByRecursion}
use Rattle.std.proofs.lemmas.Grind.{flat_map-append}
use Rattle.std.proofs.lemmas.List.{append_cancel_left}
use Rattle.std.proofs.lemmas.List.Elements.{filter_map-append}
use Rattle.std.proofs.lemmas.Option.{same_Some}
use Rattle.rand_pcg.specs.Lcg.{Lcg}
use Rattle.rand_pcg.specs.Pcg.{pcg64}
use Rattle.srm_names.specs.declared.limits.TheConstants.{LATEST_MOMENT, MEMBERS, PAGES}
use Rattle.srm_names.specs.declared.page_msg.PageMsg.{PageMsg}
use Rattle.srm_names.specs.Histories.{IsPrefix}
use Rattle.srm_names.proofs.Lists.{AllByRecursion-append, AllByRecursion-parts, AllByRecursion-snoc, front_itself}
use Rattle.srm_timers.specs.Seeds.{words_of}
use Rattle.srm_timers.specs.declared.arm.Arm.{Arm}
use Rattle.srm_timers.specs.Arms.{AreChosen}
use Rattle.srm_entries.specs.Configs.{Config}
use Rattle.srm_entries.specs.declared.entry.Entry.{Entry}
use Rattle.srm_entries.specs.Entries.{sent}
use Rattle.srm_entries.specs.Runs.{IsMemberRun}
use Rattle.srm_entries.specs.Timers.{low_of, high_of}
use Rattle.srm_entries.proofs.Cutting.{run_part}
use Rattle.srm_world.specs.declared.start.Start.{Start}
use Rattle.srm_world.specs.Traces.{Journal, IsHandable}
use Rattle.srm_world.specs.Claims.{IsLawfulJournal}
use Rattle.srm_world.specs.WaitWords.{AreByWords, arms_in}
use Rattle.srm_world.proofs.Lawful.{lawful_journal}
use Rattle.srm_replays.specs.Law.{RestsUnseen}
use Rattle.srm_frames.specs.declared.beginning.Beginning.{Beginning}
use Rattle.srm_frames.specs.declared.format.TheConstants.{BEGINNING_BYTES}
use Rattle.srm_frames.specs.declared.line.Line.{Line}
use Rattle.srm_frames.specs.declared.reading.Record.{Record}
use Rattle.srm_frames.specs.declared.reading.RecordEnd.{RecordEnd}
use Rattle.srm_frames.specs.declared.reading.RecordEnd.TheVariants.{Whole, Cut}
use Rattle.srm_frames.specs.Beginnings.{beginning_text}
use Rattle.srm_frames.specs.Lines.{lines_text}
use Rattle.srm_frames.specs.WhatIsRead.{IsBeginning, IsLine, HasFrame, has_end, RecordView, seen, IsRecordIn}
use Rattle.srm_record.specs.Calls.{line_of, lines_of}
use Rattle.srm_record.specs.Takes.{takes_at, end_at}
use Rattle.srm_record.specs.Records.{record_text, lines_so_far, last_of_record, lines_with_takes, whole_lines, whole_record}
use Rattle.srm_record.specs.Replays.{start_of, lines_told, IsRecordOf, IsSpelled}
use Rattle.srm_audited.specs.Sessions.{is_cut}
use Rattle.srm_audited.specs.Written.{IsRecorded, IsReadWhole, WrittenLaw, IsReadPart, CutLaw}
use Rattle.srm_audited.proofs.Fitting.{lines_fit, takes_fit, last_fits}
use Rattle.srm_audited.proofs.Cutting.{covers, no_line, open_lines, ended_lines, IsCutAt, cut_at, IsBehind, behind_beginning}
use Rattle.srm_audited.proofs.Telling.{ends_so, unended, IsSilent, IsTold, told_in, ended_in}

-- ---- the lines of a run

record AreWritten (b : Beginning) (j : Journal) (lists : List (List PageMsg)) : Type 0 where
  calls : AllByRecursion IsLine (lines_with_takes b j.entries lists)
  end : IsLine (end_at (last_of_record b j.entries))

all_fit : (b : Beginning) (j : Journal) (lists : List (List PageMsg)) → IsRecorded b j lists → AreWritten b j lists
all_fit b j lists is =
    let low : last_of_record b j.entries ≤ LATEST_MOMENT = last_fits b.made j.entries is.beginning.made is.lawful.handed in
    let in_roster = is.beginning.config.in_roster in
    let few = is.beginning.config.members in
    let mine : b.config.me < MEMBERS = omega (arith, in_roster, few) in
    let me : j.start.config.me < MEMBERS = subst (λ (s : Start). s.config.me < MEMBERS) (sym is.start) mine in
    record {
      calls =
          AllByRecursion-append IsLine (lines_so_far b j.entries) (takes_at (last_of_record b j.entries) lists)
          (lines_fit j.start.config j.start.made b.config.session [] j.entries is.lawful.run.each is.lawful.handed)
          (takes_fit j.start.config j.start.made j.entries (last_of_record b j.entries) lists me is.lawful.run.each is.lawful.handed low is.slots is.taken);
      end = record { moment = low; call = tt; size = lit< tt };
    }

lines_written : (b : Beginning) (j : Journal) (lists : List (List PageMsg)) → IsRecorded b j lists → AllByRecursion IsLine (whole_lines b j.entries lists)
lines_written b j lists is = let fit = all_fit b j lists is in AllByRecursion-snoc IsLine (lines_with_takes b j.entries lists) (end_at (last_of_record b j.entries)) fit.calls fit.end

-- ---- a record that is read

-- what is found of a view
record IsSeen (r : Record) (b : Beginning) (ls : List Line) (end : RecordEnd) : Type 0 where
  beginning : r.beginning ≡ b
  lines : r.lines.items ≡ ls
  ends : r.end ≡ end

is_seen : (r : Record) (b : Beginning) (ls : List Line) (end : RecordEnd) → seen r ≡ record { beginning = b; lines = ls; end = end } → IsSeen r b ls end
is_seen r b ls end is = record { beginning = ap (λ (v : RecordView). v.beginning) is; lines = ap (λ (v : RecordView). v.lines) is; ends = ap (λ (v : RecordView). v.end) is }

is_spelled : (r : Record) (b : Beginning) (ls : List Line) (end : RecordEnd) → IsSeen r b ls end → IsBeginning b → AllByRecursion IsLine ls → IsSpelled r
is_spelled r b ls end is began all = record { beginning = subst IsBeginning (sym is.beginning) began; lines = subst (AllByRecursion IsLine) (sym is.lines) all }

is_record : (r : Record) (b : Beginning) (ls : List Line) (end : RecordEnd) (k : Journal) (took : List (List PageMsg)) → IsSeen r b ls end → k.start ≡ start_of b → IsLawfulJournal k
    → ((to : Lcg) × AreByWords pcg64 k.start.config (words_of b.seed) k.entries to) → length took ≡ PAGES → ls ≡ lines_told b k.entries took end → IsRecordOf r k took
is_record r b ls end k took is start lawful words slots_so told = record {
  start = start ∙ ap start_of (sym is.beginning);
  lawful = lawful;
  words = subst (λ (x : Beginning). (to : Lcg) × AreByWords pcg64 k.start.config (words_of x.seed) k.entries to) (sym is.beginning) words;
  slots = slots_so;
  lines = is.lines ∙ told ∙ ap (λ (e : RecordEnd). lines_told b k.entries took e) (sym is.ends) ∙ ap (λ (x : Beginning). lines_told x k.entries took r.end) (sym is.beginning);
}

-- ---- the whole of it

written_in : (b : Beginning) (j : Journal) (lists : List (List PageMsg)) (bytes : List ℕ) → IsRecorded b j lists → bytes ≡ whole_record b j.entries lists
    → IsRecordIn bytes (record { beginning = b; lines = whole_lines b j.entries lists; end = Whole })
unfolding record_text
written_in b j lists bytes is text =
    let fit = all_fit b j lists is in
    let ls = lines_with_takes b j.entries lists in
    let end = end_at (last_of_record b j.entries) in
    record {
      rest = [];
      reads = record {
        text = text ∙ ap (λ w. beginning_text b ++ w) (sym (append-nil (lines_text (ls ++ end ∷ []))));
        beginning = is.beginning;
        lines = ended_lines ls end [] fit.calls (unended b j.entries lists) fit.end refl;
      };
      end = (ends_so ls end refl, refl);
    }

whole_read : (b : Beginning) (j : Journal) (lists : List (List PageMsg)) (r : Record) → IsRecorded b j lists → seen r ≡ record { beginning = b; lines = whole_lines b j.entries lists; end = Whole } → IsReadWhole b j lists r
whole_read b j lists r is found =
    let s = is_seen r b (whole_lines b j.entries lists) Whole found in
    record {
      beginning = s.beginning;
      of = is_record r b (whole_lines b j.entries lists) Whole j lists s is.start is.lawful is.words is.slots refl;
      spelled = is_spelled r b (whole_lines b j.entries lists) Whole s is.beginning (lines_written b j lists is);
      whole = s.ends;
    }

pub written_law : WrittenLaw
written_law b j lists bytes (Ok r) is text reads = whole_read b j lists r is (reads _ (written_in b j lists bytes is text))
written_law b j lists bytes (Err fault) is text reads = reads _ (written_in b j lists bytes is text)

-- ---- the record of a front

-- the random numbers of the first timers
chosen_first : {W : Type 0} (next_word : W → ℕ × W) (low high : Arm → ℕ) (from : W) (xs ys : List Arm) (to : W) → AreChosen next_word low high from (xs ++ ys) to → (mid : W) × AreChosen next_word low high from xs mid
chosen_first next_word low high from [] ys to chosen = (from, refl)
chosen_first next_word low high from (x ∷ xs) ys to chosen = let (mid, more) = chosen_first next_word low high (next_word from).1 xs ys to chosen.1 in (mid, (chosen.0, more))

words_first : (c : Config) (from : Lcg) (calls more : List Entry) → ((to : Lcg) × AreByWords pcg64 c from (calls ++ more) to) → (to : Lcg) × AreByWords pcg64 c from calls to
words_first c from calls more (to, words) =
    chosen_first pcg64 (low_of c) (high_of c) from (arms_in calls) (arms_in more) to (subst (λ arms. AreChosen pcg64 (low_of c) (high_of c) from arms to) (flat_map-append (λ (e : Entry). e.effects.arms) calls more) words)

lawful_first : (j : Journal) (calls : List Entry) → IsPrefix calls j.entries → IsLawfulJournal j → IsLawfulJournal (record { start = j.start; entries = calls })
lawful_first j calls (more, e) lawful =
    lawful_journal (record { start = j.start; entries = calls }) (record {
      run = run_part j.start.config j.start.made calls more (subst (IsMemberRun j.start.config j.start.made) (sym e) lawful.run);
      handed = (AllByRecursion-parts IsHandable calls more (subst (AllByRecursion IsHandable) (sym e) lawful.handed)).0;
    })

part_read : (b : Beginning) (j : Journal) (lists : List (List PageMsg)) (ls left : List Line) (n : ℕ) (r : Record) → IsRecorded b j lists → IsTold b j lists ls → ls ++ left ≡ whole_lines b j.entries lists
    → seen r ≡ record { beginning = b; lines = ls; end = Cut n } → IsReadPart b j lists r
part_read b j lists ls left n r is t parts found =
    let s = is_seen r b ls (Cut n) found in
    let k : Journal = record { start = j.start; entries = t.calls } in
    record {
      journal = k;
      took = t.took;
      beginning = s.beginning;
      of =
          is_record r b ls (Cut n) k t.took s is.start (lawful_first j t.calls t.front is.lawful)
          (words_first j.start.config (words_of b.seed) t.calls t.front.0 (subst (λ es. (to : Lcg) × AreByWords pcg64 j.start.config (words_of b.seed) es to) (sym t.front.1) is.words)) t.slots t.lines;
      start = refl;
      spelled = is_spelled r b ls (Cut n) s is.beginning (AllByRecursion-parts IsLine ls left (subst (AllByRecursion IsLine) (sym parts) (lines_written b j lists is))).0;
      front = t.front;
      whole = λ uncut. let cut : true ≡ false = ap is_cut (sym s.ends) ∙ uncut in absurd cc;
      taken = t.taken;
      fronts = t.fronts;
    }

pub all_read : (b : Beginning) (j : Journal) (lists : List (List PageMsg)) (r : Record) → IsRecorded b j lists → IsReadWhole b j lists r → IsReadPart b j lists r
all_read b j lists r is read = record {
  journal = j;
  took = lists;
  beginning = read.beginning;
  of = read.of;
  spelled = read.spelled;
  start = refl;
  front = front_itself j.entries;
  whole = λ _. refl;
  taken = is.taken;
  fronts = λ slot list all at there. subst (IsPrefix list) (same_Some list all (sym at ∙ there)) (front_itself list);
}

-- ---- what a front is read as

pub record_is : (b : Beginning) (ls : List Line) → record_text b ls ≡ beginning_text b ++ lines_text ls
unfolding record_text
record_is b ls = refl

-- the record that a front is
pub record IsReadAs (b : Beginning) (j : Journal) (lists : List (List PageMsg)) (bytes : List ℕ) : Type 0 where
  pub view : RecordView
  pub is : IsRecordIn bytes view
  pub part : (r : Record) → seen r ≡ view → IsReadPart b j lists r
  pub all_sent : (r : Record) (found : seen r ≡ view) (head tail : List Entry) (behind : List ℕ) → head ++ tail ≡ j.entries → AllByRecursion IsSilent tail → AllByRecursion RestsUnseen j.entries
      → bytes ≡ (beginning_text b ++ lines_text (lines_so_far b head)) ++ behind → sent j.entries ≡ sent (part r found).journal.entries

-- where the end is whole, the record is
ended_read : (b : Beginning) (j : Journal) (lists : List (List PageMsg)) (bytes : List ℕ) → IsRecorded b j lists → bytes ≡ whole_record b j.entries lists → IsReadAs b j lists bytes
unfolding all_read
ended_read b j lists bytes is text = record {
  view = record { beginning = b; lines = whole_lines b j.entries lists; end = Whole };
  is = written_in b j lists bytes is text;
  part = λ r found. all_read b j lists r is (whole_read b j lists r is found);
  all_sent = λ r found head tail behind parts silent unseen begins. refl;
}

-- else it is cut
cut_read : (b : Beginning) (j : Journal) (lists : List (List PageMsg)) (bytes rest : List ℕ) (ls left : List Line) → IsRecorded b j lists → has_end ls ≡ false → ls ++ left ≡ whole_lines b j.entries lists
    → bytes ≡ beginning_text b ++ (lines_text ls ++ rest) → (HasFrame rest → ⊥)
    → ((head tail : List Entry) (behind : List ℕ) → head ++ tail ≡ j.entries → bytes ≡ (beginning_text b ++ lines_text (lines_so_far b head)) ++ behind → IsPrefix (lines_so_far b head) ls) → IsReadAs b j lists bytes
unfolding part_read
cut_read b j lists bytes rest ls left is open_ parts text free has = record {
  view = record { beginning = b; lines = ls; end = Cut (length rest) };
  is = record {
    rest = rest;
    reads = record { text = text; beginning = is.beginning; lines = open_lines ls rest (AllByRecursion-parts IsLine ls left (subst (AllByRecursion IsLine) (sym parts) (lines_written b j lists is))).0 open_ (no_line rest free) };
    end = (open_, refl, free);
  };
  part = λ r found. part_read b j lists ls left (length rest) r is (told_in b j lists ls left is open_ parts) parts found;
  all_sent = λ r found head tail behind calls silent unseen begins. (told_in b j lists ls left is open_ parts).all_sent head tail calls silent unseen (has head tail behind calls begins);
}

pub read_as : (b : Beginning) (j : Journal) (lists : List (List PageMsg)) (bytes : List ℕ) → IsRecorded b j lists → IsPrefix bytes (whole_record b j.entries lists) → BEGINNING_BYTES ≤ length bytes → IsReadAs b j lists bytes
read_as b j lists bytes is front long =
    let all = whole_lines b j.entries lists in
    let h = behind_beginning b bytes front.0 (lines_text all) long (front.1 ∙ record_is b all) in
    let cut = cut_at all h.behind front.0 (lines_written b j lists is) h.rest in
    go h cut (has_end cut.lines) refl
  where
    all_of : (head tail : List Entry) → head ++ tail ≡ j.entries
        → lines_so_far b head ++ (lines_of b.config.session tail ++ (takes_at (last_of_record b j.entries) lists ++ end_at (last_of_record b j.entries) ∷ [])) ≡ whole_lines b j.entries lists
    all_of head tail calls =
        let session = b.config.session in
        let takes = takes_at (last_of_record b j.entries) lists in
        let end = end_at (last_of_record b j.entries) ∷ [] in
        sym (append_assoc (lines_of session head) (lines_of session tail) (takes ++ end))
        ∙ ap (λ w. w ++ (takes ++ end)) (sym (filter_map-append (line_of session) head tail) ∙ ap (lines_of session) calls)
        ∙ sym (append_assoc (lines_of session j.entries) takes end)

    go : (h : IsBehind b bytes front.0 (lines_text (whole_lines b j.entries lists))) (cut : IsCutAt (whole_lines b j.entries lists) h.behind) (ended : Bool) → has_end cut.lines ≡ ended → IsReadAs b j lists bytes
    go h cut true ended =
        let left : cut.left ≡ [] = ended_in b j lists cut.lines cut.left ended cut.parts in
        let lines : cut.lines ≡ whole_lines b j.entries lists = sym (append-nil cut.lines) ∙ ap (λ w. cut.lines ++ w) (sym left) ∙ cut.parts in
        ended_read b j lists bytes is
        (h.parts ∙ ap (λ w. beginning_text b ++ w) (cut.text ∙ ap (λ w. lines_text cut.lines ++ w) (cut.none left) ∙ append-nil (lines_text cut.lines) ∙ ap lines_text lines)
        ∙ sym (record_is b (whole_lines b j.entries lists)))
    go h cut false open_ = cut_read b j lists bytes cut.rest cut.lines cut.left is open_ cut.parts (h.parts ∙ ap (λ w. beginning_text b ++ w) cut.text) cut.free
        (λ head tail behind calls begins.
        covers (whole_lines b j.entries lists) h.behind cut (lines_so_far b head) (lines_of b.config.session tail ++ (takes_at (last_of_record b j.entries) lists ++ end_at (last_of_record b j.entries) ∷ [])) behind
        (lines_written b j lists is) (all_of head tail calls)
        (append_cancel_left (beginning_text b) h.behind (lines_text (lines_so_far b head) ++ behind) (sym h.parts ∙ begins ∙ append_assoc (beginning_text b) (lines_text (lines_so_far b head)) behind)))

pub cut_law : CutLaw
cut_law b j lists bytes (Ok r) is front long reads = let k = read_as b j lists bytes is front long in k.part r (reads k.view k.is)
cut_law b j lists bytes (Err fault) is front long reads = let k = read_as b j lists bytes is front long in reads k.view k.is
