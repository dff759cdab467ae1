-- The records that are read of the files of a run's members are written in it.
use Rattle.std.proofs.Common.{◌≡◌, ℕ, ◌+◌, ◌≤◌, Bool, true, false, List, [], ◌∷◌, ◌++◌, length, refl, ap, sym, ◌∙◌, subst, inl, inr, arith, append_assoc, length-append, Ok, Err}
use Rattle.std.specs.Prelude.{Option, Some, None, ◌||◌, not, if◌then◌else◌, Contains}
use Rattle.std.specs.List.{AllByRecursion, list_any}
use Rattle.std.specs.Io.KnownBytes.{Appends}
use Rattle.std.proofs.lemmas.Grind.{flat_map-append}
use Rattle.std.proofs.lemmas.List.Elements.{filter-append, filter_map-append}
use Rattle.srm_names.specs.declared.page_msg.PageMsg.{PageMsg}
use Rattle.srm_names.specs.Histories.{IsPrefix, since}
use Rattle.srm_codec.specs.declared.datagram.Datagram.{Datagram}
use Rattle.srm_entries.specs.declared.entry.Entry.{Entry}
use Rattle.srm_entries.specs.Entries.{sent}
use Rattle.srm_world.specs.declared.start.Start.{Start}
use Rattle.srm_world.specs.Traces.{Trace, Journal, of_member}
use Rattle.srm_replays.specs.Calls.{acts, is_empty}
use Rattle.srm_replays.specs.Law.{acting, RestsUnseen}
use Rattle.srm_replays.proofs.Unseen.{unseen_law}
use Rattle.srm_frames.specs.declared.beginning.Beginning.{Beginning}
use Rattle.srm_frames.specs.declared.format.TheConstants.{BEGINNING_BYTES}
use Rattle.srm_frames.specs.declared.reading.Record.{Record}
use Rattle.srm_frames.specs.Beginnings.{beginning_text}
use Rattle.srm_frames.specs.Lines.{line_text, lines_text}
use Rattle.srm_record.specs.Calls.{line_of, lines_of}
use Rattle.srm_record.specs.Takes.{takes_at, end_at}
use Rattle.srm_record.specs.Records.{record_of, lines_so_far, last_of_record, whole_lines, whole_record}
use Rattle.srm_record.specs.Writing.{sends}
use Rattle.srm_gaps.proofs.Exactly.{sent_acting, unseen_of_member}
use Rattle.srm_gaps.proofs.Retelling.{unseen_in_run}
use Rattle.srm_audited.specs.Writers.{IsWrittenWhole}
use Rattle.srm_audited.specs.Written.{IsRecorded, IsReadingOf, IsReadPart, DidInRun, CutFilesLaw, text_behind_calls, IsFileOf, KeptLaw, EndedLaw, FilesLaw}
use Rattle.srm_audited.proofs.Fronts.{Holds, fronts}
use Rattle.srm_audited.proofs.Cutting.{empty, begins_long}
use Rattle.srm_audited.proofs.Telling.{IsSilent}
use Rattle.srm_audited.proofs.Written.{IsReadAs, read_as, record_is}

acting_first : (calls es : List Entry) → IsPrefix calls es → IsPrefix (acting calls) (acting es)
acting_first calls es (more, e) = (acting more, sym (filter-append acts calls more) ∙ ap acting e)

pub cut_files_law : CutFilesLaw
cut_files_law t b j lists r played part =
    let did : acting (of_member part.journal.start.config.me t.entries) ≡ acting j.entries = ap (λ (s : Start). acting (of_member s.config.me t.entries)) part.start ∙ played.did in
    record {
      journal = part.journal;
      lists = part.took;
      spelled = part.spelled;
      of = part.of;
      began = subst (Contains t.starts) (sym part.start) played.began;
      front = subst (IsPrefix (acting part.journal.entries)) (sym did) (acting_first part.journal.entries j.entries part.front);
      whole = λ uncut. did ∙ ap acting (sym (part.whole uncut));
      taken = part.taken;
    }

-- ---- what a file has

none_passes : {X : Type 0} (p : X → Bool) (xs : List X) → list_any p xs ≡ false → AllByRecursion (λ x. p x ≡ false) xs
none_passes p [] e = tt
none_passes p (x ∷ xs) e = go (p x) refl e (none_passes p xs)
  where
    go : (b : Bool) → p x ≡ b → (b || list_any p xs) ≡ false → (list_any p xs ≡ false → AllByRecursion (λ x. p x ≡ false) xs) → (p x ≡ false) × AllByRecursion (λ x. p x ≡ false) xs
    go true q f more = absurd cc
    go false q f more = (q, more f)

-- the elements up to the last one that passes, and those behind it
record IsSplit {X : Type 0} (p : X → Bool) (xs behind : List X) : Type 0 where
  head : List X
  parts : head ++ behind ≡ xs
  none : AllByRecursion (λ x. p x ≡ false) behind

split_since : {X : Type 0} (p : X → Bool) (xs : List X) → IsSplit p xs (since p xs)
split_since p [] = record { head = []; parts = refl; none = tt }
split_since p (x ∷ xs) = go (list_any p xs) refl (p x) refl (split_since p xs)
  where
    go : (any : Bool) → list_any p xs ≡ any → (here : Bool) → p x ≡ here → IsSplit p xs (since p xs) → IsSplit p (x ∷ xs) (if any then since p xs else if here then xs else x ∷ xs)
    go true e here q more = record { head = x ∷ more.head; parts = ap (λ w. x ∷ w) more.parts; none = more.none }
    go false e true q more = record { head = x ∷ []; parts = refl; none = none_passes p xs e }
    go false e false q more = record { head = []; parts = refl; none = (q, none_passes p xs e) }

silent_each : (es : List Entry) → AllByRecursion (λ (e : Entry). sends e ≡ false) es → AllByRecursion IsSilent es
silent_each [] all = tt
silent_each (e ∷ es) all = (silent e.effects.outs all.0, silent_each es all.1)
  where
    silent : (gs : List Datagram) → not (is_empty gs) ≡ false → gs ≡ []
    silent [] h = refl
    silent (g ∷ gs) h = cc

-- the record of calls is a front of a whole one

pub behind_calls : (b : Beginning) (es : List Entry) (lists : List (List PageMsg)) → whole_record b es lists ≡ record_of b es ++ text_behind_calls b es lists
behind_calls b es lists =
    let so_far = lines_so_far b es in
    let takes = takes_at (last_of_record b es) lists in
    let end = end_at (last_of_record b es) ∷ [] in
    record_is b (whole_lines b es lists) ∙ ap (λ w. beginning_text b ++ w) (ap lines_text (append_assoc so_far takes end) ∙ flat_map-append line_text so_far (takes ++ end))
    ∙ sym (append_assoc (beginning_text b) (lines_text so_far) (text_behind_calls b es lists)) ∙ ap (λ w. w ++ text_behind_calls b es lists) (sym (record_is b so_far))

more_missing : (b : Beginning) (es : List Entry) (lists : List (List PageMsg)) (bytes missing : List ℕ) → bytes ++ missing ≡ record_of b es → bytes ++ (missing ++ text_behind_calls b es lists) ≡ whole_record b es lists
more_missing b es lists bytes missing e =
    sym (append_assoc bytes missing (text_behind_calls b es lists)) ∙ ap (λ w. w ++ text_behind_calls b es lists) e ∙ sym (behind_calls b es lists)

-- what a file took that was empty
took : (first now : Option (List ℕ)) (bytes front : List ℕ) → first ≡ Some [] → now ≡ Some bytes → Appends first now front → bytes ≡ front
took first now bytes front e f appends = subst (λ o. Appends (Some []) o front) f (subst (λ o. Appends o now front) e appends)

pub kept_law : KeptLaw
kept_law v es lists bytes has first now =
    let part = has.text.front in
    let behind = text_behind_calls v.beginning es lists in (
      λ works. let all = has.text.whole works in record {
        missing = v.waiting ++ behind;
        parts = more_missing v.beginning es lists bytes v.waiting (ap (λ w. w ++ v.waiting) (took v.first v.now bytes all.front first now all.output) ∙ all.parts);
        few = omega (arith, has.waits works, length-append v.waiting behind);
      },
      (part.behind ++ behind, more_missing v.beginning es lists bytes part.behind (ap (λ w. w ++ part.behind) (took v.first v.now bytes part.most.front first now part.most.output) ∙ part.most.parts)),
    )

pub ended_law : EndedLaw
ended_law v es lists bytes has works first stays front = go v.now refl
  where
    go : (o : Option (List ℕ)) → v.now ≡ o → IsFileOf v.beginning es lists bytes
    go None none = let all = has.text.whole works in absurd (subst (λ o. Appends (Some []) o all.front) none (subst (λ o. Appends o v.now all.front) first all.output))
    go (Some before) now =
        let kept = (kept_law v es lists before has first now).0 works in
        let parts : bytes ++ front.behind ≡ whole_record v.beginning es lists = ap (λ w. w ++ front.behind) (took v.first (Some bytes) bytes front.most.front first refl front.most.output) ∙ front.most.parts in
        let more : bytes ≡ before ++ stays.0 = subst (λ o. Appends o (Some bytes) stays.0) now stays.1 in
        let same : length before + length kept.missing ≡ length bytes + length front.behind =
        sym (length-append before kept.missing) ∙ ap length (kept.parts ∙ sym parts) ∙ length-append bytes front.behind in
        record {
          missing = front.behind;
          parts = parts;
          few = omega (arith, kept.few, same, ap length more, length-append before stays.0);
        }

-- the calls up to the last one that sends are in the file
record HasSending (b : Beginning) (j : Journal) (lists : List (List PageMsg)) (bytes : List ℕ) : Type 0 where
  head : List Entry
  tail : List Entry
  calls : head ++ tail ≡ j.entries
  silent : AllByRecursion IsSilent tail
  behind : List ℕ
  text : bytes ≡ (beginning_text b ++ lines_text (lines_so_far b head)) ++ behind
  front : IsPrefix bytes (whole_record b j.entries lists)

has_sending : (b : Beginning) (j : Journal) (lists : List (List PageMsg)) (bytes : List ℕ) → IsFileOf b j.entries lists bytes → HasSending b j lists bytes
has_sending b j lists bytes file =
    let s = split_since sends j.entries in
    let tail = since sends j.entries in
    let session = b.config.session in
    let first = beginning_text b ++ lines_text (lines_of session s.head) in
    let last = lines_text (lines_of session tail) in
    let behind = text_behind_calls b j.entries lists in
    let both : lines_text (lines_of session j.entries) ≡ lines_text (lines_of session s.head) ++ last =
    ap (λ es. lines_text (lines_of session es)) (sym s.parts) ∙ ap lines_text (filter_map-append (line_of session) s.head tail) ∙ flat_map-append line_text (lines_of session s.head) (lines_of session tail) in
    let calls : record_of b j.entries ≡ first ++ last = record_is b (lines_so_far b j.entries) ∙ ap (λ w. beginning_text b ++ w) both ∙ sym (append_assoc (beginning_text b) (lines_text (lines_of session s.head)) last) in
    let halves : bytes ++ file.missing ≡ first ++ (last ++ behind) = file.parts ∙ behind_calls b j.entries lists ∙ ap (λ w. w ++ behind) calls ∙ append_assoc first last behind in
    let few : length file.missing ≤ length (last ++ behind) = omega (arith, file.few, length-append last behind) in
    let h = long_enough bytes file.missing first (last ++ behind) few halves in
    record {
      head = s.head;
      tail = tail;
      calls = s.parts;
      silent = silent_each tail s.none;
      behind = h.more;
      text = h.front;
      front = (file.missing, file.parts);
    }
  where
    long_enough : (xs missing first last : List ℕ) → length missing ≤ length last → xs ++ missing ≡ first ++ last → Holds xs missing first last
    long_enough xs missing first last few e = elim (fronts xs missing first last e) [
      | inl h ↦ h
      | inr s ↦
          (let all : length xs + length missing ≡ length first + length last = sym (length-append xs missing) ∙ ap length e ∙ length-append first last in
          let part : length first ≡ length xs + length s.more = ap length s.front ∙ length-append xs s.more in
          absurd (s.some (empty s.more (omega (arith, all, part, few)))))
    ]

-- ---- the law

module _ (t : Trace) (b : Beginning) (j : Journal) (lists : List (List PageMsg)) (bytes : List ℕ) (played : DidInRun t j) (is : IsRecorded b j lists) where
  long : HasSending b j lists bytes → BEGINNING_BYTES ≤ length bytes
  long has =
      let all : length bytes ≡ length (beginning_text b) + length (lines_text (lines_so_far b has.head)) + length has.behind =
      ap length has.text ∙ length-append (beginning_text b ++ lines_text (lines_so_far b has.head)) has.behind
      ∙ ap (λ n. n + length has.behind) (length-append (beginning_text b) (lines_text (lines_so_far b has.head))) in
      omega (arith, all, begins_long b)

  cut_off : (has : HasSending b j lists bytes) → IsReadAs b j lists bytes
  cut_off has = read_as b j lists bytes is has.front (long has)

  unseen : AllByRecursion RestsUnseen j.entries
  unseen = unseen_law j.start.config j.start.made j.entries is.lawful.run

  also_unseen : (m : ℕ) → AllByRecursion RestsUnseen (of_member m t.entries)
  also_unseen m = unseen_of_member m t.entries (unseen_in_run t played.run)

  kept : (r : Record) → HasSending b j lists bytes → IsReadingOf bytes (Ok r) → IsWrittenWhole t r × (r.beginning ≡ b)
  unfolding cut_files_law
  kept r has reads =
      let k = cut_off has in
      let found = reads k.view k.is in
      let part : IsReadPart b j lists r = k.part r found in
      let me = part.journal.start.config.me in
      let did : acting (of_member me t.entries) ≡ acting j.entries = ap (λ (s : Start). acting (of_member s.config.me t.entries)) part.start ∙ played.did in (
        record {
          written = cut_files_law t b j lists r played part;
          silent = λ _.
              sym (sent_acting (of_member me t.entries) (also_unseen me)) ∙ ap sent did ∙ sent_acting j.entries unseen
              ∙ k.all_sent r found has.head has.tail has.behind has.calls has.silent unseen has.text;
        },
        part.beginning,
      )

pub files_law : FilesLaw
files_law t b j lists bytes (Ok r) played is file reads = kept t b j lists bytes played is r (has_sending b j lists bytes file) reads
files_law t b j lists bytes (Err fault) played is file reads = let k = cut_off t b j lists bytes played is (has_sending b j lists bytes file) in reads k.view k.is
