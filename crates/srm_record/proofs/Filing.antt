-- A file that a record is written to, call by call.
use Rattle.std.proofs.Common.{◌≡◌, ℕ, ◌+◌, ◌<◌, ◌≤◌, Bool, true, false, List, [], ◌∷◌, ◌++◌, length, Option, Some, None, refl, sym, ap, subst, ◌∙◌, append_assoc, append-nil, length-append, arith}
use Rattle.std.specs.Prelude.{if◌then◌else◌}
use Rattle.std.specs.List.{cons_option}
use Rattle.std.proofs.lemmas.Grind.{flat_map-append}
use Rattle.std.proofs.lemmas.List.Elements.{filter_map-append}
use Rattle.std.specs.Io.KnownBytes.{Appends}
use Rattle.std.proofs.KnownBytes.{Appends-nil, Appends-trans}
use Rattle.srm_names.specs.Histories.{since}
use Rattle.srm_names.proofs.Snoc.{since-snoc}
use Rattle.srm_entries.specs.declared.entry.Entry.{Entry}
use Rattle.srm_frames.specs.declared.beginning.Beginning.{Beginning}
use Rattle.srm_frames.specs.declared.line.Line.{Line}
use Rattle.srm_frames.specs.Beginnings.{beginning_text}
use Rattle.srm_record.specs.Calls.{line_of, lines_of, last_after}
use Rattle.srm_frames.specs.Lines.{line_text, lines_text}
use Rattle.srm_record.specs.Records.{record_text, record_of, last_of_record}
use Rattle.srm_output.specs.Writing.{AppendsAllBut, AppendsFront}
use Rattle.srm_record.specs.Writing.{FileView, HasText, HasRecord, Stays, Adds, Writes, WritesIf, Notes, NotesIn, IsWritten, sends, text_if, call_text, text_since_sending}
use Rattle.srm_record.specs.declared.record_file.TheConstants.{MOST_WAITING}
use Rattle.srm_record.proofs.Snocs.{last_recorded-snoc}
use Rattle.srm_output.proofs.Gathered.{none_of_all, front_of_none, front_of_some, front_of_more, all_but_on, front_on}

-- all of a text waits at first
pub starts : (v : FileView) (text : List ℕ) → v.now ≡ v.first → (v.failed ≡ false → v.waiting ≡ text) → HasText v text
starts v text same waits = record {
  whole = λ works. subst (λ (now : Option (List ℕ)). AppendsAllBut v.first now text v.waiting) (sym same)
      (subst (AppendsAllBut v.first v.first text) (sym (waits works)) (none_of_all v.first text));
  front = subst (λ (now : Option (List ℕ)). AppendsFront v.first now text) (sym same) (front_of_none v.first text);
}

-- the same of a file that was just made
pub starts_as : (v : FileView) (b : Beginning) (held : Option (List ℕ)) (waiting : List ℕ) (last : ℕ) (failed : Bool) (text : List ℕ)
    → v ≡ record { beginning = b; first = held; now = held; waiting = waiting; last = last; failed = failed } → (failed ≡ false → waiting ≡ text) → HasText v text
starts_as v b held waiting last failed text is waits =
    starts v text (ap (λ (x : FileView). x.now) is ∙ sym (ap (λ (x : FileView). x.first) is))
    (λ fine. ap (λ (x : FileView). x.waiting) is ∙ waits (sym (ap (λ (x : FileView). x.failed) is) ∙ fine))

-- the text is seen of what the file took, what waits and whether it failed alone
same_text : (old new : FileView) (text : List ℕ) → new.first ≡ old.first → new.now ≡ old.now → new.waiting ≡ old.waiting → new.failed ≡ old.failed → HasText old text → HasText new text
same_text old new text first now waiting failed has = record {
  whole = λ fine.
      subst (λ (a : Option (List ℕ)). AppendsAllBut a new.now text new.waiting) (sym first)
      (subst (λ (b : Option (List ℕ)). AppendsAllBut old.first b text new.waiting) (sym now)
      (subst (AppendsAllBut old.first old.now text) (sym waiting) (has.whole (sym failed ∙ fine))));
  front = subst (λ (a : Option (List ℕ)). AppendsFront a new.now text) (sym first) (subst (λ (b : Option (List ℕ)). AppendsFront old.first b text) (sym now) has.front);
}

clash : {A : Type 0} (b : Bool) → b ≡ true → b ≡ false → A
clash b t f = absurd cc

-- something failed: the file still has a front
broken : (old new : FileView) (text : List ℕ) → new.failed ≡ true → new.first ≡ old.first → AppendsFront old.first new.now text → HasText new text
broken old new text failed first front = record {
  whole = λ fine. clash new.failed failed fine;
  front = subst (λ (a : Option (List ℕ)). AppendsFront a new.now text) (sym first) front;
}

-- nothing is put where something failed before
pub puts_none : (v : FileView) (bytes : List ℕ) → v.failed ≡ true → Adds v v bytes
puts_none v bytes failed = record {
  beginning = refl;
  first = refl;
  now = refl;
  last = refl;
  text = λ text has. broken v v (text ++ bytes) failed refl (front_of_more v.first v.now text bytes has.front);
  works = λ fine. fine;
  waits = λ fine. clash v.failed failed fine;
}

pub puts : (old new : FileView) (bytes : List ℕ) → new.beginning ≡ old.beginning → new.first ≡ old.first → new.last ≡ old.last → new.now ≡ old.now → new.failed ≡ old.failed
    → new.waiting ≡ old.waiting ++ bytes → Adds old new bytes
puts old new bytes beginning first last now failed waiting = record {
  beginning = beginning;
  first = first;
  now = now;
  last = last;
  text = λ text has. record {
    whole = λ fine. (let x = has.whole (sym failed ∙ fine) in
        record {
          front = x.front;
          parts = ap (λ (behind : List ℕ). x.front ++ behind) waiting ∙ sym (append_assoc x.front old.waiting bytes) ∙ ap (λ (whole : List ℕ). whole ++ bytes) x.parts;
          output = subst (λ (a : Option (List ℕ)). Appends a new.now x.front) (sym first) (subst (λ (b : Option (List ℕ)). Appends old.first b x.front) (sym now) x.output);
        });
    front = subst (λ (a : Option (List ℕ)). AppendsFront a new.now (text ++ bytes)) (sym first)
        (subst (λ (b : Option (List ℕ)). AppendsFront old.first b (text ++ bytes)) (sym now) (front_of_more old.first old.now text bytes has.front));
  };
  works = λ fine. sym failed ∙ fine;
  waits = λ fine. omega (arith, length-append old.waiting bytes, ap length waiting);
}

-- there was no memory for them
pub breaks : (old new : FileView) (bytes : List ℕ) → new.beginning ≡ old.beginning → new.first ≡ old.first → new.last ≡ old.last → new.now ≡ old.now → new.failed ≡ true → Adds old new bytes
breaks old new bytes beginning first last now failed = record {
  beginning = beginning;
  first = first;
  now = now;
  last = last;
  text = λ text has. broken old new (text ++ bytes) failed first (subst (λ (b : Option (List ℕ)). AppendsFront old.first b (text ++ bytes)) (sym now) (front_of_more old.first old.now text bytes has.front));
  works = λ fine. clash new.failed failed fine;
  waits = λ fine. clash new.failed failed fine;
}

-- all that waited was written
pub wrote_all : (a b c : Option (List ℕ)) (text behind : List ℕ) → AppendsAllBut a b text behind → AppendsAllBut b c behind [] → AppendsAllBut a c text []
wrote_all a b c text behind x y =
    subst (λ (whole : List ℕ). AppendsAllBut a c whole []) (append-nil text)
    (all_but_on a b c text behind [] [] x (subst (λ (more : List ℕ). AppendsAllBut b c more []) (sym (append-nil behind)) y))

pub wrote_front : (a b c : Option (List ℕ)) (text behind : List ℕ) → AppendsAllBut a b text behind → AppendsFront b c behind → AppendsFront a c text
wrote_front a b c text behind x y =
    subst (AppendsFront a c) (append-nil text) (front_on a b c text behind [] x (subst (AppendsFront b c) (sym (append-nil behind)) y))

-- ---- what stands in the file stays

pub stays_so : (a : Option (List ℕ)) → Stays a a
stays_so a = ([], Appends-nil a)

pub stays_on : (a b c : Option (List ℕ)) → Stays a b → Stays b c → Stays a c
stays_on a b c (x, first) (y, second) = (x ++ y, Appends-trans a b c x y first second)

-- what waits is written
pub writes_none : (v : FileView) → v.failed ≡ true → Writes v v
writes_none v failed = record {
  beginning = refl;
  first = refl;
  now = stays_so v.now;
  last = refl;
  text = λ text has. has;
  works = λ fine. fine;
  none_waits = λ fine. clash v.failed failed fine;
}

pub writes_all : (old new : FileView) → new.beginning ≡ old.beginning → new.first ≡ old.first → new.last ≡ old.last → old.failed ≡ false → new.waiting ≡ []
    → AppendsAllBut old.now new.now old.waiting [] → Writes old new
writes_all old new beginning first last fine none wrote = record {
  beginning = beginning;
  first = first;
  now = (wrote.front, wrote.output);
  last = last;
  text = λ text has. (
      let all = wrote_all old.first old.now new.now text old.waiting (has.whole fine) wrote in
      let seen : AppendsAllBut new.first new.now text [] = subst (λ (a : Option (List ℕ)). AppendsAllBut a new.now text []) (sym first) all in
      record {
        whole = λ _. subst (AppendsAllBut new.first new.now text) (sym none) seen;
        front = front_of_some new.first new.now text [] seen;
      });
  works = λ _. fine;
  none_waits = λ _. none;
}

pub writes_front : (old new : FileView) → new.beginning ≡ old.beginning → new.first ≡ old.first → new.last ≡ old.last → old.failed ≡ false → new.failed ≡ true
    → AppendsFront old.now new.now old.waiting → Writes old new
writes_front old new beginning first last fine failed wrote = record {
  beginning = beginning;
  first = first;
  now = (wrote.most.front, wrote.most.output);
  last = last;
  text = λ text has. broken old new text failed first (wrote_front old.first old.now new.now text old.waiting (has.whole fine) wrote);
  works = λ _. fine;
  none_waits = λ works. clash new.failed failed works;
}

pub writes_now : (old new : FileView) (e : Entry) → Writes old new → WritesIf old new e
writes_now old new e writes = record {
  beginning = writes.beginning;
  first = writes.first;
  last = writes.last;
  text = writes.text;
  works = writes.works;
  waits = λ fine. rw (writes.none_waits fine) (omega arith);
  few = λ fine. rw (writes.none_waits fine) (omega arith);
  sent = λ fine _. writes.none_waits fine;
}

pub writes_later : (v : FileView) (e : Entry) (due : Bool) → (sends e ≡ true → due ≡ true) → (due ≡ false → length v.waiting < MOST_WAITING) → due ≡ false → WritesIf v v e
writes_later v e due must few late = record {
  beginning = refl;
  first = refl;
  last = refl;
  text = λ text has. has;
  works = λ fine. fine;
  waits = λ fine. omega arith;
  few = λ fine. few late;
  sent = λ fine sent. clash due (must sent) late;
}

-- the file of a member that did nothing yet
pub begun : (old new : FileView) (b : Beginning) → old.beginning ≡ b → old.last ≡ b.made → HasText old (beginning_text b) → Writes old new → HasRecord new []
unfolding record_text
begun old new b is last has writes = record {
  text = subst (λ (x : Beginning). HasText new (beginning_text x ++ [])) (sym (writes.beginning ∙ is)) (subst (HasText new) (sym (append-nil (beginning_text b))) (writes.text (beginning_text b) has));
  waits = λ fine. rw (writes.none_waits fine) (omega arith);
  few = λ fine. rw (writes.none_waits fine) (omega arith);
  last = writes.last ∙ last ∙ ap (λ (x : Beginning). x.made) (sym (writes.beginning ∙ is));
}

-- ---- one call more

text_of_some : (o : Option Line) → lines_text (cons_option o []) ≡ text_if o
text_of_some None = refl
text_of_some (Some l) = append-nil (line_text l)

lines_text-snoc : (s : ℕ) (es : List Entry) (e : Entry) → lines_text (lines_of s (es ++ e ∷ [])) ≡ lines_text (lines_of s es) ++ call_text s e
lines_text-snoc s es e =
    ap lines_text (filter_map-append (line_of s) es (e ∷ []))
    ∙ flat_map-append line_text (lines_of s es) (cons_option (line_of s e) [])
    ∙ ap (λ (bytes : List ℕ). lines_text (lines_of s es) ++ bytes) (text_of_some (line_of s e))

pub record_of-snoc : (b : Beginning) (es : List Entry) (e : Entry)
    → record_of b (es ++ e ∷ []) ≡ record_of b es ++ call_text b.config.session e
unfolding record_text
record_of-snoc b es e =
    ap (λ (bytes : List ℕ). beginning_text b ++ bytes) (lines_text-snoc b.config.session es e)
    ∙ sym (append_assoc (beginning_text b) (lines_text (lines_of b.config.session es)) (call_text b.config.session e))

chosen : (s : ℕ) (now : Bool) (before : List Entry) (e : Entry)
    → lines_text (lines_of s (if now then [] else before ++ e ∷ [])) ≡ (if now then [] else lines_text (lines_of s before) ++ call_text s e)
chosen s true before e = refl
chosen s false before e = lines_text-snoc s before e

since_sending-snoc : (b : Beginning) (es : List Entry) (e : Entry)
    → text_since_sending b (es ++ e ∷ []) ≡ (if sends e then [] else text_since_sending b es ++ call_text b.config.session e)
since_sending-snoc b es e =
    ap (λ (fs : List Entry). lines_text (lines_of b.config.session fs)) (since-snoc sends es e)
    ∙ chosen b.config.session (sends e) (since sends es) e

-- what waits behind a call, by whether it sends
waits_still : (sent : Bool) (new before more : List ℕ) (limit : ℕ) → (sent ≡ true → new ≡ []) → length new ≤ limit + length more → limit ≤ length before
    → length new ≤ length (if sent then [] else before ++ more)
waits_still true new before more limit none few most = rw (none refl) (omega arith)
waits_still false new before more limit none few most = omega (arith, length-append before more)

pub goes_on : (old new : FileView) (e : Entry) → new.beginning ≡ old.beginning → new.first ≡ old.first → new.last ≡ last_after old.last e
    → ((text : List ℕ) → HasText old text → HasText new (text ++ call_text old.beginning.config.session e))
    → (new.failed ≡ false → old.failed ≡ false) → (new.failed ≡ false → sends e ≡ true → new.waiting ≡ [])
    → (new.failed ≡ false → length new.waiting ≤ length old.waiting + length (call_text old.beginning.config.session e))
    → (new.failed ≡ false → length new.waiting < MOST_WAITING)
    → Notes old new e
goes_on old new e beginning first last text works none more few = record {
  beginning = beginning;
  first = first;
  record_goes_on = λ es has. (
      let b = old.beginning in
      let s = b.config.session in
      let longer : record_of b es ++ call_text s e ≡ record_of new.beginning (es ++ e ∷ []) =
      sym (record_of-snoc b es e) ∙ ap (λ (x : Beginning). record_of x (es ++ e ∷ [])) (sym beginning) in
      record {
        text = subst (HasText new) longer (text (record_of b es) has.text);
        waits = λ fine. (
            let all : length new.waiting ≤ length (if sends e then [] else text_since_sending b es ++ call_text s e) =
            waits_still (sends e) new.waiting (text_since_sending b es) (call_text s e) (length old.waiting) (none fine) (more fine) (has.waits (works fine)) in
            subst (λ (bytes : List ℕ). length new.waiting ≤ length bytes) (sym (since_sending-snoc b es e) ∙ ap (λ (x : Beginning). text_since_sending x (es ++ e ∷ [])) (sym beginning)) all);
        few = few;
        last = last ∙ ap (λ (l : ℕ). last_after l e) has.last ∙ sym (last_recorded-snoc b.made es e) ∙ ap (λ (x : Beginning). last_of_record x (es ++ e ∷ [])) (sym beginning);
      });
}

pub noted : (old mid new : FileView) (e : Entry) (last : ℕ) → Adds old mid (call_text old.beginning.config.session e) → WritesIf mid new e → last ≡ last_after new.last e
    → Notes old (record new { last = last }) e
noted old mid new e last adds writes is =
    goes_on old (record new { last = last }) e (writes.beginning ∙ adds.beginning) (writes.first ∙ adds.first) (is ∙ ap (λ (l : ℕ). last_after l e) (writes.last ∙ adds.last))
    (λ text has. same_text new (record new { last = last }) _ refl refl refl refl (writes.text _ (adds.text text has)))
    (λ fine. adds.works (writes.works fine))
    (λ fine sent. writes.sent fine sent)
    (λ fine. omega (arith, writes.waits fine, adds.waits (writes.works fine)))
    (λ fine. writes.few fine)

-- ---- a file that may be there

pub written_at_first : (es : List Entry) (v : FileView) → es ≡ [] → HasRecord v [] → HasRecord v es
written_at_first es v none has = subst (HasRecord v) (sym none) has

pub written_on : (es fs : List Entry) (e : Entry) (old new : Option FileView) → IsWritten es old → NotesIn old new e → fs ≡ es ++ e ∷ [] → IsWritten fs new
written_on es fs e None None written notes same = tt
written_on es fs e None (Some v) written notes same = absurd notes
written_on es fs e (Some u) None written notes same = absurd notes
written_on es fs e (Some u) (Some v) written notes same = subst (HasRecord v) (sym same) (notes.record_goes_on es written)
