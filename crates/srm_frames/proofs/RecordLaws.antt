-- A record is read as it is written, and in one way only.
use Rattle.std.proofs.Common.{◌≡◌, ℕ, ◌<◌, Bool, true, false, List, [], ◌∷◌, ◌++◌, length, Result, Ok, Err, refl, sym, ap, subst, ◌∙◌, append_assoc, inl, inr}
use Rattle.std.specs.Prelude.{◌⊎◌, ◌||◌, IsErr}
use Rattle.srm_names.specs.Histories.{IsPrefix}
use Rattle.srm_names.proofs.Snoc.{flat_map-snoc, list_any-snoc}
use Rattle.srm_codec.specs.Spelling.{AreBytes}
use Rattle.srm_frames.specs.declared.beginning.Beginning.{Beginning}
use Rattle.srm_frames.specs.declared.fault.RecordFault.{RecordFault}
use Rattle.srm_frames.specs.declared.fault.RecordFault.TheVariants.{Magic, Version, Settings, Frame, Memory}
use Rattle.srm_frames.specs.declared.line.Line.{Line}
use Rattle.srm_frames.specs.declared.reading.Record.{Record}
use Rattle.srm_frames.specs.declared.reading.RecordEnd.{RecordEnd}
use Rattle.srm_frames.specs.declared.reading.RecordEnd.TheVariants.{Whole, Cut}
use Rattle.srm_frames.specs.Beginnings.{beginning_text}
use Rattle.srm_frames.specs.Lines.{line_text, lines_text, is_end}
use Rattle.srm_frames.specs.Readings.{FrameParts, frame_at, line_in}
use Rattle.srm_frames.specs.WhatIsRead.{HasNoLine, IsBeginning, HasFrame, has_end, EndsSo, Reads, RecordView, seen, IsRecordIn, first_bytes, versioned, IsBadFrame, IsFault, IsJudged, IsFound}
use Rattle.srm_frames.specs.LinesRead.{IsNext, SoFar, AreRead, AreCutShort, AreLinesAt, IsEndOf}
use Rattle.srm_frames.proofs.FrameLaws.{frame_takes, none_there, text_of_frame, frame_long}
use Rattle.srm_frames.proofs.LineLaws.{line_takes, text_is, no_line, other_frame, all_lines, ended_lines, all-snoc, same_lines}
use Rattle.srm_frames.proofs.BeginningLaws.{same_beginning, begins_versioned}

-- ---- reading is in one way only

pub record AreSameReadings (b c : Beginning) (ls ms : List Line) (r s : List ℕ) : Type 0 where
  pub beginning : b ≡ c
  pub lines : ls ≡ ms
  pub rest : r ≡ s

pub same_readings : (bytes : List ℕ) (b c : Beginning) (ls ms : List Line) (r s : List ℕ) → Reads bytes b ls r → Reads bytes c ms s → AreSameReadings b c ls ms r s
same_readings bytes b c ls ms r s one other =
    let h = same_beginning b c (lines_text ls ++ r) (lines_text ms ++ s) one.beginning other.beginning (sym one.text ∙ other.text) in
    let k = same_lines ls ms r s one.lines other.lines h.rest in
    record { beginning = h.beginning; lines = k.lines; rest = k.rest }

unlike : {A : Type 0} (b : Bool) → b ≡ true → b ≡ false → A
unlike b t f = absurd cc

-- the end is known by the lines and by what stands behind them
same_end : (lines : List Line) (rest : List ℕ) (a b : RecordEnd) → EndsSo lines a rest → EndsSo lines b rest → a ≡ b
same_end lines rest Whole Whole p q = refl
same_end lines rest Whole (Cut left) p q = unlike (has_end lines) p.0 q.0
same_end lines rest (Cut left) Whole p q = unlike (has_end lines) q.0 p.0
same_end lines rest (Cut left) (Cut other) p q = ap (λ (n : ℕ). Cut n) (sym p.1 ∙ q.1)

pub same_record : (bytes : List ℕ) (u v : RecordView) → IsRecordIn bytes u → IsRecordIn bytes v → u ≡ v
same_record bytes u v one other =
    let h = same_readings bytes u.beginning v.beginning u.lines v.lines one.rest other.rest one.reads other.reads in
    let moved : EndsSo v.lines u.end other.rest = subst (λ (ls : List Line). EndsSo ls u.end other.rest) h.lines (subst (λ (r : List ℕ). EndsSo u.lines u.end r) h.rest one.end) in
    let end : u.end ≡ v.end = same_end v.lines other.rest u.end v.end moved other.end in
    made u.beginning v.beginning u.lines v.lines u.end v.end h.beginning h.lines end
  where
    view : Beginning → List Line → RecordEnd → RecordView
    view b ls e = record { beginning = b; lines = ls; end = e }

    made : (b c : Beginning) (ls ms : List Line) (d e : RecordEnd) → b ≡ c → ls ≡ ms → d ≡ e → view b ls d ≡ view c ms e
    made b c ls ms d e p q r = ap (λ (x : Beginning). view x ls d) p ∙ ap (λ (x : List Line). view c x d) q ∙ ap (λ (x : RecordEnd). view c ms x) r

-- no record is in bytes that have a fault
bad_frame : (bytes : List ℕ) (place : ℕ) (v : RecordView) → IsBadFrame bytes place → IsRecordIn bytes v → ⊥
bad_frame bytes place v bad is =
    let h = same_readings bytes bad.beginning v.beginning bad.lines v.lines bad.rest is.rest bad.reads is.reads in
    let there : EndsSo bad.lines v.end bad.rest = subst (λ (ls : List Line). EndsSo ls v.end bad.rest) (sym h.lines) (subst (λ (r : List ℕ). EndsSo v.lines v.end r) (sym h.rest) is.end) in
    clash v.end there bad.bad
  where
    clash : (e : RecordEnd) → EndsSo bad.lines e bad.rest → ((has_end bad.lines ≡ true) × (bad.rest ≡ [] → ⊥)) ⊎ ((has_end bad.lines ≡ false) × HasFrame bad.rest) → ⊥
    clash Whole (ended, none) (inl (t, some)) = some none
    clash Whole (ended, none) (inr (f, has)) = unlike (has_end bad.lines) ended f
    clash (Cut left) (open_, long, free) (inl (t, some)) = unlike (has_end bad.lines) t open_
    clash (Cut left) (open_, long, free) (inr (f, has)) = free has

starts_so : (bytes : List ℕ) (v : RecordView) → IsRecordIn bytes v → IsPrefix versioned bytes
starts_so bytes v is = subst (IsPrefix versioned) (sym is.reads.text) (begins_versioned v.beginning (lines_text v.lines ++ is.rest))

shorter : (bytes : List ℕ) → IsPrefix versioned bytes → IsPrefix first_bytes bytes
shorter bytes (rest, e) = (1 ∷ rest, e)

pub found_or_memory : (bytes : List ℕ) (result : Result Record RecordFault) → IsJudged bytes result → (v : RecordView) → IsRecordIn bytes v → IsFound v result
found_or_memory bytes (Ok r) judged v is = same_record bytes (seen r) v judged is
found_or_memory bytes (Err Magic) judged v is = absurd (judged (shorter bytes (starts_so bytes v is)))
found_or_memory bytes (Err Version) judged v is = absurd (judged.1 (starts_so bytes v is))
found_or_memory bytes (Err Settings) judged v is = absurd (judged.1 v.beginning (lines_text v.lines ++ is.rest) is.reads.beginning is.reads.text)
found_or_memory bytes (Err (Frame place)) judged v is = absurd (bad_frame bytes place v judged is)
found_or_memory bytes (Err Memory) judged v is = refl

-- ---- the next line

pub next_found : (bytes : List ℕ) (f : FrameParts) (l : Line) (rest : List ℕ) → AreBytes bytes → frame_at bytes ≡ Ok (f, rest) → line_in f ≡ Ok l → IsNext bytes l rest
next_found bytes f l rest fits there e =
    let t = frame_takes bytes f rest fits there in
    let is = line_takes f l t.fits t.payload_fits e in
    record {
      text = t.text ∙ ap (λ (x : FrameParts). text_of_frame x ++ rest) is.parts ∙ sym (ap (λ (text : List ℕ). text ++ rest) (text_is l));
      is = is.is;
      bytes = t.rest_fits;
    }

pub some_frame : (bytes : List ℕ) (f : FrameParts) (rest : List ℕ) → AreBytes bytes → frame_at bytes ≡ Ok (f, rest) → HasFrame bytes
some_frame bytes f rest fits there =
    let t = frame_takes bytes f rest fits there in
    record { kind = f.kind; moment = f.moment; payload = f.payload; rest = rest; fits = t.fits; text = t.text }

pub next_bad : (place : ℕ) (bytes : List ℕ) (f : FrameParts) (rest : List ℕ) → AreBytes bytes → frame_at bytes ≡ Ok (f, rest) → IsErr (line_in f)
    → (place ≡ place) × HasFrame bytes × HasNoLine bytes
next_bad place bytes f rest fits there wrong = (refl, some_frame bytes f rest fits there, other_frame bytes f rest there wrong)

pub next_none : (bytes rest : List ℕ) → rest ≡ bytes → IsErr (frame_at bytes) → (rest ≡ bytes) × (HasFrame bytes → ⊥)
next_none bytes rest same wrong = (same, none_there bytes wrong)

-- ---- lines so far

pub none_so_far : (bytes : List ℕ) (lines : List Line) → lines ≡ [] → AreBytes bytes → SoFar bytes lines bytes
none_so_far bytes lines none fits = subst (λ (ls : List Line). SoFar bytes ls bytes) (sym none) (record { text = refl; all = tt; unended = refl; bytes = fits })

more_text : (first now new : List ℕ) (lines : List Line) (l : Line) → first ≡ lines_text lines ++ now → now ≡ line_text l ++ new → first ≡ lines_text (lines ++ l ∷ []) ++ new
more_text first now new lines l e h =
    e ∙ ap (λ (t : List ℕ). lines_text lines ++ t) h ∙ sym (append_assoc (lines_text lines) (line_text l) new)
    ∙ ap (λ (t : List ℕ). t ++ new) (sym (flat_map-snoc line_text lines l))

neither : (a b : Bool) → a ≡ false → b ≡ false → (a || b) ≡ false
neither true b p q = p
neither false b p q = q

either : (a b : Bool) → b ≡ true → (a || b) ≡ true
either true b q = refl
either false b q = q

pub more_so_far : (first now new : List ℕ) (lines after : List Line) (l : Line) → after ≡ lines ++ l ∷ [] → SoFar first lines now → IsNext now l new → is_end l ≡ false → SoFar first after new
more_so_far first now new lines after l is so next open_ =
    subst (λ (ls : List Line). SoFar first ls new) (sym is)
    (record {
      text = more_text first now new lines l so.text next.text;
      all = all-snoc lines l so.all next.is;
      unended = list_any-snoc is_end lines l ∙ neither (has_end lines) (is_end l) so.unended open_;
      bytes = next.bytes;
    })

pub read_ended : (first now new : List ℕ) (lines after : List Line) (l : Line) → after ≡ lines ++ l ∷ [] → SoFar first lines now → IsNext now l new → is_end l ≡ true → AreRead first after new
read_ended first now new lines after l is so next end =
    subst (λ (ls : List Line). AreRead first ls new) (sym is)
    (record {
      text = more_text first now new lines l so.text next.text;
      lines = ended_lines lines l new so.all so.unended next.is end;
      stops = λ open_ has. unlike (has_end (lines ++ l ∷ [])) (list_any-snoc is_end lines l ∙ either (has_end lines) (is_end l) end) open_;
    })

pub read_open : (first now rest : List ℕ) (lines : List Line) → SoFar first lines now → (rest ≡ now) × (HasFrame now → ⊥) → AreRead first lines rest
read_open first now rest lines so none =
    subst (λ (r : List ℕ). AreRead first lines r) (sym none.0)
    (record { text = so.text; lines = all_lines lines now so.all so.unended (no_line now none.1); stops = λ _ has. none.1 has })

pub cut_short : (first now : List ℕ) (lines : List Line) (n : ℕ) → SoFar first lines now → (n ≡ length lines) × HasFrame now × HasNoLine now → AreCutShort first n
cut_short first now lines n so bad = record {
  lines = lines;
  rest = now;
  text = so.text;
  all = all_lines lines now so.all so.unended bad.2;
  unended = so.unended;
  place = sym bad.0;
  has = bad.1;
}

pub next_shorter : (now new : List ℕ) (l : Line) → IsNext now l new → length new < length now
unfolding line_text
next_shorter now new l next = rw next.text (frame_long _ _ _ new)

-- ---- all of it

pub judged_ok : (bytes behind rest : List ℕ) (r : RecordView) → (bytes ≡ beginning_text r.beginning ++ behind) × IsBeginning r.beginning × AreBytes behind → AreRead behind r.lines rest
    → ((has_end r.lines ≡ false → HasFrame rest → ⊥) → EndsSo r.lines r.end rest) → IsRecordIn bytes r
judged_ok bytes behind rest r begun read ends = record {
  rest = rest;
  reads = record {
    text = begun.0 ∙ ap (λ (t : List ℕ). beginning_text r.beginning ++ t) read.text;
    beginning = begun.1;
    lines = read.lines;
  };
  end = ends read.stops;
}

pub judged_lines : (bytes behind : List ℕ) (b : Beginning) (n : ℕ) → (bytes ≡ beginning_text b ++ behind) × IsBeginning b × AreBytes behind → AreCutShort behind n → IsBadFrame bytes n
judged_lines bytes behind b n begun cut = record {
  beginning = b;
  lines = cut.lines;
  rest = cut.rest;
  reads = record { text = begun.0 ∙ ap (λ (t : List ℕ). beginning_text b ++ t) cut.text; beginning = begun.1; lines = cut.all };
  place = cut.place;
  bad = inr (cut.unended, cut.has);
}

pub judged_end : (bytes behind rest : List ℕ) (b : Beginning) (lines : List Line) (n : ℕ) → (bytes ≡ beginning_text b ++ behind) × IsBeginning b × AreBytes behind → AreRead behind lines rest
    → (length lines ≡ n) × (has_end lines ≡ true) × (rest ≡ [] → ⊥) → IsBadFrame bytes n
judged_end bytes behind rest b lines n begun read bad = record {
  beginning = b;
  lines = lines;
  rest = rest;
  reads = record { text = begun.0 ∙ ap (λ (t : List ℕ). beginning_text b ++ t) read.text; beginning = begun.1; lines = read.lines };
  place = bad.0;
  bad = inl (bad.1, bad.2);
}

pub lines_fault : (bytes behind rest : List ℕ) (b : Beginning) (fault : RecordFault) → (bytes ≡ beginning_text b ++ behind) × IsBeginning b × AreBytes behind → AreLinesAt (Err fault) behind rest → IsFault bytes fault
lines_fault bytes behind rest b Magic begun wrong = absurd wrong
lines_fault bytes behind rest b Version begun wrong = absurd wrong
lines_fault bytes behind rest b Settings begun wrong = absurd wrong
lines_fault bytes behind rest b (Frame n) begun cut = judged_lines bytes behind b n begun cut
lines_fault bytes behind rest b Memory begun wrong = tt

pub end_fault : (bytes behind rest : List ℕ) (b : Beginning) (lines : List Line) (fault : RecordFault) → (bytes ≡ beginning_text b ++ behind) × IsBeginning b × AreBytes behind → AreRead behind lines rest
    → IsEndOf (Err fault) lines rest → IsFault bytes fault
end_fault bytes behind rest b lines Magic begun read wrong = absurd wrong
end_fault bytes behind rest b lines Version begun read wrong = absurd wrong
end_fault bytes behind rest b lines Settings begun read wrong = absurd wrong
end_fault bytes behind rest b lines (Frame n) begun read bad = judged_end bytes behind rest b lines n begun read bad
end_fault bytes behind rest b lines Memory begun read wrong = absurd wrong
