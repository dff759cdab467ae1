-- A line is read as it is written, and lines one behind the other in one way only.
use Rattle.std.proofs.Common.{◌≡◌, ℕ, ◌<◌, ◌≤◌, ◌^◌, Bool, true, false, List, [], ◌∷◌, ◌++◌, length, Result, Ok, refl, sym, ap, subst, ◌∙◌, append_assoc, inl, inr, arith, lit<}
use Rattle.std.proofs.lemmas.Bool.{eqb-true}
use Rattle.std.specs.Prelude.{◌==◌, ◌||◌, nat_lt, nat_le, IsErr}
use Rattle.std.specs.List.{AllByRecursion}
use Rattle.std.specs.Int.{w8}
use Rattle.std.proofs.lemmas.Bool.Decides.{nat_tests}
use Rattle.srm_names.specs.declared.limits.TheConstants.{PAGES, LATEST_MOMENT}
use Rattle.srm_names.specs.declared.page_msg.PageMsg.{PageMsg}
use Rattle.srm_codec.specs.declared.fault.DecodeFault.{DecodeFault}
use Rattle.srm_codec.specs.declared.fault.DecodeFault.TheVariants.{Number}
use Rattle.srm_codec.specs.Spelling.{is_page, page_bytes}
use Rattle.srm_codec.specs.Judging.{◌>>=◌, Read, check, judged, number_at, page_at}
use Rattle.srm_codec.proofs.Readers.{IsBytes, bind_ok, check_ok, check-true, ok_is, Reads, renamed, checked}
use Rattle.srm_codec.proofs.FieldLaws.{one_byte, page_reads}
use Rattle.srm_frames.specs.declared.format.TheConstants.{DREW, HEARD, TICKED, SHOWED, ASKED_LEAVE, GAVE, TOOK, ENDED}
use Rattle.srm_frames.specs.declared.line.Line.{Line}
use Rattle.srm_frames.specs.declared.line.Call.{Call}
use Rattle.srm_frames.specs.declared.line.Call.TheVariants.{Drew, Heard, Ticked, Showed, AskedLeave, Gave, Took, Ended}
use Rattle.srm_frames.specs.Messages.{message_text}
use Rattle.srm_frames.specs.Lines.{kind_of, payload_of, line_text, lines_text, is_end}
use Rattle.srm_frames.specs.Readings.{FrameParts, parts, bare, slot_at, message_in, drew_in, showed_in, gave_in, took_in, call_in, line_in, frame_at}
use Rattle.srm_frames.specs.WhatIsRead.{IsCall, IsLine, HasNoLine, NoneOr, AreAllLines, HasFrame, has_end}
use Rattle.srm_frames.proofs.FrameLaws.{text_of_frame, Fits, byte_reads, frame_again, refuted}
use Rattle.srm_frames.proofs.MessageLaws.{alone_takes, alone_again, in_front_takes, in_front_again, bare_takes, went, message_takes, message_again}

-- ---- calls

pub record IsCallOf (kind : ℕ) (payload : List ℕ) (c : Call) : Type 0 where
  pub of_kind : kind ≡ kind_of c
  pub text : payload ≡ payload_of c
  pub fits : IsCall c

slot_reads : Reads slot_at one_byte (λ n. n < PAGES)
unfolding slot_at
slot_reads =
    renamed (judged w8 (λ n. nat_lt n PAGES) Number) one_byte (λ n. (n < 256) × (nat_lt n PAGES ≡ true)) (λ n. n < PAGES)
    (λ n h. grind (arith, nat_tests)) (λ n lt. (omega arith, grind (arith, nat_tests)))
    (checked (number_at w8) one_byte (λ n. n < 256) (λ n. nat_lt n PAGES) Number byte_reads)

drew_takes : (p : List ℕ) (c : Call) → IsBytes p → drew_in p ≡ Ok c → IsCallOf DREW p c
unfolding drew_in
drew_takes p c fits e =
    let a = in_front_takes page_at page_bytes is_page (λ page body. Drew page body) page_reads p c fits e in
    subst (IsCallOf DREW p) a.made (record { of_kind = refl; text = a.text; fits = a.fits })

showed_takes : (p : List ℕ) (c : Call) → IsBytes p → showed_in p ≡ Ok c → IsCallOf SHOWED p c
unfolding showed_in
showed_takes p c fits e =
    let a = alone_takes page_at page_bytes is_page (λ page. Showed page) page_reads p c fits e in
    subst (IsCallOf SHOWED p) a.made (record { of_kind = refl; text = a.text; fits = a.fits })

gave_takes : (p : List ℕ) (c : Call) → IsBytes p → gave_in p ≡ Ok c → IsCallOf GAVE p c
unfolding gave_in
gave_takes p c fits e =
    let a = alone_takes slot_at one_byte (λ n. n < PAGES) (λ slot. Gave slot) slot_reads p c fits e in
    subst (IsCallOf GAVE p) a.made (record { of_kind = refl; text = a.text; fits = a.fits })

took_takes : (p : List ℕ) (c : Call) → IsBytes p → took_in p ≡ Ok c → IsCallOf TOOK p c
unfolding took_in
took_takes p c fits e =
    let a = bind_ok (slot_at p) (λ slot. message_in slot.1 >>= λ message. Ok (Took slot.0 message)) c e in
    let t = slot_reads.takes p a.0.0 a.0.1 fits a.1 in
    let b = bind_ok (message_in a.0.1) (λ message. Ok (Took a.0.0 message)) c a.2 in
    let m = message_takes a.0.1 b.0 t.0.rest_fits b.1 in
    subst (IsCallOf TOOK p) (ok_is (Took a.0.0 b.0) c b.2)
    (record { of_kind = refl; text = t.0.parts ∙ ap (λ (rest : List ℕ). a.0.0 ∷ rest) m.0; fits = (t.1, m.1) })

bare_call : (kind : ℕ) (x c : Call) (p : List ℕ) → kind_of x ≡ kind → payload_of x ≡ [] → IsCall x → bare x p ≡ Ok c → IsCallOf kind p c
bare_call kind x c p same none fits e =
    let b = bare_takes x c p e in
    subst (IsCallOf kind p) b.0 (record { of_kind = sym same; text = b.1 ∙ sym none; fits = fits })

heard_call : (p : List ℕ) (c : Call) → Heard p ≡ c → IsCallOf HEARD p c
heard_call p c e = subst (IsCallOf HEARD p) e (record { of_kind = refl; text = refl; fits = tt })

as_kind : (kind k : ℕ) (p : List ℕ) (c : Call) → (kind == k) ≡ true → IsCallOf k p c → IsCallOf kind p c
as_kind kind k p c same is = subst (λ (n : ℕ). IsCallOf n p c) (sym (eqb-true kind k same)) is

call_takes : (kind : ℕ) (p : List ℕ) (c : Call) → IsBytes p → call_in kind p ≡ Ok c → IsCallOf kind p c
unfolding call_in
call_takes kind p c fits e =
    elim (went (kind == DREW) _ _ c e) [
      | inl (t, h) ↦ as_kind kind DREW p c t (drew_takes p c fits h)
      | inr (_, e) ↦ elim (went (kind == HEARD) _ _ c e) [
        | inl (t, h) ↦ as_kind kind HEARD p c t (heard_call p c (ok_is (Heard p) c h))
        | inr (_, e) ↦ elim (went (kind == TICKED) _ _ c e) [
          | inl (t, h) ↦ as_kind kind TICKED p c t (bare_call TICKED Ticked c p refl refl tt h)
          | inr (_, e) ↦ elim (went (kind == SHOWED) _ _ c e) [
            | inl (t, h) ↦ as_kind kind SHOWED p c t (showed_takes p c fits h)
            | inr (_, e) ↦ elim (went (kind == ASKED_LEAVE) _ _ c e) [
              | inl (t, h) ↦ as_kind kind ASKED_LEAVE p c t (bare_call ASKED_LEAVE AskedLeave c p refl refl tt h)
              | inr (_, e) ↦ elim (went (kind == GAVE) _ _ c e) [
                | inl (t, h) ↦ as_kind kind GAVE p c t (gave_takes p c fits h)
                | inr (_, e) ↦ elim (went (kind == TOOK) _ _ c e) [
                  | inl (t, h) ↦ as_kind kind TOOK p c t (took_takes p c fits h)
                  | inr (_, e) ↦ elim (went (kind == ENDED) _ _ c e) [
                    | inl (t, h) ↦ as_kind kind ENDED p c t (bare_call ENDED Ended c p refl refl tt h)
                    | inr (_, e) ↦ absurd cc
                  ]
                ]
              ]
            ]
          ]
        ]
      ]
    ]

call_again : (c : Call) → IsCall c → call_in (kind_of c) (payload_of c) ≡ Ok c
unfolding call_in drew_in showed_in gave_in took_in
call_again (Drew page body) fits = in_front_again page_at page_bytes is_page (λ page body. Drew page body) page_reads page body fits
call_again (Heard bytes) fits = refl
call_again Ticked fits = refl
call_again (Showed page) fits = alone_again page_at page_bytes is_page (λ page. Showed page) page_reads page fits
call_again AskedLeave fits = refl
call_again (Gave slot) fits = alone_again slot_at one_byte (λ n. n < PAGES) (λ slot. Gave slot) slot_reads slot fits
call_again (Took slot message) fits =
    ap (λ (r : Read ℕ). r >>= λ s. message_in s.1 >>= λ m. Ok (Took s.0 m)) (slot_reads.again slot (message_text message) fits.0)
    ∙ ap (λ (r : Result PageMsg DecodeFault). r >>= λ m. Ok (Took slot m)) (message_again message fits.1)
call_again Ended fits = refl

-- ---- lines

abbrev pub parts_of : Line → FrameParts
parts_of l = parts (kind_of l.call) l.moment (payload_of l.call)

kind_fits : (c : Call) → kind_of c < 256
kind_fits (Drew page body) = lit< tt
kind_fits (Heard bytes) = lit< tt
kind_fits Ticked = lit< tt
kind_fits (Showed page) = lit< tt
kind_fits AskedLeave = lit< tt
kind_fits (Gave slot) = lit< tt
kind_fits (Took slot message) = lit< tt
kind_fits Ended = lit< tt

pub line_fits : (l : Line) → IsLine l → Fits (parts_of l)
line_fits l is = record { kind = kind_fits l.call; moment = (let le : l.moment ≤ LATEST_MOMENT = is.moment in omega arith); payload = is.size }

pub text_is : (l : Line) → line_text l ≡ text_of_frame (parts_of l)
unfolding line_text
text_is l = refl

-- a line and the frame that it was read of
pub record IsLineOf (f : FrameParts) (l : Line) : Type 0 where
  pub parts : f ≡ parts_of l
  pub is : IsLine l

pub line_takes : (f : FrameParts) (l : Line) → Fits f → IsBytes f.payload → line_in f ≡ Ok l → IsLineOf f l
unfolding line_in
line_takes f l fits bytes e =
    let a = bind_ok (call_in f.kind f.payload) (λ call. check (nat_le f.moment LATEST_MOMENT) Number (record { moment = f.moment; call = call })) l e in
    let c = call_takes f.kind f.payload a.0 bytes a.1 in
    let made : Line = record { moment = f.moment; call = a.0 } in
    let b = check_ok (nat_le f.moment LATEST_MOMENT) Number made l a.2 in
    let early : f.moment ≤ LATEST_MOMENT = let test : nat_le f.moment LATEST_MOMENT ≡ true = b.0 in grind (arith, nat_tests) in
    let same : f ≡ parts_of made = ap (λ (k : ℕ). parts k f.moment f.payload) c.of_kind ∙ ap (λ (p : List ℕ). parts (kind_of a.0) f.moment p) c.text in
    let seen : IsLineOf f made = record {
      parts = same;
      is = record { moment = early; call = c.fits; size = subst (λ (p : List ℕ). length p < 2 ^ 32) c.text fits.payload };
    } in
    subst (IsLineOf f) b.1 seen

pub line_again : (l : Line) → IsLine l → line_in (parts_of l) ≡ Ok l
unfolding line_in
line_again l is =
    let le : l.moment ≤ LATEST_MOMENT = is.moment in
    ap (λ (r : Result Call DecodeFault). r >>= λ call. check (nat_le l.moment LATEST_MOMENT) Number (record { moment = l.moment; call = call })) (call_again l.call is.call)
    ∙ check-true (nat_le l.moment LATEST_MOMENT) Number l (grind (arith, nat_tests))

pub frame_of_line : (l : Line) (rest : List ℕ) → IsLine l → frame_at (line_text l ++ rest) ≡ Ok (parts_of l, rest)
frame_of_line l rest is = ap (λ (text : List ℕ). frame_at (text ++ rest)) (text_is l) ∙ frame_again (parts_of l) rest (line_fits l is)

-- what a list of bytes begins with
pub record AreSame (l m : Line) (r s : List ℕ) : Type 0 where
  pub line : l ≡ m
  pub rest : r ≡ s

pub same_line : (l m : Line) (r s : List ℕ) → IsLine l → IsLine m → line_text l ++ r ≡ line_text m ++ s → AreSame l m r s
same_line l m r s a b e =
    let both : (parts_of l, r) ≡ (parts_of m, s) = ok_is (parts_of l, r) (parts_of m, s) (sym (frame_of_line l r a) ∙ ap frame_at e ∙ frame_of_line m s b) in
    let parts : parts_of l ≡ parts_of m = ap (λ (x : FrameParts × List ℕ). x.0) both in
    record {
      line = ok_is l m (sym (line_again l a) ∙ ap line_in parts ∙ line_again m b);
      rest = ap (λ (x : FrameParts × List ℕ). x.1) both;
    }

-- where no frame stands, no line does
pub no_line : (bytes : List ℕ) → (HasFrame bytes → ⊥) → HasNoLine bytes
no_line bytes none = λ l rest is e.
    none (let f = line_fits l is in record {
      kind = kind_of l.call;
      moment = l.moment;
      payload = payload_of l.call;
      rest = rest;
      fits = f;
      text = e ∙ ap (λ (text : List ℕ). text ++ rest) (text_is l);
    })

-- where a frame stands that is no line's, no line does
pub other_frame : (bytes : List ℕ) (f : FrameParts) (rest : List ℕ) → frame_at bytes ≡ Ok (f, rest) → IsErr (line_in f) → HasNoLine bytes
other_frame bytes f rest there wrong = λ l more is e.
    let both : (f, rest) ≡ (parts_of l, more) = ok_is (f, rest) (parts_of l, more) (sym there ∙ ap frame_at e ∙ frame_of_line l more is) in
    refuted (line_in f) l wrong (ap line_in (ap (λ (x : FrameParts × List ℕ). x.0) both) ∙ line_again l is)

-- ---- lines, one behind the other

pub all_lines : (ls : List Line) (rest : List ℕ) → AllByRecursion IsLine ls → has_end ls ≡ false → HasNoLine rest → AreAllLines ls rest
all_lines [] rest all open_ none = none
all_lines (l ∷ ls) rest (is, all) open_ none = (is, step (is_end l) (has_end ls) open_ (λ h. all_lines ls rest all h none))
  where
    step : (b c : Bool) → (b || c) ≡ false → (c ≡ false → AreAllLines ls rest) → NoneOr b ls (AreAllLines ls rest)
    step true c e more = absurd cc
    step false c e more = more e

pub ended_lines : (ls : List Line) (l : Line) (rest : List ℕ) → AllByRecursion IsLine ls → has_end ls ≡ false → IsLine l → is_end l ≡ true → AreAllLines (ls ++ l ∷ []) rest
ended_lines [] l rest all open_ is end = (is, step (is_end l) end)
  where
    step : (b : Bool) → b ≡ true → NoneOr b [] (HasNoLine rest)
    step true e = refl
    step false e = absurd cc
ended_lines (m ∷ ls) l rest (was, all) open_ is end = (was, step (is_end m) (has_end ls) open_ (λ h. ended_lines ls l rest all h is end))
  where
    step : (b c : Bool) → (b || c) ≡ false → (c ≡ false → AreAllLines (ls ++ l ∷ []) rest) → NoneOr b (ls ++ l ∷ []) (AreAllLines (ls ++ l ∷ []) rest)
    step true c e more = absurd cc
    step false c e more = more e

pub all-snoc : (ls : List Line) (l : Line) → AllByRecursion IsLine ls → IsLine l → AllByRecursion IsLine (ls ++ l ∷ [])
all-snoc [] l all is = (is, tt)
all-snoc (m ∷ ls) l (was, all) is = (was, all-snoc ls l all is)

-- lines are read in one way only
pub record AreSameLines (ls ms : List Line) (r s : List ℕ) : Type 0 where
  pub lines : ls ≡ ms
  pub rest : r ≡ s

pub same_lines : (ls ms : List Line) (r s : List ℕ) → AreAllLines ls r → AreAllLines ms s → lines_text ls ++ r ≡ lines_text ms ++ s → AreSameLines ls ms r s
same_lines [] [] r s a b e = record { lines = refl; rest = e }
same_lines [] (m ∷ ms) r s a (is, more) e = absurd (a m (lines_text ms ++ s) is (e ∙ append_assoc (line_text m) (lines_text ms) s))
same_lines (l ∷ ls) [] r s (is, more) b e = absurd (b l (lines_text ls ++ r) is (sym e ∙ append_assoc (line_text l) (lines_text ls) r))
same_lines (l ∷ ls) (m ∷ ms) r s (il, more) (im, rest) e =
    let h = same_line l m (lines_text ls ++ r) (lines_text ms ++ s) il im (sym (append_assoc (line_text l) (lines_text ls) r) ∙ e ∙ append_assoc (line_text m) (lines_text ms) s) in
    let here : NoneOr (is_end l) ms (AreAllLines ms s) = subst (λ (x : Line). NoneOr (is_end x) ms (AreAllLines ms s)) (sym h.line) rest in
    step (is_end l) more here h.line h.rest (λ p q e. same_lines ls ms r s p q e)
  where
    step : (b : Bool) → NoneOr b ls (AreAllLines ls r) → NoneOr b ms (AreAllLines ms s) → l ≡ m → lines_text ls ++ r ≡ lines_text ms ++ s
        → (AreAllLines ls r → AreAllLines ms s → lines_text ls ++ r ≡ lines_text ms ++ s → AreSameLines ls ms r s) → AreSameLines (l ∷ ls) (m ∷ ms) r s
    step true p q e h more = record {
      lines = ap (λ (x : Line). x ∷ ls) e ∙ ap (λ (xs : List Line). m ∷ xs) (p ∙ sym q);
      rest = ap (λ (xs : List Line). lines_text xs ++ r) (sym p) ∙ h ∙ ap (λ (xs : List Line). lines_text xs ++ s) q;
    }
    step false p q e h more =
        let t = more p q h in
        record { lines = ap (λ (x : Line). x ∷ ls) e ∙ ap (λ (xs : List Line). m ∷ xs) t.lines; rest = t.rest }
