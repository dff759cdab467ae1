-- Which lines are whole in a front of a record, and what stands behind them.
use Rattle.std.proofs.Common.{◌≡◌, ℕ, ◌+◌, ◌<◌, ◌≤◌, ◌^◌, Bool, true, false, List, [], ◌∷◌, ◌++◌, length, take, drop, refl, ap, sym, ◌∙◌, subst, inl, inr, arith, append_assoc, append-nil, length-append, lit<}
use Rattle.std.specs.Prelude.{◌||◌}
use Rattle.std.specs.Int.{w32, w64, to_be_bytes, from_be_bytes}
use Rattle.std.specs.List.{AllByRecursion}
use Rattle.std.proofs.lemmas.Grind.{flat_map-append}
use Rattle.std.proofs.lemmas.List.{append_cancel_left}
use Rattle.std.proofs.lemmas.Nat.{from_be_bytes-to_be_bytes_4}
use Rattle.srm_names.specs.declared.limits.TheConstants.{LATEST_MOMENT}
use Rattle.srm_names.specs.Histories.{IsPrefix}
use Rattle.srm_names.proofs.Lists.{AllByRecursion-parts}
use Rattle.srm_frames.specs.declared.beginning.Beginning.{Beginning}
use Rattle.srm_frames.specs.declared.format.TheConstants.{BEGINNING_BYTES}
use Rattle.srm_frames.specs.declared.line.Line.{Line}
use Rattle.srm_frames.specs.declared.line.Call.{Call}
use Rattle.srm_frames.specs.declared.line.Call.TheVariants.{Drew, Heard, Ticked, Showed, AskedLeave, Gave, Took, Ended}
use Rattle.srm_frames.specs.Checksums.{crc_32}
use Rattle.srm_frames.specs.Frames.{sealed, frame, frame_fields}
use Rattle.srm_frames.specs.Beginnings.{identity_fields, limit_fields, wait_fields, origin_fields, beginning_fields, beginning_text}
use Rattle.srm_frames.specs.Lines.{kind_of, payload_of, line_text, lines_text, is_end}
use Rattle.srm_frames.specs.WhatIsRead.{IsLine, HasNoLine, HasFrame, NoneOr, AreAllLines, has_end}
use Rattle.srm_audited.proofs.Fronts.{fronts, nothing_more}

pub empty : (xs : List ℕ) → length xs ≡ 0 → xs ≡ []
empty [] e = refl
empty (x ∷ xs) e = absurd (omega (arith, e))

none : (xs ys : List ℕ) → xs ++ ys ≡ [] → ys ≡ []
none [] ys e = e
none (x ∷ xs) ys e = cc

-- ---- frames

pub frame_long : (k m : ℕ) (p : List ℕ) → length (frame k m p) ≡ 17 + length p
unfolding sealed frame_fields
frame_long k m p = omega (arith, length-append (frame_fields k m p) (to_be_bytes w32 (crc_32 (frame_fields k m p))), length-append (k ∷ to_be_bytes w64 m ++ to_be_bytes w32 (length p)) p)

-- the bytes of its payload's length stand behind its kind and its moment
size_there : (k m : ℕ) (p rest : List ℕ) → take 4 (drop 9 (frame k m p ++ rest)) ≡ to_be_bytes w32 (length p)
unfolding sealed frame_fields
size_there k m p rest = refl

-- so no frame is a front of another one
as_long_as : (k m j n : ℕ) (p q rest : List ℕ) → length p < 2 ^ 32 → length q < 2 ^ 32 → frame k m p ≡ frame j n q ++ rest → rest ≡ []
as_long_as k m j n p q rest few many e =
    let size : to_be_bytes w32 (length p) ≡ to_be_bytes w32 (length q) = sym (size_there k m p []) ∙ ap (λ w. take 4 (drop 9 w)) (append-nil (frame k m p) ∙ e) ∙ size_there j n q rest in
    let same : length p ≡ length q = sym (from_be_bytes-to_be_bytes_4 (length p) few) ∙ ap (from_be_bytes w32) size ∙ from_be_bytes-to_be_bytes_4 (length q) many in
    let whole : length (frame k m p) ≡ length (frame j n q) + length rest = ap length e ∙ length-append (frame j n q) rest in
    empty rest (omega (arith, whole, same, frame_long k m p, frame_long j n q))

-- a front of a line, but for the whole of it, has none
no_frame : (l : Line) (x more : List ℕ) → IsLine l → line_text l ≡ x ++ more → (more ≡ [] → ⊥) → HasFrame x → ⊥
unfolding line_text
no_frame l x more is e some has =
    some (none has.rest more (as_long_as (kind_of l.call) l.moment has.kind has.moment (payload_of l.call) has.payload (has.rest ++ more) is.size has.fits.payload
    (e ∙ ap (λ w. w ++ more) has.text ∙ append_assoc (frame has.kind has.moment has.payload) has.rest more)))

nor_nothing : (bytes : List ℕ) → bytes ≡ [] → HasFrame bytes → ⊥
nor_nothing bytes nothing has =
    let long = frame_long has.kind has.moment has.payload in
    let short : length (frame has.kind has.moment has.payload) + length has.rest ≡ 0 = sym (length-append (frame has.kind has.moment has.payload) has.rest) ∙ ap length (sym has.text ∙ nothing) in
    absurd (omega (arith, long, short))

-- ---- lines

kind_fits : (c : Call) → kind_of c < 256
kind_fits (Drew page body) = lit< tt
kind_fits (Heard bytes) = lit< tt
kind_fits Ticked = lit< tt
kind_fits (Showed page) = lit< tt
kind_fits AskedLeave = lit< tt
kind_fits (Gave slot) = lit< tt
kind_fits (Took slot message) = lit< tt
kind_fits Ended = lit< tt

-- where a line stands, a frame does
has_frame : (bytes rest : List ℕ) (l : Line) → IsLine l → bytes ≡ line_text l ++ rest → HasFrame bytes
unfolding line_text
has_frame bytes rest l is e = record {
  kind = kind_of l.call;
  moment = l.moment;
  payload = payload_of l.call;
  rest = rest;
  fits = record { kind = kind_fits l.call; moment = (let low : l.moment ≤ LATEST_MOMENT = is.moment in omega (arith, low)); payload = is.size };
  text = e;
}

pub no_line : (bytes : List ℕ) → (HasFrame bytes → ⊥) → HasNoLine bytes
no_line bytes free = λ l rest is e. free (has_frame bytes rest l is e)

pub open_lines : (ls : List Line) (rest : List ℕ) → AllByRecursion IsLine ls → has_end ls ≡ false → HasNoLine rest → AreAllLines ls rest
open_lines [] rest all unended free = free
open_lines (l ∷ ls) rest all unended free = (all.0, step (is_end l) (has_end ls) unended (λ h. open_lines ls rest all.1 h free))
  where
    step : (a b : Bool) → (a || b) ≡ false → (b ≡ false → AreAllLines ls rest) → NoneOr a ls (AreAllLines ls rest)
    step true b e more = absurd cc
    step false b e more = more e

pub ended_lines : (ls : List Line) (l : Line) (rest : List ℕ) → AllByRecursion IsLine ls → has_end ls ≡ false → IsLine l → is_end l ≡ true → AreAllLines (ls ++ l ∷ []) rest
ended_lines [] l rest all unended is end = (is, step (is_end l) end)
  where
    step : (a : Bool) → a ≡ true → NoneOr a [] (HasNoLine rest)
    step true e = refl
    step false e = absurd cc
ended_lines (m ∷ ls) l rest all unended is end = (all.0, step (is_end m) (has_end ls) unended (λ h. ended_lines ls l rest all.1 h is end))
  where
    step : (a b : Bool) → (a || b) ≡ false → (b ≡ false → AreAllLines (ls ++ l ∷ []) rest) → NoneOr a (ls ++ l ∷ []) (AreAllLines (ls ++ l ∷ []) rest)
    step true b e more = absurd cc
    step false b e more = more e

-- ---- fronts

-- so many lines are whole in a front of a text, and behind them stands no frame
pub record IsCutAt (ls : List Line) (bytes : List ℕ) : Type 0 where
  pub lines : List Line
  pub left : List Line
  pub rest : List ℕ
  pub parts : lines ++ left ≡ ls
  pub text : bytes ≡ lines_text lines ++ rest
  pub free : HasFrame rest → ⊥
  pub none : left ≡ [] → rest ≡ []

pub cut_at : (ls : List Line) (bytes more : List ℕ) → AllByRecursion IsLine ls → bytes ++ more ≡ lines_text ls → IsCutAt ls bytes
cut_at [] bytes more all e =
    let nothing : bytes ≡ [] = nothing_more bytes more (sym e) in record { lines = []; left = []; rest = bytes; parts = refl; text = refl; free = nor_nothing bytes nothing; none = λ _. nothing }
cut_at (l ∷ ls) bytes more all e = elim (fronts bytes more (line_text l) (lines_text ls) e) [
  | inl h ↦
      (let k = cut_at ls h.more more all.1 h.rest in
      record {
        lines = l ∷ k.lines;
        left = k.left;
        rest = k.rest;
        parts = ap (λ w. l ∷ w) k.parts;
        text = h.front ∙ ap (λ w. line_text l ++ w) k.text ∙ sym (append_assoc (line_text l) (lines_text k.lines) k.rest);
        free = k.free;
        none = k.none;
      })
  | inr s ↦ record { lines = []; left = l ∷ ls; rest = bytes; parts = refl; text = refl; free = no_frame l bytes s.more all.0 s.front s.some; none = λ n. absurd cc }
]

pub begins_long : (b : Beginning) → length (beginning_text b) ≡ BEGINNING_BYTES
unfolding sealed beginning_fields identity_fields limit_fields wait_fields origin_fields
begins_long b = omega arith

-- behind the beginning
pub record IsBehind (b : Beginning) (bytes more text : List ℕ) : Type 0 where
  pub behind : List ℕ
  pub parts : bytes ≡ beginning_text b ++ behind
  pub rest : behind ++ more ≡ text

pub behind_beginning : (b : Beginning) (bytes more text : List ℕ) → BEGINNING_BYTES ≤ length bytes → bytes ++ more ≡ beginning_text b ++ text → IsBehind b bytes more text
behind_beginning b bytes more text long e = elim (fronts bytes more (beginning_text b) text e) [
  | inl h ↦ record { behind = h.more; parts = h.front; rest = h.rest }
  | inr s ↦
      (let whole : length (beginning_text b) ≡ length bytes + length s.more = ap length s.front ∙ length-append bytes s.more in
      absurd (s.some (empty s.more (omega (arith, begins_long b, whole, long)))))
]

-- each line that is whole in the front is among those that were read
pub covers : (ls : List Line) (bytes : List ℕ) (cut : IsCutAt ls bytes) (hs tail : List Line) (behind : List ℕ) → AllByRecursion IsLine ls → hs ++ tail ≡ ls → bytes ≡ lines_text hs ++ behind → IsPrefix hs cut.lines
covers ls bytes cut hs tail behind all parts text = elim (fronts cut.lines cut.left hs tail (cut.parts ∙ sym parts)) [
  | inl h ↦ (h.more, sym h.front)
  | inr s ↦ absurd (over s.more s.front s.some)
]
  where
    over : (more : List Line) → hs ≡ cut.lines ++ more → (more ≡ [] → ⊥) → ⊥
    over [] front some = some refl
    over (l ∷ more) front some =
        let each : AllByRecursion IsLine hs = (AllByRecursion-parts IsLine hs tail (subst (AllByRecursion IsLine) (sym parts) all)).0 in
        let is : IsLine l = (AllByRecursion-parts IsLine cut.lines (l ∷ more) (subst (AllByRecursion IsLine) front each)).1.0 in
        let there : cut.rest ≡ lines_text (l ∷ more) ++ behind =
        append_cancel_left (lines_text cut.lines) cut.rest (lines_text (l ∷ more) ++ behind)
        (sym cut.text ∙ text ∙ ap (λ w. w ++ behind) (ap lines_text front ∙ flat_map-append line_text cut.lines (l ∷ more)) ∙ append_assoc (lines_text cut.lines) (lines_text (l ∷ more)) behind) in
        cut.free (has_frame cut.rest (lines_text more ++ behind) l is (there ∙ append_assoc (line_text l) (lines_text more) behind))
