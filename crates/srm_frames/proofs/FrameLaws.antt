-- A frame is read as it is written.
use Rattle.std.proofs.Common.{◌≡◌, ℕ, ◌+◌, ◌≤◌, ◌<◌, ◌^◌, Bool, true, false, List, ◌∷◌, ◌++◌, length, take, drop, Result, Ok, Err, refl, sym, ap, subst, ◌∙◌, append_assoc, arith, eq-eqb}
use Rattle.std.specs.Prelude.{◌==◌, nat_lt, if◌then◌else◌, IsErr}
use Rattle.std.specs.Int.{Width, w8, w32, w64, byte_len, from_be_bytes, to_be_bytes}
use Rattle.std.proofs.lemmas.Bool.{eqb-true, ltb-false}
use Rattle.std.proofs.lemmas.List.{take_at, length-append, length-drop}
use Rattle.srm_codec.specs.declared.fault.DecodeFault.{DecodeFault}
use Rattle.srm_codec.specs.declared.fault.DecodeFault.TheVariants.{Length, Short}
use Rattle.srm_codec.specs.Judging.{◌>>=◌, Read, check, prefix_at, number_at}
use Rattle.srm_codec.proofs.Readers.{IsBytes, bind_ok, check_ok, check-true, ok_is, Takes-then, Reads}
use Rattle.srm_codec.proofs.FieldLaws.{one_byte, wide8, wide32, wide64, prefix_takes, prefix_again, number_reads}
use Rattle.srm_frames.specs.Checksums.{crc_32}
use Rattle.srm_frames.specs.Frames.{sealed, frame_fields, frame, IsFrame}
use Rattle.srm_frames.specs.Readings.{FrameParts, frame_at}
use Rattle.srm_frames.specs.WhatIsRead.{HasFrame}
use Rattle.srm_frames.proofs.ChecksumBounds.{checksum_fits}

abbrev pub text_of_frame : FrameParts → List ℕ
text_of_frame f = frame f.kind f.moment f.payload

abbrev pub Fits : FrameParts → Type 0
Fits f = IsFrame f.kind f.moment f.payload

-- the fields in the order in which they are read
fields_in_order : (k m : ℕ) (p : List ℕ) → frame_fields k m p ≡ one_byte k ++ (to_be_bytes w64 m ++ (to_be_bytes w32 (length p) ++ p))
unfolding frame_fields
fields_in_order k m p = simp append_assoc

fields_long : (k m : ℕ) (p : List ℕ) → length (frame_fields k m p) ≡ 13 + length p
unfolding frame_fields
fields_long k m p = omega (arith, length-append (k ∷ to_be_bytes w64 m ++ to_be_bytes w32 (length p)) p)

frame_in_order : (f : FrameParts) (rest : List ℕ)
    → text_of_frame f ++ rest ≡ one_byte f.kind ++ (to_be_bytes w64 f.moment ++ (to_be_bytes w32 (length f.payload) ++ (f.payload ++ (to_be_bytes w32 (crc_32 (frame_fields f.kind f.moment f.payload)) ++ rest))))
unfolding sealed
frame_in_order f rest =
    let checksum = to_be_bytes w32 (crc_32 (frame_fields f.kind f.moment f.payload)) in
    ap (λ (fields : List ℕ). (fields ++ checksum) ++ rest) (fields_in_order f.kind f.moment f.payload)
    ∙ simp append_assoc

-- the fields of a frame are its front
front_of_frame : (f : FrameParts) (rest : List ℕ) → take (13 + length f.payload) (text_of_frame f ++ rest) ≡ frame_fields f.kind f.moment f.payload
unfolding sealed
front_of_frame f rest =
    let fields = frame_fields f.kind f.moment f.payload in
    let checksum = to_be_bytes w32 (crc_32 fields) in
    ap (take (13 + length f.payload)) (append_assoc fields checksum rest) ∙ take_at fields (checksum ++ rest) (13 + length f.payload) (fields_long f.kind f.moment f.payload)

-- the same reading in steps, where the front of the bytes is known by its length
abbrev pub sum_read : (ℕ → List ℕ) → ℕ → ℕ → ℕ → List ℕ → ℕ × List ℕ → Read FrameParts
sum_read front k m s p c = check (c.0 == crc_32 (front s)) Length (record { kind = k; moment = m; payload = p }, c.1)

abbrev pub payload_read : (ℕ → List ℕ) → ℕ → ℕ → ℕ → List ℕ × List ℕ → Read FrameParts
payload_read front k m s p = number_at w32 p.1 >>= sum_read front k m s p.0

abbrev pub size_read : (ℕ → List ℕ) → ℕ → ℕ → ℕ × List ℕ → Read FrameParts
size_read front k m s = prefix_at s.0 s.1 >>= payload_read front k m s.0

abbrev pub moment_read : (ℕ → List ℕ) → ℕ → ℕ × List ℕ → Read FrameParts
moment_read front k m = number_at w32 m.1 >>= size_read front k m.0

abbrev pub kind_read : (ℕ → List ℕ) → ℕ × List ℕ → Read FrameParts
kind_read front k = number_at w64 k.1 >>= moment_read front k.0

abbrev pub read_with : (ℕ → List ℕ) → List ℕ → Read FrameParts
read_with front bytes = number_at w8 bytes >>= kind_read front

pub in_steps : (bytes : List ℕ) → frame_at bytes ≡ read_with (λ s. take (13 + s) bytes) bytes
unfolding frame_at
in_steps bytes = refl

pub byte_reads : Reads (number_at w8) one_byte (λ n. n < 256)
byte_reads = number_reads w8 256 one_byte wide8

pub word_reads : Reads (number_at w32) (to_be_bytes w32) (λ n. n < 2 ^ 32)
word_reads = number_reads w32 (2 ^ 32) (to_be_bytes w32) wide32

pub long_reads : Reads (number_at w64) (to_be_bytes w64) (λ n. n < 2 ^ 64)
long_reads = number_reads w64 (2 ^ 64) (to_be_bytes w64) wide64

pub frame_again : (f : FrameParts) (rest : List ℕ) → Fits f → frame_at (text_of_frame f ++ rest) ≡ Ok (f, rest)
frame_again f rest fits =
    let k = f.kind in
    let m = f.moment in
    let p = f.payload in
    let s = length p in
    let c = crc_32 (frame_fields k m p) in
    let all = text_of_frame f ++ rest in
    let front : ℕ → List ℕ = λ n. take (13 + n) all in
    let tail = to_be_bytes w32 c ++ rest in
    let sized = to_be_bytes w32 s ++ (p ++ tail) in
    in_steps all
    ∙ ap (read_with front) (frame_in_order f rest)
    ∙ ap (λ (read : Read ℕ). read >>= kind_read front) (byte_reads.again k (to_be_bytes w64 m ++ sized) fits.kind)
    ∙ ap (λ (read : Read ℕ). read >>= moment_read front k) (long_reads.again m sized fits.moment)
    ∙ ap (λ (read : Read ℕ). read >>= size_read front k m) (word_reads.again s (p ++ tail) fits.payload)
    ∙ ap (λ (read : Read (List ℕ)). read >>= payload_read front k m s) (prefix_again s p tail refl)
    ∙ ap (λ (read : Read ℕ). read >>= sum_read front k m s p) (word_reads.again c rest (checksum_fits (frame_fields k m p)))
    ∙ check-true (c == crc_32 (front s)) Length (f, rest) (eq-eqb c (crc_32 (front s)) (ap crc_32 (sym (front_of_frame f rest))))

-- what a frame was read of
pub record IsReadAs (bytes : List ℕ) (f : FrameParts) (rest : List ℕ) : Type 0 where
  pub text : bytes ≡ text_of_frame f ++ rest
  pub fits : Fits f
  pub payload_fits : IsBytes f.payload
  pub rest_fits : IsBytes rest

shape : (k m s c : ℕ) (p rest : List ℕ) → length p ≡ s
    → (one_byte k ++ (to_be_bytes w64 m ++ (to_be_bytes w32 s ++ (p ++ to_be_bytes w32 c)))) ++ rest ≡ frame_fields k m p ++ (to_be_bytes w32 c ++ rest)
unfolding frame_fields
shape k m s c p rest len =
    ap (λ (n : ℕ). (one_byte k ++ (to_be_bytes w64 m ++ (to_be_bytes w32 n ++ (p ++ to_be_bytes w32 c)))) ++ rest) (sym len) ∙ simp append_assoc

sealed_is : (fields rest : List ℕ) → fields ++ (to_be_bytes w32 (crc_32 fields) ++ rest) ≡ sealed fields ++ rest
unfolding sealed
sealed_is fields rest = sym (append_assoc fields (to_be_bytes w32 (crc_32 fields)) rest)

pub frame_takes : (bytes : List ℕ) (f : FrameParts) (rest : List ℕ) → IsBytes bytes → frame_at bytes ≡ Ok (f, rest) → IsReadAs bytes f rest
frame_takes bytes f rest fits e =
    let front : ℕ → List ℕ = λ n. take (13 + n) bytes in
    let a = bind_ok (number_at w8 bytes) (kind_read front) (f, rest) (sym (in_steps bytes) ∙ e) in
    let k = a.0.0 in
    let b = bind_ok (number_at w64 a.0.1) (moment_read front k) (f, rest) a.2 in
    let m = b.0.0 in
    let c = bind_ok (number_at w32 b.0.1) (size_read front k m) (f, rest) b.2 in
    let s = c.0.0 in
    let d = bind_ok (prefix_at s c.0.1) (payload_read front k m s) (f, rest) c.2 in
    let p = d.0.0 in
    let g = bind_ok (number_at w32 d.0.1) (sum_read front k m s p) (f, rest) d.2 in
    let behind = g.0.1 in
    let made : FrameParts = record { kind = k; moment = m; payload = p } in
    let h = check_ok (g.0.0 == crc_32 (front s)) Length (made, behind) (f, rest) g.2 in
    let ta = byte_reads.takes bytes k a.0.1 fits a.1 in
    let tb = long_reads.takes a.0.1 m b.0.1 ta.0.rest_fits b.1 in
    let tc = word_reads.takes b.0.1 s c.0.1 tb.0.rest_fits c.1 in
    let td = prefix_takes s c.0.1 p d.0.1 tc.0.rest_fits d.1 in
    let tg = word_reads.takes d.0.1 g.0.0 behind td.0.rest_fits g.1 in
    let end = Takes-then c.0.1 p d.0.1 (to_be_bytes w32 g.0.0) behind td.0 tg.0 in
    let sized = Takes-then b.0.1 (to_be_bytes w32 s) c.0.1 (p ++ to_be_bytes w32 g.0.0) behind tc.0 end in
    let dated = Takes-then a.0.1 (to_be_bytes w64 m) b.0.1 (to_be_bytes w32 s ++ (p ++ to_be_bytes w32 g.0.0)) behind tb.0 sized in
    let whole = Takes-then bytes (one_byte k) a.0.1 (to_be_bytes w64 m ++ (to_be_bytes w32 s ++ (p ++ to_be_bytes w32 g.0.0))) behind ta.0 dated in
    let fields = frame_fields k m p in
    let parts : bytes ≡ fields ++ (to_be_bytes w32 g.0.0 ++ behind) = whole.parts ∙ shape k m s g.0.0 p behind td.1.0 in
    let start : take (13 + s) bytes ≡ fields = ap (take (13 + s)) parts ∙ take_at fields (to_be_bytes w32 g.0.0 ++ behind) (13 + s) (fields_long k m p ∙ ap (λ (n : ℕ). 13 + n) td.1.0) in
    let checksum : g.0.0 ≡ crc_32 fields = eqb-true g.0.0 (crc_32 (front s)) h.0 ∙ ap crc_32 start in
    let seen : IsReadAs bytes made behind = record {
      text = parts ∙ ap (λ (n : ℕ). fields ++ (to_be_bytes w32 n ++ behind)) checksum ∙ sealed_is fields behind;
      fits = record { kind = ta.1; moment = tb.1; payload = subst (λ (n : ℕ). n < 2 ^ 32) (sym td.1.0) tc.1 };
      payload_fits = td.1.1;
      rest_fits = whole.rest_fits;
    } in
    subst (λ (x : FrameParts × List ℕ). IsReadAs bytes x.0 x.1) h.1 seen

-- reading that has a fault gives nothing
pub refuted : {A : Type 0} (r : Result A DecodeFault) (x : A) → IsErr r → r ≡ Ok x → ⊥
refuted (Ok y) x wrong e = let no : false ≡ true = wrong in cc
refuted (Err fault) x wrong e = cc

pub none_there : (bytes : List ℕ) → IsErr (frame_at bytes) → HasFrame bytes → ⊥
none_there bytes wrong has =
    let f : FrameParts = record { kind = has.kind; moment = has.moment; payload = has.payload } in
    refuted (frame_at bytes) (f, has.rest) wrong (ap frame_at has.text ∙ frame_again f has.rest has.fits)

-- what is behind so many bytes, and behind a number, is shorter by these
prefix_length : (n : ℕ) (bytes prefix rest : List ℕ) → prefix_at n bytes ≡ Ok (prefix, rest) → length bytes ≡ n + length rest
unfolding prefix_at
prefix_length n bytes prefix rest e =
    let g = short (nat_lt (length bytes) n) (take n bytes, drop n bytes) (prefix, rest) e in
    let long : n ≤ length bytes = ltb-false _ _ g.0 in
    let behind : drop n bytes ≡ rest = ap (λ (x : List ℕ × List ℕ). x.1) g.1 in
    rw (← behind) (omega (arith, length-drop n bytes))
  where
    short : {A : Type 0} (b : Bool) (x y : A) → (if b then Err Short else Ok x) ≡ Ok y → (b ≡ false) × (x ≡ y)
    short true x y e = absurd cc
    short false x y e = (refl, cc)

number_length : (w : Width) (bytes : List ℕ) (n : ℕ) (rest : List ℕ) → number_at w bytes ≡ Ok (n, rest) → length bytes ≡ byte_len w + length rest
number_length w bytes n rest e =
    let a = bind_ok (prefix_at (byte_len w) bytes) (λ prefix. Ok (from_be_bytes w prefix.0, prefix.1)) (n, rest) e in
    let same : a.0.1 ≡ rest = ap (λ (x : ℕ × List ℕ). x.1) (ok_is (from_be_bytes w a.0.0, a.0.1) (n, rest) a.2) in
    prefix_length (byte_len w) bytes a.0.0 a.0.1 a.1 ∙ ap (λ (b : List ℕ). byte_len w + length b) same

-- the fields of a frame and its checksum are within the bytes
pub fields_within : (bytes : List ℕ) (k m s : ℕ) (a b d p e : List ℕ) → number_at w8 bytes ≡ Ok (k, a) → number_at w64 a ≡ Ok (m, b) → number_at w32 b ≡ Ok (s, d)
    → prefix_at s d ≡ Ok (p, e) → 13 + s ≤ length bytes
fields_within bytes k m s a b d p e one two three four =
    omega (arith, number_length w8 bytes k a one, number_length w64 a m b two, number_length w32 b s d three, prefix_length s d p e four)

-- a frame has bytes
pub frame_long : (k m : ℕ) (p rest : List ℕ) → length rest < length (frame k m p ++ rest)
unfolding sealed
frame_long k m p rest =
    let fields = frame_fields k m p in
    let sum = to_be_bytes w32 (crc_32 fields) in
    omega (arith, length-append (fields ++ sum) rest, length-append fields sum, fields_long k m p)
