-- What a page worker took is read as it is written.
use Rattle.std.proofs.Common.{◌≡◌, ℕ, ◌<◌, ◌≤◌, Bool, true, false, List, [], ◌∷◌, ◌++◌, length, Result, Ok, None, refl, sym, ap, subst, ◌∙◌, append_assoc, append-nil, inl, inr, lit<}
use Rattle.std.proofs.lemmas.Bool.{eqb-true}
use Rattle.std.proofs.lemmas.List.{nil_from_length}
use Rattle.std.specs.Prelude.{◌==◌, ◌⊎◌, if◌then◌else◌}
use Rattle.std.specs.Int.{w8, w64, to_be_bytes}
use Rattle.srm_names.specs.declared.limits.TheConstants.{MEMBERS, LATEST_MOMENT}
use Rattle.srm_names.specs.declared.page_msg.PageMsg.{PageMsg}
use Rattle.srm_names.specs.declared.page_msg.PageMsg.TheVariants as messages
use Rattle.srm_names.specs.FullName.{FullName}
use Rattle.srm_codec.specs.declared.fault.DecodeFault.{DecodeFault}
use Rattle.srm_codec.specs.declared.fault.DecodeFault.TheVariants.{Length}
use Rattle.srm_codec.specs.Spelling.{is_page, page_bytes, name_bytes}
use Rattle.srm_codec.specs.Judging.{◌>>=◌, Read, nothing_after, number_at, member_at, moment_at, page_at, name_at}
use Rattle.srm_codec.proofs.Readers.{IsBytes, bind_ok, check_ok, ok_is, Reads}
use Rattle.srm_codec.proofs.FieldLaws.{one_byte, member_reads, moment_reads, page_reads, name_reads}
use Rattle.srm_frames.specs.declared.format.TheConstants.{OPEN, DRAW, LEFT, CLOSE}
use Rattle.srm_frames.specs.Messages.{message_text}
use Rattle.srm_frames.specs.Readings.{bare, open_in, draw_in, left_in, message_behind, message_in}
use Rattle.srm_frames.specs.WhatIsRead.{IsMessage}
use Rattle.srm_frames.proofs.FrameLaws.{byte_reads}

-- ---- a value that is made of what is read

-- read alone, with nothing behind it
abbrev pub alone : {A B : Type 0} → (List ℕ → Read A) → (A → B) → List ℕ → Result B DecodeFault
alone read make bytes = read bytes >>= λ x. nothing_after (make x.0, x.1)

pub record IsAlone {A B : Type 0} (write : A → List ℕ) (F : A → Type 0) (make : A → B) (bytes : List ℕ) (y : B) : Type 0 where
  pub of : A
  pub made : make of ≡ y
  pub text : bytes ≡ write of
  pub fits : F of

pub alone_takes : {A B : Type 0} (read : List ℕ → Read A) (write : A → List ℕ) (F : A → Type 0) (make : A → B) → Reads read write F
    → (bytes : List ℕ) (y : B) → IsBytes bytes → alone read make bytes ≡ Ok y → IsAlone write F make bytes y
alone_takes read write F make reads bytes y fits e =
    let a = bind_ok (read bytes) (λ x. nothing_after (make x.0, x.1)) y e in
    let b = check_ok (length a.0.1 == 0) Length (make a.0.0) y a.2 in
    let t = reads.takes bytes a.0.0 a.0.1 fits a.1 in
    let none : a.0.1 ≡ [] = nil_from_length a.0.1 (eqb-true _ _ b.0) in
    record { of = a.0.0; made = b.1; text = t.0.parts ∙ ap (λ (rest : List ℕ). write a.0.0 ++ rest) none ∙ append-nil (write a.0.0); fits = t.1 }

pub alone_again : {A B : Type 0} (read : List ℕ → Read A) (write : A → List ℕ) (F : A → Type 0) (make : A → B) → Reads read write F
    → (x : A) → F x → alone read make (write x) ≡ Ok (make x)
alone_again {A} read write F make reads x f =
    ap (alone read make) (sym (append-nil (write x))) ∙ ap (λ (r : Read A). r >>= λ y. nothing_after (make y.0, y.1)) (reads.again x [] f)

-- read in front of bytes that are as they are
abbrev pub in_front : {A B : Type 0} → (List ℕ → Read A) → (A → List ℕ → B) → List ℕ → Result B DecodeFault
in_front read make bytes = read bytes >>= λ x. Ok (make x.0 x.1)

pub record IsInFront {A B : Type 0} (write : A → List ℕ) (F : A → Type 0) (make : A → List ℕ → B) (bytes : List ℕ) (y : B) : Type 0 where
  pub of : A
  pub rest : List ℕ
  pub made : make of rest ≡ y
  pub text : bytes ≡ write of ++ rest
  pub fits : F of

pub in_front_takes : {A B : Type 0} (read : List ℕ → Read A) (write : A → List ℕ) (F : A → Type 0) (make : A → List ℕ → B) → Reads read write F
    → (bytes : List ℕ) (y : B) → IsBytes bytes → in_front read make bytes ≡ Ok y → IsInFront write F make bytes y
in_front_takes {A} {B} read write F make reads bytes y fits e =
    let a = bind_ok (read bytes) (λ x. Ok (make x.0 x.1)) y e in
    let t = reads.takes bytes a.0.0 a.0.1 fits a.1 in
    record { of = a.0.0; rest = a.0.1; made = ok_is (make a.0.0 a.0.1) y a.2; text = t.0.parts; fits = t.1 }

pub in_front_again : {A B : Type 0} (read : List ℕ → Read A) (write : A → List ℕ) (F : A → Type 0) (make : A → List ℕ → B) → Reads read write F
    → (x : A) (rest : List ℕ) → F x → in_front read make (write x ++ rest) ≡ Ok (make x rest)
in_front_again {A} read write F make reads x rest f = ap (λ (r : Read A). r >>= λ y. Ok (make y.0 y.1)) (reads.again x rest f)

pub bare_takes : {A : Type 0} (x y : A) (bytes : List ℕ) → bare x bytes ≡ Ok y → (x ≡ y) × (bytes ≡ [])
bare_takes x y bytes e = let b = check_ok (length bytes == 0) Length x y e in (b.1, nil_from_length bytes (eqb-true _ _ b.0))

-- which way a choice went that found something
pub went : {A : Type 0} (b : Bool) (x y : Result A DecodeFault) (z : A) → (if b then x else y) ≡ Ok z → ((b ≡ true) × (x ≡ Ok z)) ⊎ ((b ≡ false) × (y ≡ Ok z))
went true x y z e = inl (refl, e)
went false x y z e = inr (refl, e)

-- ---- messages

-- the message that stands behind its kind
pub record IsBehind (kind : ℕ) (bytes : List ℕ) (m : PageMsg) : Type 0 where
  pub text : kind ∷ bytes ≡ message_text m
  pub fits : IsMessage m

open_takes : (bytes : List ℕ) (m : PageMsg) → IsBytes bytes → open_in bytes ≡ Ok m → IsBehind OPEN bytes m
unfolding open_in
open_takes bytes m fits e =
    let a = alone_takes page_at page_bytes is_page (λ p. messages.Open p) page_reads bytes m fits e in
    subst (IsBehind OPEN bytes) a.made (record { text = ap (λ (t : List ℕ). OPEN ∷ t) a.text; fits = a.fits })

left_takes : (bytes : List ℕ) (m : PageMsg) → IsBytes bytes → left_in bytes ≡ Ok m → IsBehind LEFT bytes m
unfolding left_in
left_takes bytes m fits e =
    let a = alone_takes member_at one_byte (λ n. n < MEMBERS) (λ n. messages.Left n) member_reads bytes m fits e in
    subst (IsBehind LEFT bytes) a.made (record { text = ap (λ (t : List ℕ). LEFT ∷ t) a.text; fits = a.fits })

abbrev drawn : FullName → ℕ → List ℕ → PageMsg
drawn name stamp body = messages.Draw (record { name = name; stamp = stamp; body = body })

draw_takes : (bytes : List ℕ) (m : PageMsg) → IsBytes bytes → draw_in bytes ≡ Ok m → IsBehind DRAW bytes m
unfolding draw_in
draw_takes bytes m fits e =
    let a = bind_ok (name_at None None bytes) (λ name. moment_at name.1 >>= λ stamp. Ok (drawn name.0 stamp.0 stamp.1)) m e in
    let t = (name_reads None None).takes bytes a.0.0 a.0.1 fits a.1 in
    let b = in_front_takes moment_at (to_be_bytes w64) (λ n. n ≤ LATEST_MOMENT) (drawn a.0.0) moment_reads a.0.1 m t.0.rest_fits a.2 in
    let whole : bytes ≡ name_bytes a.0.0 ++ to_be_bytes w64 b.of ++ b.rest =
    t.0.parts ∙ ap (λ (t : List ℕ). name_bytes a.0.0 ++ t) b.text ∙ sym (append_assoc (name_bytes a.0.0) (to_be_bytes w64 b.of) b.rest) in
    subst (IsBehind DRAW bytes) b.made (record { text = ap (λ (t : List ℕ). DRAW ∷ t) whole; fits = (t.1.named, b.fits) })

close_takes : (bytes : List ℕ) (m : PageMsg) → bare messages.Close bytes ≡ Ok m → IsBehind CLOSE bytes m
close_takes bytes m e =
    let b = bare_takes messages.Close m bytes e in
    subst (IsBehind CLOSE bytes) b.0 (record { text = ap (λ (t : List ℕ). CLOSE ∷ t) b.1; fits = tt })

of_kind : (kind k : ℕ) (bytes : List ℕ) (m : PageMsg) → (kind == k) ≡ true → IsBehind k bytes m → IsBehind kind bytes m
of_kind kind k bytes m same behind = subst (λ (n : ℕ). IsBehind n bytes m) (sym (eqb-true kind k same)) behind

behind_takes : (kind : ℕ) (bytes : List ℕ) (m : PageMsg) → IsBytes bytes → message_behind kind bytes ≡ Ok m → IsBehind kind bytes m
behind_takes kind bytes m fits e =
    elim (went (kind == OPEN) _ _ m e) [
      | inl (t, h) ↦ of_kind kind OPEN bytes m t (open_takes bytes m fits h)
      | inr (_, e) ↦ elim (went (kind == DRAW) _ _ m e) [
        | inl (t, h) ↦ of_kind kind DRAW bytes m t (draw_takes bytes m fits h)
        | inr (_, e) ↦ elim (went (kind == LEFT) _ _ m e) [
          | inl (t, h) ↦ of_kind kind LEFT bytes m t (left_takes bytes m fits h)
          | inr (_, e) ↦ elim (went (kind == CLOSE) _ _ m e) [
            | inl (t, h) ↦ of_kind kind CLOSE bytes m t (close_takes bytes m h)
            | inr (_, e) ↦ absurd cc
          ]
        ]
      ]
    ]

pub message_takes : (bytes : List ℕ) (m : PageMsg) → IsBytes bytes → message_in bytes ≡ Ok m → (bytes ≡ message_text m) × IsMessage m
unfolding message_in
message_takes bytes m fits e =
    let a = bind_ok (number_at w8 bytes) (λ kind. message_behind kind.0 kind.1) m e in
    let t = byte_reads.takes bytes a.0.0 a.0.1 fits a.1 in
    let b = behind_takes a.0.0 a.0.1 m t.0.rest_fits a.2 in
    (t.0.parts ∙ b.text, b.fits)

read_behind : (kind : ℕ) (bytes : List ℕ) → kind < 256 → message_in (kind ∷ bytes) ≡ message_behind kind bytes
unfolding message_in
read_behind kind bytes lt = ap (λ (r : Read ℕ). r >>= λ k. message_behind k.0 k.1) (byte_reads.again kind bytes lt)

pub message_again : (m : PageMsg) → IsMessage m → message_in (message_text m) ≡ Ok m
unfolding open_in draw_in left_in
message_again (messages.Open page) fits = read_behind OPEN (page_bytes page) (lit< tt) ∙ alone_again page_at page_bytes is_page (λ p. messages.Open p) page_reads page fits
message_again (messages.Draw d) fits =
    let behind = to_be_bytes w64 d.stamp ++ d.body in
    read_behind DRAW (name_bytes d.name ++ to_be_bytes w64 d.stamp ++ d.body) (lit< tt)
    ∙ ap (λ (bytes : List ℕ). name_at None None bytes >>= λ name. moment_at name.1 >>= λ stamp. Ok (drawn name.0 stamp.0 stamp.1)) (append_assoc (name_bytes d.name) (to_be_bytes w64 d.stamp) d.body)
    ∙ ap (λ (r : Read FullName). r >>= λ name. moment_at name.1 >>= λ stamp. Ok (drawn name.0 stamp.0 stamp.1)) ((name_reads None None).again d.name behind (record { named = fits.0; from = refl; above = refl }))
    ∙ in_front_again moment_at (to_be_bytes w64) (λ n. n ≤ LATEST_MOMENT) (drawn d.name) moment_reads d.stamp d.body fits.1
message_again (messages.Left member) fits = read_behind LEFT (one_byte member) (lit< tt) ∙ alone_again member_at one_byte (λ n. n < MEMBERS) (λ n. messages.Left n) member_reads member fits
message_again messages.Close fits = read_behind CLOSE [] (lit< tt)
