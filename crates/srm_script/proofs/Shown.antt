-- Showing a body some bytes at a time.
use Rattle.std.proofs.Common.{◌≡◌, ℕ, Bool, true, false, ◌&&◌, ◌+◌, ◌<◌, List, [], ◌∷◌, ◌++◌, length, take, slice_set, get_or, ap, sym, ◌∙◌, append_assoc}
use Rattle.std.specs.Bool.{OnTrue}
use Rattle.std.proofs.lemmas.List.{take_more, take_more_set, map-append}
use Rattle.srm_script.specs.TookLines.{shown_byte, body_text}

-- one byte more
pub shown_more : (bytes shown : List ℕ) (at byte : ℕ) → at < length bytes → at < length shown → take at shown ≡ body_text (take at bytes)
    → byte ≡ shown_byte (get_or bytes at 0) → take (at + 1) (slice_set shown at byte) ≡ body_text (take (at + 1) bytes)
shown_more bytes shown at byte there room so_far e =
    take_more_set shown at byte room
    ∙ ap (λ (text : List ℕ). text ++ byte ∷ []) so_far
    ∙ ap (λ (last : ℕ). body_text (take at bytes) ++ last ∷ []) e
    ∙ sym (map-append shown_byte (take at bytes) (get_or bytes at 0 ∷ []))
    ∙ ap body_text (sym (take_more bytes at 0 there))

-- some bytes more
pub shown_on : (done text bytes rest before all : List ℕ) → done ++ body_text before ≡ all → before ≡ bytes ++ rest → text ≡ body_text bytes
    → (done ++ text) ++ body_text rest ≡ all
shown_on done text bytes rest before all so_far parts e =
    append_assoc done text (body_text rest)
    ∙ ap (λ (first : List ℕ). done ++ (first ++ body_text rest)) e
    ∙ ap (λ (text : List ℕ). done ++ text) (sym (map-append shown_byte bytes rest) ∙ ap body_text (sym parts))
    ∙ so_far

-- none yet, and one byte more, of those that are shown as they are
pub plain_more : (bytes : List ℕ) (at byte : ℕ) (plain more : Bool) → at < length bytes → byte ≡ get_or bytes at 0 → OnTrue plain (body_text (take at bytes) ≡ take at bytes) → OnTrue more (shown_byte byte ≡ byte)
    → OnTrue (plain && more) (body_text (take (at + 1) bytes) ≡ take (at + 1) bytes)
plain_more bytes at byte false more there is so_far same = tt
plain_more bytes at byte true false there is so_far same = tt
plain_more bytes at byte true true there is so_far same =
    ap body_text (take_more bytes at 0 there)
    ∙ map-append shown_byte (take at bytes) (get_or bytes at 0 ∷ [])
    ∙ ap (λ (text : List ℕ). text ++ shown_byte (get_or bytes at 0) ∷ []) so_far
    ∙ ap (λ (last : ℕ). take at bytes ++ last ∷ []) (sym (ap shown_byte is) ∙ same ∙ is)
    ∙ sym (take_more bytes at 0 there)
