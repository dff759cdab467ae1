-- A frame behind other bytes.
use Rattle.std.proofs.Common.{◌≡◌, ℕ, List, ◌∷◌, ◌++◌, length, take, drop, ap, refl, ◌∙◌, append_assoc}
use Rattle.std.proofs.Math.Seq.{take-append_seam, drop-append_seam}
use Rattle.std.specs.Int.{w32, w64, to_be_bytes}
use Rattle.srm_frames.specs.Frames.{sealed, frame_fields, frame}

abbrev sealed_from : ℕ → List ℕ → List ℕ
sealed_from start bytes = take start bytes ++ sealed (drop start bytes)

-- what is sealed from where it begins
sealed_behind : (before fields : List ℕ) → sealed_from (length before) (before ++ fields) ≡ before ++ sealed fields
sealed_behind before fields = rw (take-append_seam before fields, drop-append_seam before fields) refl

abbrev head_of : ℕ → ℕ → ℕ → List ℕ
head_of kind moment size = kind ∷ (to_be_bytes w64 moment ++ to_be_bytes w32 size)

fields_of : (kind moment : ℕ) (payload : List ℕ) → head_of kind moment (length payload) ++ payload ≡ frame_fields kind moment payload
unfolding frame_fields
fields_of kind moment payload = simp append_assoc refl

-- a head, its payload, and the checksum of both
pub framed : (kind moment start size : ℕ) (before payload bytes : List ℕ) → start ≡ length before → size ≡ length payload → bytes ≡ (before ++ head_of kind moment size) ++ payload
    → take start bytes ++ sealed (drop start bytes) ≡ before ++ frame kind moment payload
framed kind moment start size before payload bytes begins sized is =
    let fields : bytes ≡ before ++ frame_fields kind moment payload =
    is ∙ ap (λ n. (before ++ head_of kind moment n) ++ payload) sized ∙ append_assoc before (head_of kind moment (length payload)) payload ∙ ap (λ (f : List ℕ). before ++ f) (fields_of kind moment payload) in
    ap (λ n. sealed_from n bytes) begins ∙ ap (sealed_from (length before)) fields ∙ sealed_behind before (frame_fields kind moment payload)
