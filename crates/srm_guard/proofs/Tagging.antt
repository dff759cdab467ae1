-- Which bytes stand with their tag.
use Rattle.std.proofs.Common.{◌≡◌, ℕ, ◌+◌, ◌<◌, ◌≤◌, List, [], ◌∷◌, ◌++◌, take, drop, length, ap, sym, ◌∙◌, arith}
use Rattle.std.proofs.lemmas.List.{take_at, drop_at, length-append, length-take, take-append-drop}
use Rattle.std.specs.Prelude.{Bool, IsTrue, ◌↔◌}
use Rattle.sha2.specs.Sha256.{sha256}
use Rattle.sha2.proofs.Facts256.{length-sha256}
use Rattle.srm_guard.specs.Tags.{tag_of, tagged, hmac_sha256, padded, key_block, label, HasNoTag, HasOldTag, old_tag_of, before_tag, tag_at_end}

-- a tag has 16 bytes
pub length_tag : (key : List ℕ) (to : ℕ) (bytes : List ℕ) → length (tag_of key to bytes) ≡ 16
length_tag key to bytes = half (hmac_sha256 key ((label ++ to ∷ []) ++ bytes)) (length-sha256 (padded (key_block key) 0x5c ++ sha256 (padded (key_block key) 0x36 ++ ((label ++ to ∷ []) ++ bytes))))
  where
    half : (code : List ℕ) → length code ≡ 32 → length (take 16 code) ≡ 16
    half code h = omega (arith, length-take 16 code)

pub length_tagged : (key : List ℕ) (to : ℕ) (text bytes : List ℕ) → bytes ≡ tagged key to text → length bytes ≡ length text + 16
length_tagged key to text bytes is = ap length is ∙ length-append text (tag_of key to text) ∙ ap (λ n. length text + n) (length_tag key to text)

-- fewer bytes than a tag has
pub too_short : (key : List ℕ) (to : ℕ) (bytes : List ℕ) → length bytes < 16 → HasNoTag key to bytes
too_short key to bytes few text is = omega (arith, length_tagged key to text bytes is)

-- the front's tag is the back
pub has_tag : (key : List ℕ) (to : ℕ) (bytes tag : List ℕ) (count : ℕ) → tag ≡ tag_of key to (take count bytes) → tag ≡ drop count bytes → bytes ≡ tagged key to (take count bytes)
has_tag key to bytes tag count is same = sym (take-append-drop count bytes) ∙ ap (λ back. take count bytes ++ back) (sym same ∙ is)

-- the text before a tag
pub text_of : (key : List ℕ) (to : ℕ) (text bytes : List ℕ) (count : ℕ) → count + 16 ≡ length bytes → bytes ≡ tagged key to text → take count bytes ≡ text
text_of key to text bytes count all whole =
    let long : length text ≡ count = omega (arith, length_tagged key to text bytes whole) in
    ap (take count) whole ∙ take_at text (tag_of key to text) count long

-- the front's tag isn't the back
pub has_no_tag : (key : List ℕ) (to : ℕ) (bytes tag : List ℕ) (count : ℕ) → count + 16 ≡ length bytes → tag ≡ tag_of key to (take count bytes) → (tag ≡ drop count bytes → ⊥) → HasNoTag key to bytes
has_no_tag key to bytes tag count all is other text whole =
    let long : length text ≡ count = omega (arith, length_tagged key to text bytes whole) in
    let front : take count bytes ≡ text = text_of key to text bytes count all whole in
    let back : drop count bytes ≡ tag_of key to text = ap (drop count) whole ∙ drop_at text (tag_of key to text) count long in
    other (is ∙ ap (tag_of key to) front ∙ sym back)

-- fewer bytes than a tag has, or as many
pub has_no_old_tag : (key bytes : List ℕ) → length bytes < 16 → HasOldTag key bytes → ⊥
has_no_old_tag key bytes few has = omega (arith, has.0, few)

pub has_old_tag : (key bytes front back tag : List ℕ) (b : Bool) → 16 ≤ length bytes → front ≡ before_tag bytes → back ≡ tag_at_end bytes → tag ≡ old_tag_of key front → (IsTrue b ↔ (tag ≡ back)) → IsTrue b ↔ HasOldTag key bytes
has_old_tag key bytes front back tag b long fronts backs is same = (
  λ yes. (long, sym backs ∙ sym (same.0 yes) ∙ is ∙ ap (old_tag_of key) fronts),
  λ has. same.1 (is ∙ ap (old_tag_of key) fronts ∙ sym has.1 ∙ sym backs),
)
