-- Which bytes were sealed for a member, and what they open to.
use Rattle.std.proofs.Common.{◌≡◌, ℕ, ◌+◌, ◌-◌, ◌≤◌, List, take, length, ap, sym, ◌∙◌, arith, subst, true, false}
use Rattle.std.proofs.lemmas.List.{take-take, length-take-le}
use Rattle.srm_window.specs.Senders.{Numbered, admits_of, windows_after}
use Rattle.srm_guard.specs.declared.seal.Opened.TheVariants.{Again, Datagram}
use Rattle.srm_guard.specs.Tags.{tagged, HasNoTag}
use Rattle.srm_guard.specs.Seals.{SealView, with_number, sealed, number_at, number_in, IsNumber, HasNoNumber, HasNoSeal, Opens}
use Rattle.srm_guard.proofs.Tagging.{text_of, length_tagged}

-- bytes without a tag, or without a number before it
pub no_seal_untagged : (key : List ℕ) (me : ℕ) (bytes : List ℕ) → HasNoTag key me bytes → HasNoSeal key me bytes
no_seal_untagged key me bytes none n datagram is_number is = none (with_number n datagram) is

pub no_seal_unnumbered : (key : List ℕ) (me : ℕ) (bytes : List ℕ) (count : ℕ) → count + 16 ≡ length bytes → HasNoNumber (take count bytes) → HasNoSeal key me bytes
no_seal_unnumbered key me bytes count all none n datagram is_number is = none n datagram is_number (text_of key me (with_number n datagram) bytes count all is)

-- bytes with both
pub is_sealed : (key : List ℕ) (me : ℕ) (bytes : List ℕ) (end count : ℕ) (n : Numbered) → count ≤ end → bytes ≡ tagged key me (take end bytes) → take end bytes ≡ with_number n (take count (take end bytes)) → bytes ≡ sealed key me n (take count bytes)
is_sealed key me bytes end count n within is text =
    is ∙ ap (tagged key me) (text ∙ ap (with_number n) (take-take count end bytes within))

-- what is before a tag of 16 bytes
pub number_before : (bytes : List ℕ) (end : ℕ) (n : Numbered) → end ≡ length bytes - 16 → n ≡ number_at (take end bytes) → n ≡ number_in bytes
number_before bytes end n at is = is ∙ ap (λ k. number_at (take k bytes)) at

-- they open to a datagram, or came again
pub opens_datagram : (s t : SealView) (bytes : List ℕ) (end count : ℕ) (n : Numbered) → end ≤ length bytes → end ≡ length bytes - 16 → bytes ≡ tagged s.key s.me (take end bytes) → count ≤ length (take end bytes)
    → take end bytes ≡ with_number n (take count (take end bytes)) → n ≡ number_at (take end bytes) → IsNumber (number_at (take end bytes)) → admits_of n s.windows ≡ true → t ≡ record s { windows = windows_after n s.windows } → Opens (Datagram count) bytes s t
opens_datagram s t bytes end count n within at tag few text is fits new after =
    let same : n ≡ number_in bytes = number_before bytes end n at is in
    let small : count ≤ end = omega (arith, length-take-le end bytes within, few) in (
      omega arith,
      is_sealed s.key s.me bytes end count n small tag text ∙ ap (λ m. sealed s.key s.me m (take count bytes)) same,
      subst IsNumber (sym is ∙ same) fits,
      sym (ap (λ m. admits_of m s.windows) same) ∙ new,
      after ∙ ap (λ m. record s { windows = windows_after m s.windows }) same,
    )

pub opens_again : (s t : SealView) (bytes : List ℕ) (end count : ℕ) (n : Numbered) → end ≤ length bytes → end ≡ length bytes - 16 → bytes ≡ tagged s.key s.me (take end bytes) → count ≤ length (take end bytes)
    → take end bytes ≡ with_number n (take count (take end bytes)) → n ≡ number_at (take end bytes) → IsNumber (number_at (take end bytes)) → admits_of n s.windows ≡ false → t ≡ record s { windows = windows_after n s.windows } → Opens Again bytes s t
opens_again s t bytes end count n within at tag few text is fits old after =
    let same : n ≡ number_in bytes = number_before bytes end n at is in
    let small : count ≤ end = omega (arith, length-take-le end bytes within, few) in (
      take count bytes,
      is_sealed s.key s.me bytes end count n small tag text ∙ ap (λ m. sealed s.key s.me m (take count bytes)) same,
      subst IsNumber (sym is ∙ same) fits,
      sym (ap (λ m. admits_of m s.windows) same) ∙ old,
      after ∙ ap (λ m. record s { windows = windows_after m s.windows }) same,
    )

-- what has a tag has its bytes
pub long_enough : (key : List ℕ) (me : ℕ) (bytes : List ℕ) (end : ℕ) → end ≤ length bytes → bytes ≡ tagged key me (take end bytes) → end + 16 ≡ length bytes
long_enough key me bytes end within is = omega (arith, length_tagged key me (take end bytes) bytes is, length-take-le end bytes within)

-- the tag by the seal's own key and number
pub tagged_at : (s : SealView) (key : List ℕ) (me own : ℕ) (bytes : List ℕ) (end : ℕ) → key ≡ s.key → me ≡ s.me → own ≡ me → bytes ≡ tagged key own (take end bytes) → bytes ≡ tagged s.key s.me (take end bytes)
tagged_at s key me own bytes end keys mes owns is = is ∙ ap (λ k. tagged k own (take end bytes)) keys ∙ ap (λ m. tagged s.key m (take end bytes)) (owns ∙ mes)
