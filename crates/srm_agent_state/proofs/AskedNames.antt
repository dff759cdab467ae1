-- The names that a request asks for rise, and are of one stream.
use Rattle.std.proofs.Common.{◌≡◌, ℕ, zero, suc, ◌+◌, ◌/◌, ◌%◌, ◌<◌, ◌==◌, Bool, true, false, List, [], ◌∷◌, ◌++◌, map, refl, sym, ap, ◌∙◌, arith, add-zero}
use Rattle.std.specs.Prelude.{if◌then◌else◌}
use Rattle.std.specs.List.{AllByRecursion}
use Rattle.std.proofs.lemmas.Bool.{and_from, or_right}
use Rattle.std.proofs.lemmas.Bool.Decides.{nat_tests}
use Rattle.srm_names.specs.declared.stream.Stream.{Stream}
use Rattle.srm_names.specs.FullName.{FullName}
use Rattle.srm_names.specs.Names.{stream_below, name_below, ascending, named}
use Rattle.srm_names.proofs.Same.{same_stream-itself}
use Rattle.srm_codec.specs.Spelling.{bits_set, asked_by}
use Rattle.srm_codec.proofs.Asked.{at_bit, bits_more, no_bits, shifted}

-- the names that a request asks for rise, and are of one stream

pub below_in_stream : (s : Stream) (a b : ℕ) → a < b → name_below (named s a) (named s b) ≡ true
below_in_stream s a b lt = or_right (stream_below s s) _ (and_from _ _ (same_stream-itself s) (grind (arith, nat_tests)))

abbrev bit_names : FullName → ℕ → List ℕ → List FullName
bit_names name bit bits = map (λ b. at_bit name (bit + b)) bits

bits_rise : (name : FullName) (k low bit mask : ℕ) → low < name.number + 1 + bit → ascending name_below (named name.stream low ∷ bit_names name bit (bits_set k mask)) ≡ true
bits_rise name zero low bit mask lt = ap (λ bits. ascending name_below (named name.stream low ∷ bit_names name bit bits)) (no_bits mask)
bits_rise name (suc k) low bit mask lt =
    ap (λ bits. ascending name_below (named name.stream low ∷ bit_names name bit bits)) (bits_more k mask)
    ∙ go (mask % 2 == 1) (bits_rise name k (name.number + 1 + bit) (bit + 1) (mask / 2) (omega arith)) (bits_rise name k low (bit + 1) (mask / 2) (omega (arith, lt)))
  where
    go : (b : Bool) → ascending name_below (at_bit name bit ∷ bit_names name (bit + 1) (bits_set k (mask / 2))) ≡ true → ascending name_below (named name.stream low ∷ bit_names name (bit + 1) (bits_set k (mask / 2))) ≡ true
        → ascending name_below (named name.stream low ∷ bit_names name bit ((if b then 0 ∷ [] else []) ++ map (λ x. x + 1) (bits_set k (mask / 2)))) ≡ true
    go true with_ without =
        ap (λ ns. ascending name_below (named name.stream low ∷ at_bit name (bit + 0) ∷ ns)) (shifted name bit (bits_set k (mask / 2)))
        ∙ and_from _ _ (below_in_stream name.stream low (name.number + 1 + (bit + 0)) (omega (arith, lt))) (ap (λ b. ascending name_below (at_bit name b ∷ bit_names name (bit + 1) (bits_set k (mask / 2)))) (add-zero bit) ∙ with_)
    go false with_ without = ap (λ ns. ascending name_below (named name.stream low ∷ ns)) (shifted name bit (bits_set k (mask / 2))) ∙ without

from_0 : (name : FullName) (bits : List ℕ) → bit_names name 0 bits ≡ map (at_bit name) bits
from_0 name [] = refl
from_0 name (b ∷ bits) = ap (λ k. at_bit name k ∷ bit_names name 0 bits) (omega arith) ∙ ap (λ ns. at_bit name b ∷ ns) (from_0 name bits)

pub asked_rise : (name : FullName) (mask : ℕ) → ascending name_below (asked_by name mask) ≡ true
asked_rise name mask = ap (λ ns. ascending name_below (name ∷ ns)) (sym (from_0 name (bits_set 32 mask))) ∙ bits_rise name 32 name.number 0 mask (omega arith)

one_stream : (s : Stream) (f : ℕ → ℕ) (bits : List ℕ) → AllByRecursion (λ (n : FullName). n.stream ≡ s) (map (λ b. named s (f b)) bits)
one_stream s f [] = tt
one_stream s f (b ∷ bits) = (refl, one_stream s f bits)

pub asked_in_stream : (name : FullName) (mask : ℕ) → AllByRecursion (λ (n : FullName). n.stream ≡ name.stream) (asked_by name mask)
asked_in_stream name mask = (refl, one_stream name.stream (λ b. name.number + 1 + b) (bits_set 32 mask))
