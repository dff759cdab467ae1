-- What is held under a name, and how far the held drawops of a stream go.
use Rattle.std.proofs.Common.{◌≡◌, ℕ, zero, suc, ◌≤◌, max, Bool, true, false, ◌&&◌, List, [], ◌∷◌, ◌++◌, map, refl, ap, sym, ◌∙◌, subst, arith, inl, inr}
use Rattle.std.specs.Prelude.{Some, nat_le, find, cond}
use Rattle.std.specs.List.{flat_map}
use Rattle.std.proofs.lemmas.Bool.Decides.{nat_tests}
use Rattle.srm_names.specs.declared.stream.Stream.{Stream}
use Rattle.srm_names.specs.declared.drawop.Drawop.{Drawop}
use Rattle.srm_names.specs.FullName.{FullName}
use Rattle.srm_names.specs.Histories.{greatest}
use Rattle.srm_names.specs.Names.{named, same_stream}
use Rattle.srm_names.proofs.Lists.{Has, Has-map, map-Has, find-Has, any_found}
use Rattle.srm_names.proofs.Same.{same_name-is, same_stream-is}
use Rattle.srm_store.specs.Held.{has_name, number_in, greatest_in}
use Rattle.srm_entries.specs.declared.entry.Entry.{Entry}
use Rattle.srm_entries.specs.Entries.{held, held_at, is_held, is_missing, known}
use Rattle.srm_entries.proofs.Arming.{some_of}
use Rattle.srm_entries.proofs.Responding.{exists, unheld_missing}
use Rattle.srm_entries.proofs.Showing.{greatest_in_has, held_is_shown, known_has}

-- what is held under a name
pub record HeldUnder (es : List Entry) (n : FullName) (d : Drawop) : Type 0 where
  pub at : held_at es n ≡ Some d
  pub has : Has d (held es)
  pub name : d.name ≡ n

pub held_under : (es : List Entry) (n : FullName) → is_held es n ≡ true → (d : Drawop) × HeldUnder es n d
held_under es n h =
    let (d, q) = some_of (find (has_name n) (held es)) (sym (any_found (has_name n) (held es)) ∙ h) in
    let found = find-Has (has_name n) (held es) d q in
    (d, record { at = q; has = found.0; name = same_name-is d.name n found.1 })

pub held_known : (es : List Entry) (s : Stream) (j : ℕ) → is_missing es (named s j) ≡ false → 1 ≤ j → j ≤ known es s → is_held es (named s j) ≡ true
held_known es s j m l u = go (is_held es (named s j)) refl
  where
    is : exists es (named s j) ≡ true
    is = test j (known es s) l u
      where
        test : (a b : ℕ) → 1 ≤ a → a ≤ b → (nat_le 1 a && nat_le a b) ≡ true
        test a b p q = grind (arith, nat_tests)

    go : (b : Bool) → is_held es (named s j) ≡ b → b ≡ true
    go true h = refl
    go false h = sym m ∙ unheld_missing es (named s j) is h

-- what is greatest is no more than a bound of all
none_further : (names : List FullName) (s : Stream) (k : ℕ) → ((n : FullName) → Has n names → n.stream ≡ s → n.number ≤ k) → greatest_in names s ≤ k
none_further [] s k all = omega arith
none_further (n ∷ names) s k all = which (same_stream s n.stream) refl (none_further names s k (λ x h q. all x (inr h) q))
  where
    which : (b : Bool) → same_stream s n.stream ≡ b → greatest_in names s ≤ k → greatest ((cond b (n.number ∷ []) []) ++ flat_map (number_in s) names) ≤ k
    which true q l = let u : n.number ≤ k = all n (inl refl) (sym (same_stream-is s n.stream q)) in both n.number (greatest_in names s) u l
      where
        both : (a b : ℕ) → a ≤ k → b ≤ k → max a b ≤ k
        both a b u l = omega arith
    which false q l = l

-- how far the held drawops of a stream go
abbrev held_to : List Entry → Stream → ℕ
held_to es s = greatest_in (map (λ (d : Drawop). d.name) (held es)) s

held_number : (es : List Entry) (s : Stream) (d : Drawop) → Has d (held es) → d.name.stream ≡ s → d.name.number ≤ held_to es s
held_number es s d h q = subst (λ t. d.name.number ≤ held_to es t) q (greatest_in_has (map (λ (x : Drawop). x.name) (held es)) d.name (map-Has (λ (x : Drawop). x.name) d (held es) h))

held_no_further : (es : List Entry) (s : Stream) → held_to es s ≤ known es s
held_no_further es s = none_further (map (λ (d : Drawop). d.name) (held es)) s (known es s) at
  where
    at : (n : FullName) → Has n (map (λ (d : Drawop). d.name) (held es)) → n.stream ≡ s → n.number ≤ known es s
    at n h q =
        let (d, has, is) = Has-map (λ (x : Drawop). x.name) n (held es) h in
        subst (λ t. n.number ≤ known es t) q (subst (λ (x : FullName). x.number ≤ known es x.stream) (sym is) (known_has es d.name (held_is_shown es d has)))

-- where none is missing, the held ones go as far as is known
pub held_to_known : (es : List Entry) (s : Stream) → ((n : FullName) → n.stream ≡ s → is_missing es n ≡ false) → held_to es s ≡ known es s
held_to_known es s none = meet (held_to es s) (known es s) (held_no_further es s) (reaches (known es s) refl)
  where
    meet : (a b : ℕ) → a ≤ b → b ≤ a → a ≡ b
    meet a b p q = omega arith

    reaches : (k : ℕ) → known es s ≡ k → known es s ≤ held_to es s
    reaches zero q = subst (λ n. n ≤ held_to es s) (sym q) (omega arith)
    reaches (suc k) q =
        let (d, h) = held_under es (named s (known es s)) (held_known es s (known es s) (none (named s (known es s)) refl) (omega arith) (omega arith)) in
        subst (λ (n : FullName). n.number ≤ held_to es s) h.name (held_number es s d h.has (ap (λ (n : FullName). n.stream) h.name))
