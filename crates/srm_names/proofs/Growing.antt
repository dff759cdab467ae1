-- The names of a stream between two numbers, in order.
use Rattle.std.proofs.Common.{◌≡◌, ℕ, ◌+◌, ◌<◌, ◌≤◌, max, inl, inr, Bool, true, false, ◌&&◌, ◌||◌, List, [], ◌∷◌, ◌++◌, refl, sym, ap, subst, ◌∙◌, arith}
use Rattle.std.specs.Prelude.{◌==◌, nat_lt}
use Rattle.std.proofs.Math.Bool.{or-false}
use Rattle.std.proofs.lemmas.Bool.{and_parts, cases_lt}
use Rattle.std.proofs.lemmas.Bool.Decides.{nat_tests}
use Rattle.std.proofs.lemmas.List.Folds.{list_any-append}
use Rattle.srm_names.specs.declared.stream.Stream.{Stream}
use Rattle.srm_names.specs.FullName.{FullName}
use Rattle.srm_names.specs.Names.{same_stream, same_name, stream_below, name_below, ascending, named, AreExactly, among}
use Rattle.srm_names.proofs.Same.{same_name-is}
use Rattle.srm_names.proofs.Orders.{lex_then}
use Rattle.srm_names.proofs.Rising.{ascending_joined}
use Rattle.srm_names.specs.Between.{is_between}

below_in_stream : (m n : FullName) → same_stream m.stream n.stream ≡ true → nat_lt m.number n.number ≡ true → name_below m n ≡ true
below_in_stream m n s lt = lex_then (stream_below m.stream n.stream) (same_stream m.stream n.stream) (nat_lt m.number n.number) s lt

-- one more name that is above all
pub ascending-snoc : (xs : List FullName) (y : FullName) → ascending name_below xs ≡ true → ((m : FullName) → among xs m ≡ true → name_below m y ≡ true) → ascending name_below (xs ++ y ∷ []) ≡ true
ascending-snoc xs y asc below = ascending_joined xs (y ∷ []) asc refl (λ m n h k. subst (λ z. name_below m z ≡ true) (sym (same_name-is n y (sym (or-false (same_name n y)) ∙ k))) (below m h))

pub none_between : (s : Stream) (above : ℕ) (names : List FullName) → names ≡ [] → AreExactly (is_between s above (above + 1)) names
none_between s above names e = subst (λ ns. AreExactly (is_between s above (above + 1)) ns) (sym e) (record { in_order = refl; exact = λ n. go n (same_stream n.stream s) })
  where
    go : (n : FullName) (b : Bool) → false ≡ (b && nat_lt above n.number && nat_lt n.number (above + 1))
    go n true = grind (arith, nat_tests)
    go n false = refl

pub more_between : (s : Stream) (above number : ℕ) (names : List FullName) (m : FullName) (more : List FullName) → AreExactly (is_between s above number) names → m ≡ named s number → more ≡ names ++ m ∷ [] → above < number
    → AreExactly (is_between s above (number + 1)) more
more_between s above number names m more h m_is added lt = subst (λ ns. AreExactly (is_between s above (number + 1)) ns) (sym (added ∙ ap (λ x. names ++ x ∷ []) m_is)) (record {
  in_order = ascending-snoc names (named s number) h.in_order (λ n at. below n (sym (h.exact n) ∙ at));
  exact = λ n. list_any-append (same_name n) names (named s number ∷ []) ∙ rw (h.exact n) (one n (same_stream n.stream s));
})
  where
    below : (n : FullName) → is_between s above number n ≡ true → name_below n (named s number) ≡ true
    below n t =
        let p = and_parts (same_stream n.stream s && nat_lt above n.number) (nat_lt n.number number) t in
        below_in_stream n (named s number) (and_parts (same_stream n.stream s) (nat_lt above n.number) p.0).0 p.1

    one : (n : FullName) (b : Bool) → ((b && nat_lt above n.number && nat_lt n.number number) || ((b && (n.number == number)) || false)) ≡ (b && nat_lt above n.number && nat_lt n.number (number + 1))
    one n true = grind (arith, nat_tests)
    one n false = refl

pub all_between : (s : Stream) (above number below : ℕ) (names : List FullName) → AreExactly (is_between s above number) names → above + 1 ≤ number → below ≤ number → number ≤ max (above + 1) below → AreExactly (is_between s above below) names
all_between s above number below names h low out high = record { in_order = h.in_order; exact = λ n. h.exact n ∙ go n (same_stream n.stream s) }
  where
    go : (n : FullName) (b : Bool) → (b && nat_lt above n.number && nat_lt n.number number) ≡ (b && nat_lt above n.number && nat_lt n.number below)
    go n true = elim (cases_lt above below) [ inl l ↦ (let e : number ≡ below = omega arith in rw e refl) | inr m ↦ (let e : number ≡ above + 1 = omega arith in rw e (grind (arith, nat_tests))) ]
    go n false = refl
