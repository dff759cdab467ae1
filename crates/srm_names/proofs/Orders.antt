-- In a list in order of name each name stands once.
use Rattle.std.proofs.Common.{◌≡◌, ℕ, ◌==◌, eq-eqb, Bool, true, false, ◌&&◌, ◌||◌, List, [], ◌∷◌, refl, ap, sym, ◌∙◌, subst, arith, inl, inr}
use Rattle.std.specs.Prelude.{nat_lt, ◌⊎◌}
use Rattle.std.specs.List.{list_any}
use Rattle.std.proofs.lemmas.Bool.{and_from, or_left, cases_lt, cases_eq, false_from_ne_true, lt-ltb}
use Rattle.std.proofs.lemmas.Bool.Decides.{nat_tests}
use Rattle.srm_names.specs.declared.page.Page.{Page}
use Rattle.srm_names.specs.declared.stream.Stream.{Stream}
use Rattle.srm_names.specs.FullName.{FullName}
use Rattle.srm_names.specs.Names.{same_stream, same_name, page_below, stream_below, name_below, ascending}
use Rattle.srm_names.specs.NameOrder.{IsTotalOrderOfNames}
use Rattle.srm_names.proofs.Same.{same_page-is, same_stream-is, same_name-is, stream_parts, name_parts, same_stream-itself}

pub and_left : (a b : Bool) → (a && b) ≡ true → a ≡ true
and_left true b e = refl
and_left false b e = e

pub and_right : (a b : Bool) → (a && b) ≡ true → b ≡ true
and_right true b e = e
and_right false b e = absurd (cc)

-- an order by one thing and then by another
lex_tells : (lt eq more : Bool) → (lt || eq && more) ≡ true → (lt ≡ true) ⊎ ((eq ≡ true) × (more ≡ true))
lex_tells true eq more e = inl refl
lex_tells false true more e = inr (refl, e)
lex_tells false false more e = absurd (cc)

pub lex_then : (lt eq more : Bool) → eq ≡ true → more ≡ true → (lt || eq && more) ≡ true
lex_then true eq more e f = refl
lex_then false eq more e f = rw (e, f) refl

nat_lt_trans : (a b c : ℕ) → nat_lt a b ≡ true → nat_lt b c ≡ true → nat_lt a c ≡ true
nat_lt_trans a b c h k = grind (arith, nat_tests)

pub stream_below_trans : (a b c : Stream) → stream_below a b ≡ true → stream_below b c ≡ true → stream_below a c ≡ true
stream_below_trans a b c h k = grind (arith, nat_tests)

name_below_trans : (a b c : FullName) → name_below a b ≡ true → name_below b c ≡ true → name_below a c ≡ true
name_below_trans a b c h k = elim (tells a b h) [
  | inl p ↦ or_left (stream_below a.stream c.stream) (same_stream a.stream c.stream && nat_lt a.number c.number)
      (elim (tells b c k) [
        | inl q ↦ stream_below_trans a.stream b.stream c.stream p q
        | inr q ↦ subst (λ s. stream_below a.stream s ≡ true) (same_stream-is b.stream c.stream q.0) p
      ])
  | inr p ↦ (let e : a.stream ≡ b.stream = same_stream-is a.stream b.stream p.0 in elim (tells b c k) [
    | inl q ↦ or_left (stream_below a.stream c.stream) (same_stream a.stream c.stream && nat_lt a.number c.number)
        (subst (λ s. stream_below s c.stream ≡ true) (sym e) q)
    | inr q ↦ lex_then (stream_below a.stream c.stream) (same_stream a.stream c.stream) (nat_lt a.number c.number)
        (subst (λ s. same_stream s c.stream ≡ true) (sym e) q.0) (nat_lt_trans a.number b.number c.number p.1 q.1)
  ])
]
  where
    tells : (x y : FullName) → name_below x y ≡ true → (stream_below x.stream y.stream ≡ true) ⊎ ((same_stream x.stream y.stream ≡ true) × (nat_lt x.number y.number ≡ true))
    tells x y e = lex_tells (stream_below x.stream y.stream) (same_stream x.stream y.stream) (nat_lt x.number y.number) e

not_below_itself : (n : FullName) → name_below n n ≡ true → ⊥
not_below_itself n h = grind (arith, nat_tests)

-- a name in front is below each that follows
pub below_later : (m n : FullName) (ns : List FullName) → ascending name_below (m ∷ ns) ≡ true → list_any (same_name n) ns ≡ true → name_below m n ≡ true
below_later m n [] h k = absurd (cc)
below_later m n (x ∷ ns) h k = go (same_name n x) refl (below_later x n ns (and_right (name_below m x) (ascending name_below (x ∷ ns)) h))
  where
    first : name_below m x ≡ true
    first = and_left (name_below m x) (ascending name_below (x ∷ ns)) h

    go : (b : Bool) → same_name n x ≡ b → (list_any (same_name n) ns ≡ true → name_below x n ≡ true) → name_below m n ≡ true
    go true e more = subst (λ y. name_below m y ≡ true) (sym (same_name-is n x e)) first
    go false e more = name_below_trans m x n first (more (ap (λ b. b || list_any (same_name n) ns) (sym e) ∙ k))

-- so it stands once
pub stands_once : (n : FullName) (ns : List FullName) → ascending name_below (n ∷ ns) ≡ true → list_any (same_name n) ns ≡ true → ⊥
stands_once n ns h k = not_below_itself n (below_later n n ns h k)

-- of two numbers one is below the other, or they are equal
three_ways : (a b : ℕ) → (nat_lt a b ≡ true) ⊎ ((a ≡ b) ⊎ (nat_lt b a ≡ true))
three_ways a b = elim (cases_lt a b) [
  | inl less ↦ inl (lt-ltb a b less)
  | inr more ↦ elim (cases_eq a b) [
    | inl same ↦ inr (inl same)
    | inr differ ↦ inr (inr (lt-ltb b a (omega arith)))
  ]
]

-- so it is with what is ordered by one thing and then by another
page_three_ways : (a b : Page) → (page_below a b ≡ true) ⊎ ((a ≡ b) ⊎ (page_below b a ≡ true))
page_three_ways a b = elim (three_ways a.creator b.creator) [
  | inl less ↦ inl (or_left (nat_lt a.creator b.creator) ((a.creator == b.creator) && nat_lt a.number b.number) less)
  | inr (inr more) ↦ inr (inr (or_left (nat_lt b.creator a.creator) ((b.creator == a.creator) && nat_lt b.number a.number) more))
  | inr (inl same) ↦ elim (three_ways a.number b.number) [
    | inl less ↦ inl (lex_then (nat_lt a.creator b.creator) (a.creator == b.creator) (nat_lt a.number b.number) (eq-eqb a.creator b.creator same) less)
    | inr (inl equal) ↦ inr (inl (same_page-is a b (and_from _ _ (eq-eqb a.creator b.creator same) (eq-eqb a.number b.number equal))))
    | inr (inr more) ↦ inr (inr (lex_then (nat_lt b.creator a.creator) (b.creator == a.creator) (nat_lt b.number a.number) (eq-eqb b.creator a.creator (sym same)) more))
  ]
]

stream_three_ways : (a b : Stream) → (stream_below a b ≡ true) ⊎ ((a ≡ b) ⊎ (stream_below b a ≡ true))
stream_three_ways a b = elim (three_ways a.source b.source) [
  | inl less ↦ inl (or_left (nat_lt a.source b.source) ((a.source == b.source) && page_below a.page b.page) less)
  | inr (inr more) ↦ inr (inr (or_left (nat_lt b.source a.source) ((b.source == a.source) && page_below b.page a.page) more))
  | inr (inl same) ↦ elim (page_three_ways a.page b.page) [
    | inl less ↦ inl (lex_then (nat_lt a.source b.source) (a.source == b.source) (page_below a.page b.page) (eq-eqb a.source b.source same) less)
    | inr (inl equal) ↦ inr (inl (stream_parts a b same equal))
    | inr (inr more) ↦ inr (inr (lex_then (nat_lt b.source a.source) (b.source == a.source) (page_below b.page a.page) (eq-eqb b.source a.source (sym same)) more))
  ]
]

name_three_ways : (a b : FullName) → (name_below a b ≡ true) ⊎ ((a ≡ b) ⊎ (name_below b a ≡ true))
name_three_ways a b = elim (stream_three_ways a.stream b.stream) [
  | inl less ↦ inl (or_left (stream_below a.stream b.stream) (same_stream a.stream b.stream && nat_lt a.number b.number) less)
  | inr (inr more) ↦ inr (inr (or_left (stream_below b.stream a.stream) (same_stream b.stream a.stream && nat_lt b.number a.number) more))
  | inr (inl same) ↦ elim (three_ways a.number b.number) [
    | inl less ↦ inl (lex_then (stream_below a.stream b.stream) (same_stream a.stream b.stream) (nat_lt a.number b.number) (equal_streams a.stream b.stream same) less)
    | inr (inl equal) ↦ inr (inl (name_parts a b same equal))
    | inr (inr more) ↦ inr (inr (lex_then (stream_below b.stream a.stream) (same_stream b.stream a.stream) (nat_lt b.number a.number) (equal_streams b.stream a.stream (sym same)) more))
  ]
]
  where
    equal_streams : (s t : Stream) → s ≡ t → same_stream s t ≡ true
    equal_streams s t e = subst (λ u. same_stream s u ≡ true) e (same_stream-itself s)

pub name_order : IsTotalOrderOfNames
name_order = record {
  irreflexive = λ a. false_from_ne_true (name_below a a) (not_below_itself a);
  transitive = name_below_trans;
  total = name_three_ways;
}
