-- The slots of pages.
use Rattle.std.proofs.Common.{◌≡◌, ◌≢◌, ℕ, suc, ◌+◌, ◌<◌, ◌≤◌, List, [], ◌∷◌, ◌++◌, Bool, true, false, not, length, refl, sym, ap, ◌∙◌, arith}
use Rattle.std.specs.Prelude.{if◌then◌else◌, ◌||◌, nat_lt}
use Rattle.std.proofs.lemmas.Bool.Decides.{nat_tests}
use Rattle.std.proofs.lemmas.Bool.{false≢true, lt-ltb, le-ltb}
use Rattle.std.proofs.lemmas.List.{length-append}
use Rattle.srm_names.specs.declared.limits.TheConstants.{PAGES}
use Rattle.srm_names.specs.declared.page.Page.{Page}
use Rattle.srm_names.specs.Names.{same_page}
use Rattle.srm_names.proofs.Same.{same_page-is, same_page-itself}
use Rattle.srm_names.proofs.Snoc.{list_any-snoc}
use Rattle.srm_store.specs.PageTables.{is_in, slot_of, with_page, table_lacks_room}
use Rattle.srm_store.specs.Tables.{slots_end}

pub slot_of-le : (pages : List Page) (p : Page) → slot_of pages p ≤ length pages
slot_of-le [] p = omega arith
slot_of-le (q ∷ pages) p = go (same_page q p) (slot_of-le pages p)
  where
    go : (b : Bool) → slot_of pages p ≤ length pages → (if b then 0 else slot_of pages p + 1) ≤ suc (length pages)
    go true before = omega arith
    go false before = omega arith

pub slot_of-in : (pages : List Page) (p : Page) → is_in pages p ≡ true → slot_of pages p < length pages
slot_of-in [] p h = absurd (false≢true h)
slot_of-in (q ∷ pages) p h = go (same_page q p) (slot_of-in pages p) h
  where
    go : (b : Bool) → (is_in pages p ≡ true → slot_of pages p < length pages) → (b || is_in pages p) ≡ true → (if b then 0 else slot_of pages p + 1) < suc (length pages)
    go true before h = omega arith
    go false before h = omega (arith, before h)

pub slot_of-absent : (pages : List Page) (p : Page) → is_in pages p ≡ false → slot_of pages p ≡ length pages
slot_of-absent [] p h = refl
slot_of-absent (q ∷ pages) p h = go (same_page q p) (slot_of-absent pages p) h
  where
    go : (b : Bool) → (is_in pages p ≡ false → slot_of pages p ≡ length pages) → (b || is_in pages p) ≡ false → (if b then 0 else slot_of pages p + 1) ≡ suc (length pages)
    go true before h = cc
    go false before h = omega (arith, before h)

slot_of-front : (pages more : List Page) (p : Page) → is_in pages p ≡ true → slot_of (pages ++ more) p ≡ slot_of pages p
slot_of-front [] more p h = absurd (false≢true h)
slot_of-front (q ∷ pages) more p h = go (same_page q p) (slot_of-front pages more p) h
  where
    go : (b : Bool) → (is_in pages p ≡ true → slot_of (pages ++ more) p ≡ slot_of pages p) → (b || is_in pages p) ≡ true → (if b then 0 else slot_of (pages ++ more) p + 1) ≡ (if b then 0 else slot_of pages p + 1)
    go true before h = refl
    go false before h = ap (λ k. k + 1) (before h)

slot_of-pushed : (pages : List Page) (p : Page) → is_in pages p ≡ false → slot_of (pages ++ p ∷ []) p ≡ length pages
slot_of-pushed [] p h = rw (same_page-itself p) refl
slot_of-pushed (q ∷ pages) p h = go (same_page q p) (slot_of-pushed pages p) h
  where
    go : (b : Bool) → (is_in pages p ≡ false → slot_of (pages ++ p ∷ []) p ≡ length pages) → (b || is_in pages p) ≡ false → (if b then 0 else slot_of (pages ++ p ∷ []) p + 1) ≡ suc (length pages)
    go true before h = cc
    go false before h = omega (arith, before h)

-- two pages with one slot are one
pub slot_of-injective : (pages : List Page) (p q : Page) → is_in pages p ≡ true → slot_of pages p ≡ slot_of pages q → same_page q p ≡ true
slot_of-injective [] p q h e = absurd (false≢true h)
slot_of-injective (r ∷ pages) p q h e = go (slot_of-injective pages p q) (same_page r p) refl (same_page r q) refl h e
  where
    go : (is_in pages p ≡ true → slot_of pages p ≡ slot_of pages q → same_page q p ≡ true) → (b : Bool) → same_page r p ≡ b → (d : Bool) → same_page r q ≡ d → (b || is_in pages p) ≡ true → (if b then 0 else slot_of pages p + 1) ≡ (if d then 0 else slot_of pages q + 1) → same_page q p ≡ true
    go before true f true g h e = rw (← same_page-is r p f, ← same_page-is r q g) (same_page-itself r)
    go before true f false g h e = absurd (omega arith)
    go before false f true g h e = absurd (omega arith)
    go before false f false g h e = before h (omega arith)

-- once a page was named
module _ (pages : List Page) (p : Page) where
  pub named_pages : (b : Bool) → is_in pages p ≡ b → with_page pages p ≡ (if b then pages else pages ++ p ∷ [])
  named_pages b e = ap (λ d. if d then pages else pages ++ p ∷ []) e

  pub with_page-longer : length pages ≤ length (with_page pages p)
  with_page-longer = go (is_in pages p)
    where
      go : (b : Bool) → length pages ≤ length (if b then pages else pages ++ p ∷ [])
      go true = omega arith
      go false = omega (arith, length-append pages (p ∷ []))

  pub with_page-slot : slot_of (with_page pages p) p ≡ slot_of pages p
  with_page-slot = go (is_in pages p) refl
    where
      go : (b : Bool) → is_in pages p ≡ b → slot_of (if b then pages else pages ++ p ∷ []) p ≡ slot_of pages p
      go true e = refl
      go false e = slot_of-pushed pages p e ∙ sym (slot_of-absent pages p e)

  pub with_page-has : slot_of pages p < length (with_page pages p)
  with_page-has = go (is_in pages p) refl
    where
      go : (b : Bool) → is_in pages p ≡ b → slot_of pages p < length (if b then pages else pages ++ p ∷ [])
      go true e = slot_of-in pages p e
      go false e = omega (arith, slot_of-absent pages p e, length-append pages (p ∷ []))

  pub is_in-with_page : (q : Page) → is_in (with_page pages p) q ≡ is_in pages q || same_page p q
  is_in-with_page q = go (is_in pages p) refl
    where
      or_self : (a b : Bool) → (b ≡ true → a ≡ true) → a ≡ a || b
      or_self true b h = refl
      or_self false true h = h refl
      or_self false false h = refl

      go : (b : Bool) → is_in pages p ≡ b → is_in (if b then pages else pages ++ p ∷ []) q ≡ is_in pages q || same_page p q
      go true e = or_self (is_in pages q) (same_page p q) (λ s. ap (is_in pages) (sym (same_page-is p q s)) ∙ e)
      go false e = list_any-snoc (λ r. same_page r q) pages p

  pub others_slot : (q : Page) → is_in pages q ≡ true → slot_of (with_page pages p) q ≡ slot_of pages q
  others_slot q h = go (is_in pages p)
    where
      go : (b : Bool) → slot_of (if b then pages else pages ++ p ∷ []) q ≡ slot_of pages q
      go true = refl
      go false = slot_of-front pages (p ∷ []) q h

  module _ (q : Page) (other : same_page q p ≡ false) where
    apart : (b : Bool) → same_page p q ≡ b → b ≡ false
    apart false e = refl
    apart true e = absurd (false≢true (sym other ∙ rw (same_page-is p q e) (same_page-itself q)))

    pub others_apart : is_in pages q ≡ true → slot_of pages q ≢ slot_of pages p
    others_apart h e = absurd (false≢true (sym (apart (same_page p q) refl) ∙ slot_of-injective pages q p h e))

    pub others_absent : is_in pages q ≡ false → slot_of (with_page pages p) q ≡ length (with_page pages p)
    others_absent h = slot_of-absent (with_page pages p) q (is_in-with_page q ∙ rw (h, apart (same_page p q) refl) refl)

  -- the slots that a page may have become fewer
  pub slots_shrink : (q : Page) → length (with_page pages p) ≤ PAGES → (slot_of pages q ≤ slot_of (with_page pages p) q) × (slots_end (with_page pages p) q ≤ slots_end pages q)
  slots_shrink q few = go (is_in pages q) refl (same_page p q) refl
    where
      ends : (b d : Bool) → is_in pages q ≡ b → same_page p q ≡ d → slots_end (with_page pages p) q ≡ (if b || d then slot_of (with_page pages p) q + 1 else PAGES)
      ends b d e f = ap (λ (x : Bool). if x then slot_of (with_page pages p) q + 1 else PAGES) (is_in-with_page q ∙ rw (e, f) refl)

      end : (b : Bool) → is_in pages q ≡ b → slots_end pages q ≡ (if b then slot_of pages q + 1 else PAGES)
      end b e = ap (λ (x : Bool). if x then slot_of pages q + 1 else PAGES) e

      go : (b : Bool) → is_in pages q ≡ b → (d : Bool) → same_page p q ≡ d → (slot_of pages q ≤ slot_of (with_page pages p) q) × (slots_end (with_page pages p) q ≤ slots_end pages q)
      go true e d f = let same = others_slot q e in (omega (arith, same), omega (arith, ends true d e f, end true e, same))
      go false e true f =
          let here : slot_of (with_page pages p) q ≡ slot_of pages q = rw (← same_page-is p q f) with_page-slot in
          let has : slot_of pages q < length (with_page pages p) = rw (← same_page-is p q f) with_page-has in
          (omega (arith, here), omega (arith, ends false true e f, end false e, here, has))
      go false e false f =
          let there = slot_of-absent (with_page pages p) q (is_in-with_page q ∙ rw (e, f) refl) in
          let was = slot_of-absent pages q e in
          (omega (arith, there, was, with_page-longer), omega (arith, ends false false e f, end false e))

  pub with_page-few : length pages ≤ PAGES → slot_of pages p < PAGES → length (with_page pages p) ≤ PAGES
  with_page-few few below = go (is_in pages p) refl
    where
      go : (b : Bool) → is_in pages p ≡ b → length (if b then pages else pages ++ p ∷ []) ≤ PAGES
      go true e = few
      go false e = omega (arith, length-append pages (p ∷ []), slot_of-absent pages p e)

  pub room_below : slot_of pages p < PAGES → length pages ≤ PAGES → table_lacks_room pages p ≡ false
  room_below below few = le-ltb PAGES (length (with_page pages p)) (with_page-few few below)

  -- it finds room where its slot is one of the table
  pub room_by_slot : (slot most : ℕ) → slot ≡ slot_of pages p → most ≡ PAGES → length pages ≤ PAGES → nat_lt slot most ≡ not (table_lacks_room pages p)
  room_by_slot slot most at full few = go (is_in pages p) refl
    where
      tested : (n : ℕ) → nat_lt n PAGES ≡ not (nat_lt PAGES (n + 1))
      tested n = grind (arith, nat_tests)

      go : (b : Bool) → is_in pages p ≡ b → nat_lt slot most ≡ not (table_lacks_room pages p)
      go true e = ap (nat_lt slot) full ∙ lt-ltb slot PAGES (omega (arith, at, slot_of-in pages p e, few)) ∙ ap not (sym (le-ltb PAGES (length pages) few)) ∙ ap (λ ps. not (nat_lt PAGES (length ps))) (sym (named_pages true e))
      go false e =
          let counts : length (pages ++ p ∷ []) ≡ slot + 1 = omega (arith, length-append pages (p ∷ []), at, slot_of-absent pages p e) in
          ap (nat_lt slot) full ∙ tested slot ∙ ap (λ k. not (nat_lt PAGES k)) (sym counts) ∙ ap (λ ps. not (nat_lt PAGES (length ps))) (sym (named_pages false e))

  pub slots_end-there : slot_of pages p < length pages → slots_end pages p ≡ slot_of pages p + 1
  slots_end-there below = go (is_in pages p) refl
    where
      go : (b : Bool) → is_in pages p ≡ b → (if b then slot_of pages p + 1 else PAGES) ≡ slot_of pages p + 1
      go true e = refl
      go false e = absurd (omega (arith, slot_of-absent pages p e))

  pub slots_end-absent : length pages ≤ slot_of pages p → slots_end pages p ≡ PAGES
  slots_end-absent past = go (is_in pages p) refl
    where
      go : (b : Bool) → is_in pages p ≡ b → (if b then slot_of pages p + 1 else PAGES) ≡ PAGES
      go true e = absurd (omega (arith, slot_of-in pages p e))
      go false e = refl
