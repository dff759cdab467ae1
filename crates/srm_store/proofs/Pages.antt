-- Pages in a list, each once.
use Rattle.std.proofs.Common.{◌≡◌, suc, ◌<◌, ◌≤◌, List, [], ◌∷◌, ◌++◌, Bool, true, false, not, length, append_assoc, refl, sym, ap, ◌∙◌, arith}
use Rattle.std.specs.Prelude.{filter, if◌then◌else◌, ◌||◌}
use Rattle.std.proofs.lemmas.List.{append-nil}
use Rattle.std.proofs.lemmas.Bool.{false≢true, not-true, and_parts, and_from, or_parts, or_right, ltb-false}
use Rattle.srm_names.specs.declared.limits.TheConstants.{PAGES}
use Rattle.srm_names.specs.declared.page.Page.{Page}
use Rattle.srm_names.specs.Histories.{firsts}
use Rattle.srm_names.specs.Names.{same_page}
use Rattle.srm_names.proofs.Same.{same_page-is, same_page-itself}
use Rattle.srm_names.proofs.Snoc.{list_any-snoc, firsts-snoc}
use Rattle.srm_store.specs.PageTables.{IsPageTable, is_in, with_page, with_pages, table_lacks_room, each_once}

pub same_page-flip : (p q : Page) → same_page p q ≡ same_page q p
same_page-flip p q = go (same_page p q) refl (same_page q p) refl
  where
    go : (b : Bool) → same_page p q ≡ b → (d : Bool) → same_page q p ≡ d → b ≡ d
    go true e true f = refl
    go false e false f = refl
    go true e false f = sym (same_page-itself p) ∙ ap (λ r. same_page r p) (same_page-is p q e) ∙ f
    go false e true f = sym e ∙ ap (same_page p) (same_page-is q p f) ∙ same_page-itself p

-- no page is among those without it
not_without : (p : Page) (pages : List Page) → is_in (filter (λ y. not (same_page p y)) pages) p ≡ false
not_without p [] = refl
not_without p (q ∷ pages) = go (same_page p q) refl (not_without p pages)
  where
    go : (b : Bool) → same_page p q ≡ b → is_in (filter (λ y. not (same_page p y)) pages) p ≡ false → is_in (if not b then q ∷ filter (λ y. not (same_page p y)) pages else filter (λ y. not (same_page p y)) pages) p ≡ false
    go true e h = h
    go false e h = rw (same_page-flip q p ∙ e) h

-- another page stays
still_without : (p q : Page) (pages : List Page) → same_page p q ≡ false → is_in (filter (λ y. not (same_page p y)) pages) q ≡ is_in pages q
still_without p q [] other = refl
still_without p q (r ∷ pages) other = go (same_page p r) refl (still_without p q pages other)
  where
    go : (b : Bool) → same_page p r ≡ b → is_in (filter (λ y. not (same_page p y)) pages) q ≡ is_in pages q → is_in (if not b then r ∷ filter (λ y. not (same_page p y)) pages else filter (λ y. not (same_page p y)) pages) q ≡ (same_page r q || is_in pages q)
    go true e h = h ∙ rw (← same_page-is p r e, other) refl
    go false e h = ap (λ d. same_page r q || d) h

shorter : (p : Page) (pages : List Page) → length (filter (λ y. not (same_page p y)) pages) ≤ length pages
shorter p [] = omega arith
shorter p (q ∷ pages) = go (same_page p q) (shorter p pages)
  where
    go : (b : Bool) → length (filter (λ y. not (same_page p y)) pages) ≤ length pages → length (if not b then q ∷ filter (λ y. not (same_page p y)) pages else filter (λ y. not (same_page p y)) pages) ≤ suc (length pages)
    go true h = omega arith
    go false h = omega arith

shorter_by_it : (p : Page) (pages : List Page) → is_in pages p ≡ true → length (filter (λ y. not (same_page p y)) pages) < length pages
shorter_by_it p [] h = absurd (false≢true h)
shorter_by_it p (q ∷ pages) h = go (same_page q p) (same_page-flip p q) h (shorter_by_it p pages)
  where
    go : (b : Bool) → same_page p q ≡ b → (b || is_in pages p) ≡ true → (is_in pages p ≡ true → length (filter (λ y. not (same_page p y)) pages) < length pages) → length (if not (same_page p q) then q ∷ filter (λ y. not (same_page p y)) pages else filter (λ y. not (same_page p y)) pages) < suc (length pages)
    go true e h before = rw e (omega (arith, shorter p pages))
    go false e h before = rw e (omega (arith, before h))

other_of : (x q : Page) (pages : List Page) → is_in pages x ≡ false → is_in pages q ≡ true → same_page x q ≡ false
other_of x q pages out in_it = go (same_page x q) refl
  where
    go : (b : Bool) → same_page x q ≡ b → b ≡ false
    go false e = refl
    go true e = absurd (false≢true (sym out ∙ ap (is_in pages) (same_page-is x q e) ∙ in_it))

-- Pages that stand once each, and all in another list, are no more than that list has.
pub length-included : (pages others : List Page) → each_once pages ≡ true → ((p : Page) → is_in pages p ≡ true → is_in others p ≡ true) → length pages ≤ length others
length-included [] others once within = omega arith
length-included (x ∷ pages) others once within =
    let parts = and_parts (not (is_in pages x)) (each_once pages) once in
    let out = not-true (is_in pages x) parts.0 in
    let there : is_in others x ≡ true = within x (rw (same_page-itself x) refl) in
    let fewer = length-included pages (filter (λ y. not (same_page x y)) others) parts.1
    (λ p h. still_without x p others (other_of x p pages out h) ∙ within p (or_right (same_page x p) (is_in pages p) h)) in
    omega (arith, fewer, shorter_by_it x others there)

-- a part of pages that stand once each
once_without : (p : Page) (pages : List Page) → each_once pages ≡ true → each_once (filter (λ y. not (same_page p y)) pages) ≡ true
once_without p [] once = refl
once_without p (q ∷ pages) once =
    let parts = and_parts (not (is_in pages q)) (each_once pages) once in
    go (same_page p q) refl parts.0 (once_without p pages parts.1)
  where
    go : (b : Bool) → same_page p q ≡ b → not (is_in pages q) ≡ true → each_once (filter (λ y. not (same_page p y)) pages) ≡ true → each_once (if not b then q ∷ filter (λ y. not (same_page p y)) pages else filter (λ y. not (same_page p y)) pages) ≡ true
    go true e out rest = rest
    go false e out rest = and_from _ _ (ap not (still_without p q pages e) ∙ out) rest

pub each_once-firsts : (pages : List Page) → each_once (firsts same_page pages) ≡ true
each_once-firsts [] = refl
each_once-firsts (p ∷ pages) = and_from _ _ (ap not (not_without p (firsts same_page pages))) (once_without p (firsts same_page pages) (each_once-firsts pages))

pub is_in-firsts : (pages : List Page) (q : Page) → is_in (firsts same_page pages) q ≡ is_in pages q
is_in-firsts [] q = refl
is_in-firsts (p ∷ pages) q = go (same_page p q) refl (is_in-firsts pages q)
  where
    go : (b : Bool) → same_page p q ≡ b → is_in (firsts same_page pages) q ≡ is_in pages q → (b || is_in (filter (λ y. not (same_page p y)) (firsts same_page pages)) q) ≡ (b || is_in pages q)
    go true e h = refl
    go false e h = still_without p q (firsts same_page pages) e ∙ h

-- one more page, that wasn't there
once_pushed : (pages : List Page) (p : Page) → each_once pages ≡ true → is_in pages p ≡ false → each_once (pages ++ p ∷ []) ≡ true
once_pushed [] p once out = refl
once_pushed (q ∷ pages) p once out =
    let parts = and_parts (not (is_in pages q)) (each_once pages) once in
    let o = or_parts (same_page q p) (is_in pages p) out in
    let still : is_in (pages ++ p ∷ []) q ≡ false = list_any-snoc (λ r. same_page r q) pages p ∙ rw (not-true (is_in pages q) parts.0, same_page-flip p q, o.0) refl in
    and_from _ _ (ap not still) (once_pushed pages p parts.1 o.1)

pub once_with : (pages : List Page) (p : Page) → each_once pages ≡ true → each_once (with_page pages p) ≡ true
once_with pages p once = go (is_in pages p) refl
  where
    go : (b : Bool) → is_in pages p ≡ b → each_once (if b then pages else pages ++ p ∷ []) ≡ true
    go true e = once
    go false e = once_pushed pages p once e

none_without : (p : Page) (pages : List Page) → is_in pages p ≡ false → filter (λ y. not (same_page p y)) pages ≡ pages
none_without p [] out = refl
none_without p (q ∷ pages) out =
    let parts = or_parts (same_page q p) (is_in pages p) out in
    rw (same_page-flip p q ∙ parts.0) (ap (λ ps. q ∷ ps) (none_without p pages parts.1))

-- pages that stand once each are the first of each
pub firsts_each_once : (pages : List Page) → each_once pages ≡ true → firsts same_page pages ≡ pages
firsts_each_once [] once = refl
firsts_each_once (p ∷ pages) once =
    let parts = and_parts (not (is_in pages p)) (each_once pages) once in
    ap (λ ps. p ∷ filter (λ y. not (same_page p y)) ps) (firsts_each_once pages parts.1) ∙ ap (λ ps. p ∷ ps) (none_without p pages (not-true (is_in pages p) parts.0))

-- one more page among pages, and several
firsts_more : (pages : List Page) (p : Page) → firsts same_page (pages ++ p ∷ []) ≡ with_page (firsts same_page pages) p
firsts_more pages p = firsts-snoc same_page pages p ∙ ap (λ (b : Bool). if b then firsts same_page pages else firsts same_page pages ++ p ∷ []) (sym (is_in-firsts pages p))

pub firsts_all : (pages ps : List Page) → firsts same_page (pages ++ ps) ≡ with_pages (firsts same_page pages) ps
firsts_all pages [] = ap (firsts same_page) (append-nil pages)
firsts_all pages (p ∷ ps) = ap (firsts same_page) (sym (append_assoc pages (p ∷ []) ps)) ∙ firsts_all (pages ++ p ∷ []) ps ∙ ap (λ qs. with_pages qs ps) (firsts_more pages p)

-- a table with one more page
pub table_more : (pages : List Page) (p : Page) → IsPageTable pages → table_lacks_room pages p ≡ false → IsPageTable (with_page pages p)
table_more pages p table room = record { few = ltb-false PAGES (length (with_page pages p)) room; once = once_with pages p table.once }
