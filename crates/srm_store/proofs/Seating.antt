-- Slots for several pages.
use Rattle.std.proofs.Common.{◌≡◌, ℕ, ◌+◌, ◌<◌, ◌≤◌, List, [], ◌∷◌, ◌++◌, Bool, true, false, not, length, get_or, set, take, drop, map, append_assoc, refl, sym, ap, ◌∙◌, arith}
use Rattle.std.specs.Prelude.{if◌then◌else◌, ◌||◌, nat_lt}
use Rattle.std.proofs.lemmas.Bool.{false≢true, or_right, lt-ltb, le-ltb, ltb-true, ltb-false}
use Rattle.std.proofs.lemmas.List.{length-append, length-take-le, take_more_set, drop_all}
use Rattle.srm_names.specs.declared.limits.TheConstants.{PAGES}
use Rattle.srm_names.specs.declared.page.Page.{Page}
use Rattle.srm_names.specs.declared.drawop.Drawop.{Drawop}
use Rattle.srm_names.specs.FullName.{FullName}
use Rattle.srm_names.specs.Names.{same_page, same_name, among}
use Rattle.srm_names.proofs.Lists.{left_at}
use Rattle.srm_names.proofs.Same.{same_page-is, same_page-itself, same_name-is}
use Rattle.srm_store.specs.Held.{pages_named, page_of_name, outgrow, lacks_room}
use Rattle.srm_store.specs.Finals.{Settling}
use Rattle.srm_store.specs.PageTables.{is_in, slot_of, with_page, with_pages, with_pages_of, table_lacks_room, table_lacks_room_for}
use Rattle.srm_store.specs.Stores.{StoreContent, KeepsSlots}
use Rattle.srm_store.specs.Fits.{StoreFits}
use Rattle.srm_store.proofs.Slots.{is_in-with_page, with_page-longer, slot_of-le, slot_of-in, slot_of-absent, room_by_slot}
use Rattle.srm_store.proofs.Pages.{is_in-firsts, firsts_all}
use Rattle.srm_store.proofs.Fitting.{count_named, or_swap}
use Rattle.std.proofs.lemmas.List.Folds.{list_any-append}

-- two tables with the same pages, each as many
pub record SamePages (a b : List Page) : Type 0 where
  pub each : (q : Page) → is_in a q ≡ is_in b q
  pub count : length a ≡ length b

length-with_page : (pages : List Page) (p : Page) → length (with_page pages p) ≡ (if is_in pages p then length pages else length pages + 1)
length-with_page pages p = go (is_in pages p)
  where
    go : (b : Bool) → length (if b then pages else pages ++ p ∷ []) ≡ (if b then length pages else length pages + 1)
    go true = refl
    go false = omega (arith, length-append pages (p ∷ []))

same_with : (a b : List Page) (p : Page) → SamePages a b → SamePages (with_page a p) (with_page b p)
same_with a b p h = record {
  each = λ q. is_in-with_page a p q ∙ ap (λ x. x || same_page p q) (h.each q) ∙ sym (is_in-with_page b p q);
  count = length-with_page a p ∙ rw (h.each p, h.count) refl ∙ sym (length-with_page b p);
}

as_many : (a b ps : List Page) → SamePages a b → length (with_pages a ps) ≡ length (with_pages b ps)
as_many a b [] h = h.count
as_many a b (p ∷ ps) h = as_many (with_page a p) (with_page b p) ps (same_with a b p h)

-- naming one page and then another is naming them the other way round
swapped : (pages : List Page) (p q : Page) → SamePages (with_page (with_page pages p) q) (with_page (with_page pages q) p)
swapped pages p q = record {
  each = λ r.
      is_in-with_page (with_page pages p) q r ∙ ap (λ x. x || same_page q r) (is_in-with_page pages p r)
      ∙ or_swap (is_in pages r) (same_page p r) (same_page q r)
      ∙ ap (λ x. x || same_page p r) (sym (is_in-with_page pages q r)) ∙ sym (is_in-with_page (with_page pages q) p r);
  count = counts (is_in pages p) refl (is_in pages q) refl (same_page p q) refl (same_page q p) refl;
}
  where
    twice : (p q : Page) → length (with_page (with_page pages p) q) ≡ (if is_in pages q || same_page p q then (if is_in pages p then length pages else length pages + 1) else (if is_in pages p then length pages else length pages + 1) + 1)
    twice p q = length-with_page (with_page pages p) q ∙ rw (is_in-with_page pages p q, length-with_page pages p) refl

    counts : (b : Bool) → is_in pages p ≡ b → (d : Bool) → is_in pages q ≡ d → (s : Bool) → same_page p q ≡ s → (t : Bool) → same_page q p ≡ t → length (with_page (with_page pages p) q) ≡ length (with_page (with_page pages q) p)
    counts b e d f s g t h = twice p q ∙ rw (e, f, g, h) (go b d s t g h e f) ∙ sym (twice q p)
      where
        go : (b d s t : Bool) → same_page p q ≡ s → same_page q p ≡ t → is_in pages p ≡ b → is_in pages q ≡ d
            → (if d || s then (if b then length pages else length pages + 1) else (if b then length pages else length pages + 1) + 1) ≡ (if b || t then (if d then length pages else length pages + 1) else (if d then length pages else length pages + 1) + 1)
        go true true s t g h e f = refl
        go true false true t g h e f = absurd (false≢true (sym f ∙ ap (is_in pages) (sym (same_page-is p q g)) ∙ e))
        go true false false t g h e f = refl
        go false true s true g h e f = absurd (false≢true (sym e ∙ ap (is_in pages) (sym (same_page-is q p h)) ∙ f))
        go false true s false g h e f = refl
        go false false true true g h e f = refl
        go false false false false g h e f = refl
        go false false true false g h e f = absurd (false≢true (sym h ∙ ap (same_page q) (same_page-is p q g) ∙ same_page-itself q))
        go false false false true g h e f = absurd (false≢true (sym g ∙ ap (same_page p) (same_page-is q p h) ∙ same_page-itself p))

twice_with : (pages : List Page) (p : Page) → with_page (with_page pages p) p ≡ with_page pages p
twice_with pages p = ap (λ b. if b then with_page pages p else with_page pages p ++ p ∷ []) there
  where
    there : is_in (with_page pages p) p ≡ true
    there = is_in-with_page pages p p ∙ ap (λ b. is_in pages p || b) (same_page-itself p) ∙ or_right (is_in pages p) true refl

-- naming one of the pages before makes no difference to how many there are
pub named_before : (pages : List Page) (p : Page) (ps : List Page) → is_in ps p ≡ true → length (with_pages (with_page pages p) ps) ≡ length (with_pages pages ps)
named_before pages p [] h = absurd (false≢true h)
named_before pages p (q ∷ ps) h = go (same_page q p) refl h (named_before (with_page pages q) p ps)
  where
    go : (b : Bool) → same_page q p ≡ b → (b || is_in ps p) ≡ true → (is_in ps p ≡ true → length (with_pages (with_page (with_page pages q) p) ps) ≡ length (with_pages (with_page pages q) ps)) → length (with_pages (with_page (with_page pages p) q) ps) ≡ length (with_pages (with_page pages q) ps)
    go true e there rest = ap (λ r. length (with_pages (with_page (with_page pages r) q) ps)) (sym (same_page-is q p e)) ∙ ap (λ xs. length (with_pages xs ps)) (twice_with pages q)
    go false e there rest = as_many _ _ ps (swapped pages p q) ∙ rest there

pub with_pages-longer : (pages ps : List Page) → length pages ≤ length (with_pages pages ps)
with_pages-longer pages [] = omega arith
with_pages-longer pages (p ∷ ps) = omega (arith, with_page-longer pages p, with_pages-longer (with_page pages p) ps)

-- each of pages that all have slots has one
pub slot_left : (pages : List Page) (p : Page) (ps : List Page) → is_in ps p ≡ true → length (with_pages pages ps) ≤ PAGES → slot_of pages p < PAGES
slot_left pages p ps there few = go (is_in pages p) refl
  where
    go : (b : Bool) → is_in pages p ≡ b → slot_of pages p < PAGES
    go true e = omega (arith, slot_of-in pages p e, with_pages-longer pages ps, few)
    go false e =
        let one_more : length (with_page pages p) ≡ length pages + 1 = length-with_page pages p ∙ rw e refl in
        omega (arith, slot_of-absent pages p e, one_more, with_pages-longer (with_page pages p) ps, named_before pages p ps there, few)

pub keeps_slots : (old new : StoreContent) (p : Page) → new.table.pages ≡ with_page old.table.pages p → KeepsSlots p old new
keeps_slots old new p e = record { each = λ ps there had. record { few = omega (arith, ap (λ xs. length (with_pages xs ps)) e, named_before old.table.pages p ps there, had.few) } }

pub keeps_slots_same : (old new : StoreContent) (p : Page) → new.table.pages ≡ old.table.pages → KeepsSlots p old new
keeps_slots_same old new p e = record { each = λ ps there had. record { few = omega (arith, ap (λ xs. length (with_pages xs ps)) e, had.few) } }

module _ {inserted : List Drawop} {evidence : List FullName} {settled : List Settling} {s : StoreContent} (h : StoreFits inserted evidence settled s) where
  -- there would be too many pages exactly where the table with them has too many
  pub outgrows : (ps : List Page) → outgrow inserted evidence ps ≡ nat_lt PAGES (length (with_pages s.table.pages ps))
  outgrows ps = ap (nat_lt PAGES) (ap length (firsts_all (pages_named inserted evidence) ps) ∙ as_many _ s.table.pages ps (record { each = λ q. is_in-firsts (pages_named inserted evidence) q ∙ sym (h.pages q); count = count_named h }))

  -- a page has no slot left exactly where it would be one too many
  module _ (few : length s.table.pages ≤ PAGES) (p : Page) where
    room : nat_lt (slot_of s.table.pages p) PAGES ≡ not (lacks_room inserted evidence p)
    room = room_by_slot s.table.pages p (slot_of s.table.pages p) PAGES refl refl few ∙ ap not (sym (outgrows (p ∷ [])))

    pub full_lacks_room : slot_of s.table.pages p ≡ PAGES → lacks_room inserted evidence p ≡ true
    full_lacks_room full = go (lacks_room inserted evidence p) room
      where
        go : (b : Bool) → nat_lt (slot_of s.table.pages p) PAGES ≡ not b → b ≡ true
        go true e = refl
        go false e = absurd (omega (arith, ltb-true (slot_of s.table.pages p) PAGES e, full))

    pub lacks_room_full : lacks_room inserted evidence p ≡ true → slot_of s.table.pages p ≡ PAGES
    lacks_room_full over = omega (arith, ltb-false (slot_of s.table.pages p) PAGES (room ∙ ap not over), slot_of-le s.table.pages p, few)

-- the page of a name among names is among their pages
pub page_among : (names : List FullName) (n : FullName) → among names n ≡ true → is_in (map page_of_name names) n.stream.page ≡ true
page_among [] n h = absurd (false≢true h)
page_among (m ∷ names) n h = go (same_name n m) refl h (page_among names n)
  where
    go : (b : Bool) → same_name n m ≡ b → (b || among names n) ≡ true → (among names n ≡ true → is_in (map page_of_name names) n.stream.page ≡ true) → (same_page m.stream.page n.stream.page || is_in (map page_of_name names) n.stream.page) ≡ true
    go true e h rest = ap (λ b. b || is_in (map page_of_name names) n.stream.page) (ap (λ (k : FullName). same_page m.stream.page k.stream.page) (same_name-is n m e) ∙ same_page-itself m.stream.page)
    go false e h rest = or_right (same_page m.stream.page n.stream.page) (is_in (map page_of_name names) n.stream.page) (rest h)

-- seating the names in turn
pub one_seated : (pages : List Page) (names : List FullName) (i : ℕ) (name : FullName) (page : Page) → page ≡ name.stream.page → name ≡ get_or names i name → i < length names
    → with_pages (with_page pages page) (map page_of_name (drop (i + 1) names)) ≡ with_pages pages (map page_of_name (drop i names))
one_seated pages names i name page e at lt =
    ap (λ q. with_pages (with_page pages q) (map page_of_name (drop (i + 1) names))) e
    ∙ ap (λ ns. with_pages pages (map page_of_name ns)) (sym (left_at i name names lt at))

with_pages-few : (pages : List Page) (names : List FullName) → table_lacks_room_for pages names ≡ false → length (with_pages_of pages names) ≤ PAGES
with_pages-few pages names room = ltb-false PAGES (length (with_pages_of pages names)) room

-- the page of the next name finds room where those of all names do
pub one_has_room : (pages start : List Page) (names : List FullName) (i : ℕ) (name : FullName) (page : Page) → page ≡ name.stream.page → name ≡ get_or names i name → i < length names
    → with_pages pages (map page_of_name (drop i names)) ≡ with_pages_of start names → table_lacks_room_for start names ≡ false → table_lacks_room pages page ≡ false
one_has_room pages start names i name page e at lt whole room = le-ltb PAGES (length (with_page pages page)) (omega (arith, longer, k, with_pages-few start names room))
  where
    longer : length (with_page pages page) ≤ length (with_pages (with_page pages page) (map page_of_name (drop (i + 1) names)))
    longer = with_pages-longer (with_page pages page) (map page_of_name (drop (i + 1) names))

    k : length (with_pages (with_page pages page) (map page_of_name (drop (i + 1) names))) ≡ length (with_pages_of start names)
    k = ap length (one_seated pages names i name page e at lt ∙ whole)

pub all_seated : (pages all : List Page) (names : List FullName) (i : ℕ) → length names ≤ i → with_pages pages (map page_of_name (drop i names)) ≡ all → pages ≡ all
all_seated pages all names i past whole = ap (λ ns. with_pages pages (map page_of_name ns)) (sym (drop_all i names past)) ∙ whole

-- Counting the pages of names beside a table: the table, the pages that were added, and those of the names that are left are all.
module _ (pages added : List Page) (names : List FullName) (i count : ℕ) (name : FullName) (page : Page) (e : page ≡ name.stream.page) (at : name ≡ get_or names i name) (lt : i < length names) (whole : with_pages (pages ++ take count added) (map page_of_name (drop i names)) ≡ with_pages_of pages names) where
  abbrev so_far : List Page
  so_far = pages ++ take count added

  next : (b : Bool) → is_in pages page || is_in (take count added) page ≡ b → with_pages (if b then so_far else so_far ++ page ∷ []) (map page_of_name (drop (i + 1) names)) ≡ with_pages_of pages names
  next b there =
      ap (λ (x : Bool). with_pages (if x then so_far else so_far ++ page ∷ []) (map page_of_name (drop (i + 1) names))) (sym there ∙ sym (list_any-append (λ q. same_page q page) pages (take count added)))
      ∙ one_seated so_far names i name page e at lt ∙ whole

  pub count_kept : is_in pages page || is_in (take count added) page ≡ true → with_pages (pages ++ take count added) (map page_of_name (drop (i + 1) names)) ≡ with_pages_of pages names
  count_kept there = next true there

  module _ (new : is_in pages page || is_in (take count added) page ≡ false) (within : count < length added) where
    pub count_more : with_pages (pages ++ take (count + 1) (set added count page)) (map page_of_name (drop (i + 1) names)) ≡ with_pages_of pages names
    count_more = ap (λ ps. with_pages ps (map page_of_name (drop (i + 1) names))) one_more ∙ next false new
      where
        one_more : pages ++ take (count + 1) (set added count page) ≡ so_far ++ page ∷ []
        one_more = sym (append_assoc pages (take count added) (page ∷ []) ∙ ap (λ ps. pages ++ ps) (sym (take_more_set added count page within)))

  pub count_full : is_in pages page || is_in (take count added) page ≡ false → length pages + count ≡ PAGES → count ≤ length added → table_lacks_room_for pages names ≡ true
  count_full new full within = lt-ltb PAGES (length (with_pages_of pages names)) (omega (arith, longer, k, one_more, full, front))
    where
      longer : length (so_far ++ page ∷ []) ≤ length (with_pages (so_far ++ page ∷ []) (map page_of_name (drop (i + 1) names)))
      longer = with_pages-longer (so_far ++ page ∷ []) (map page_of_name (drop (i + 1) names))

      k : length (with_pages (so_far ++ page ∷ []) (map page_of_name (drop (i + 1) names))) ≡ length (with_pages_of pages names)
      k = ap length (next false new)

      one_more : length (so_far ++ page ∷ []) ≡ length so_far + 1
      one_more = length-append so_far (page ∷ [])

      front : length so_far ≡ length pages + count
      front = length-append pages (take count added) ∙ ap (λ n. length pages + n) (length-take-le count added within)

pub counted_all : (pages added : List Page) (names : List FullName) (i count : ℕ) → length names ≤ i → with_pages (pages ++ take count added) (map page_of_name (drop i names)) ≡ with_pages_of pages names
    → length pages + count ≤ PAGES → count ≤ length added → table_lacks_room_for pages names ≡ false
counted_all pages added names i count past whole few within =
    let all : length (pages ++ take count added) ≡ length (with_pages_of pages names) = ap length (all_seated (pages ++ take count added) (with_pages_of pages names) names i past whole) in
    le-ltb PAGES (length (with_pages_of pages names)) (omega (arith, all, length-append pages (take count added), length-take-le count added within, few))
