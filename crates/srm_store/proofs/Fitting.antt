-- One more call, in what the definitions say and in what a store has.
use Rattle.std.proofs.Common.{◌≡◌, ◌≢◌, ℕ, ◌<◌, ◌⊎◌, List, [], ◌∷◌, ◌++◌, Some, None, Bool, true, false, ◌&&◌, max, length, refl, sym, ap, ◌∙◌, subst, append_assoc, arith, inl, inr}
use Rattle.std.specs.Prelude.{◌==◌, ◌||◌, map, cond, if◌then◌else◌}
use Rattle.std.specs.List.{list_any, flat_map}
use Rattle.std.proofs.Math.Bool.{or_assoc}
use Rattle.std.proofs.lemmas.Bool.{false≢true, eq-eqb, ne_eqb, cases_eq}
use Rattle.std.proofs.lemmas.List.{map-append}
use Rattle.std.proofs.lemmas.List.Folds.{find-append, list_any-append}
use Rattle.std.proofs.lemmas.List.Concat.{flat_map-append}
use Rattle.srm_names.specs.declared.limits.TheConstants.{MEMBERS}
use Rattle.srm_names.specs.declared.page.Page.{Page}
use Rattle.srm_names.specs.declared.stream.Stream.{Stream}
use Rattle.srm_names.specs.declared.drawop.Drawop.{Drawop}
use Rattle.srm_names.specs.FullName.{FullName}
use Rattle.srm_names.specs.Histories.{or_else, greatest, firsts}
use Rattle.srm_names.specs.Names.{first_page, same_page, same_stream, same_name}
use Rattle.srm_names.proofs.Lists.{greatest-append}
use Rattle.srm_names.proofs.Same.{same_stream-is, same_stream-itself, same_name-is}
use Rattle.srm_names.proofs.Snoc.{first_of-snoc, list_any-snoc, or_else-none}
use Rattle.srm_store.specs.Held.{has_name, held_at, number_in, known, page_of_drawop, page_of_name, pages_named}
use Rattle.srm_store.specs.Finals.{Settling, rows_for, rows_of, rows_kept, FinalsContent, SameFinals, Settles}
use Rattle.srm_store.specs.Places.{place_at}
use Rattle.srm_store.specs.StreamPlaces.{StreamContent}
use Rattle.srm_store.specs.PageTables.{is_in, each_once}
use Rattle.srm_store.specs.Tables.{TableContent, places_of_stream, drawop_in_table, IsNewTable, SameTable, TableGains, TableLearns}
use Rattle.srm_store.specs.Stores.{StoreContent}
use Rattle.srm_store.specs.Rooms.{RoomContent}
use Rattle.srm_store.specs.Fits.{StoreFits, StoreStays}
use Rattle.srm_store.proofs.Placing.{place_at-blank}
use Rattle.srm_store.proofs.Slots.{is_in-with_page}
use Rattle.srm_store.proofs.Pages.{length-included, each_once-firsts, is_in-firsts, once_with}

-- a name among drawops
held_more : (inserted : List Drawop) (d : Drawop) (n : FullName) → held_at (inserted ++ d ∷ []) n ≡ (if same_name d.name n then or_else (held_at inserted n) (Some d) else held_at inserted n)
held_more inserted d n = find-append (has_name n) inserted (d ∷ []) ∙ go (same_name d.name n)
  where
    go : (b : Bool) → or_else (held_at inserted n) (cond b (Some d) None) ≡ (if b then or_else (held_at inserted n) (Some d) else held_at inserted n)
    go true = refl
    go false = or_else-none (held_at inserted n)

eqb-flip : (a b : ℕ) → (a == b) ≡ (b == a)
eqb-flip a b = go (cases_eq a b)
  where
    go : ((a ≡ b) ⊎ (a ≢ b)) → (a == b) ≡ (b == a)
    go (inl e) = eq-eqb a b e ∙ sym (eq-eqb b a (sym e))
    go (inr ne) = ne_eqb a b ne ∙ sym (ne_eqb b a (λ e. ne (sym e)))

name_here : (a n : FullName) → n.stream ≡ a.stream → same_name a n ≡ (n.number == a.number)
name_here a n e =
    let same : same_stream a.stream n.stream ≡ true = ap (same_stream a.stream) e ∙ same_stream-itself a.stream in
    ap (λ b. b && (a.number == n.number)) same ∙ eqb-flip a.number n.number

name_elsewhere : (a n : FullName) → same_stream n.stream a.stream ≡ false → same_name a n ≡ false
name_elsewhere a n other = go (same_name a n) refl
  where
    go : (b : Bool) → same_name a n ≡ b → b ≡ false
    go false e = refl
    go true e = absurd (false≢true (sym other ∙ ap (λ (m : FullName). same_stream n.stream m.stream) (same_name-is a n e) ∙ same_stream-itself n.stream))

gains_at : (d : Drawop) (old new : TableContent) → TableGains d old new → (n : FullName) → n.stream.source < MEMBERS → drawop_in_table new n ≡ (if same_name d.name n then or_else (drawop_in_table old n) (Some d) else drawop_in_table old n)
gains_at d old new g n lt = go (same_stream n.stream d.name.stream) refl
  where
    go : (b : Bool) → same_stream n.stream d.name.stream ≡ b → drawop_in_table new n ≡ (if same_name d.name n then or_else (drawop_in_table old n) (Some d) else drawop_in_table old n)
    go true e =
        let s = same_stream-is n.stream d.name.stream e in
        rw (name_here d.name n s) (subst (λ (u : Stream). place_at (places_of_stream new u).places n.number ≡ (if n.number == d.name.number then or_else (place_at (places_of_stream old u).places n.number) (Some d) else place_at (places_of_stream old u).places n.number)) (sym s) (g.stream.each n.number))
    go false e = rw (name_elsewhere d.name n e) ((g.others n.stream lt e).each n.number)

gains_known : (d : Drawop) (old new : TableContent) → TableGains d old new → (s : Stream) → s.source < MEMBERS → (places_of_stream new s).known ≡ (places_of_stream old s).known
gains_known d old new g s lt = go (same_stream s d.name.stream) refl
  where
    go : (b : Bool) → same_stream s d.name.stream ≡ b → (places_of_stream new s).known ≡ (places_of_stream old s).known
    go true e = subst (λ u. (places_of_stream new u).known ≡ (places_of_stream old u).known) (sym (same_stream-is s d.name.stream e)) g.stream.known
    go false e = (g.others s lt e).known

learns_at : (a : FullName) (old new : TableContent) → TableLearns a old new → (n : FullName) → n.stream.source < MEMBERS → drawop_in_table new n ≡ drawop_in_table old n
learns_at a old new g n lt = go (same_stream n.stream a.stream) refl
  where
    go : (b : Bool) → same_stream n.stream a.stream ≡ b → drawop_in_table new n ≡ drawop_in_table old n
    go true e = subst (λ u. place_at (places_of_stream new u).places n.number ≡ place_at (places_of_stream old u).places n.number) (sym (same_stream-is n.stream a.stream e)) (ap (λ (r : StreamContent). place_at r.places n.number) g.stream)
    go false e = (g.others n.stream lt e).each n.number

pub learns_known : (a : FullName) (old new : TableContent) → TableLearns a old new → (s : Stream) → s.source < MEMBERS → (places_of_stream new s).known ≡ (if same_stream s a.stream then max (places_of_stream old s).known a.number else (places_of_stream old s).known)
learns_known a old new g s lt = go (same_stream s a.stream) refl
  where
    go : (b : Bool) → same_stream s a.stream ≡ b → (places_of_stream new s).known ≡ (if b then max (places_of_stream old s).known a.number else (places_of_stream old s).known)
    go true e = subst (λ u. (places_of_stream new u).known ≡ max (places_of_stream old u).known a.number) (sym (same_stream-is s a.stream e)) (ap (λ (r : StreamContent). r.known) g.stream)
    go false e = (g.others s lt e).known

-- the greatest number, and one more
known_more : (evidence : List FullName) (a : FullName) (s : Stream) → known (evidence ++ a ∷ []) s ≡ (if same_stream s a.stream then max (known evidence s) a.number else known evidence s)
known_more evidence a s = ap greatest (flat_map-append (number_in s) evidence (a ∷ [])) ∙ greatest-append (flat_map (number_in s) evidence) _ ∙ go (same_stream s a.stream)
  where
    go : (b : Bool) → max (known evidence s) (greatest ((if b then a.number ∷ [] else []) ++ [])) ≡ (if b then max (known evidence s) a.number else known evidence s)
    go true = omega arith
    go false = omega arith

-- the pages that were named
pub or_swap : (a b d : Bool) → ((a || b) || d) ≡ ((a || d) || b)
or_swap true b d = refl
or_swap false true true = refl
or_swap false true false = refl
or_swap false false true = refl
or_swap false false false = refl

any_front : {X : Type 0} (p : X → Bool) (xs ys : List X) (y : X) → list_any p ((xs ++ y ∷ []) ++ ys) ≡ list_any p (xs ++ ys) || p y
any_front p xs ys y =
    list_any-append p (xs ++ y ∷ []) ys ∙ ap (λ b. b || list_any p ys) (list_any-snoc p xs y)
    ∙ or_swap (list_any p xs) (p y) (list_any p ys) ∙ ap (λ b. b || p y) (sym (list_any-append p xs ys))

any_back : {X : Type 0} (p : X → Bool) (xs ys : List X) (y : X) → list_any p (xs ++ (ys ++ y ∷ [])) ≡ list_any p (xs ++ ys) || p y
any_back p xs ys y = ap (list_any p) (sym (append_assoc xs ys (y ∷ []))) ∙ list_any-snoc p (xs ++ ys) y

pages_inserted : (inserted : List Drawop) (evidence : List FullName) (d : Drawop) (p : Page) → is_in (pages_named (inserted ++ d ∷ []) evidence) p ≡ is_in (pages_named inserted evidence) p || same_page d.name.stream.page p
pages_inserted inserted evidence d p =
    ap (λ ps. same_page first_page p || is_in (ps ++ map page_of_name evidence) p) (map-append page_of_drawop inserted (d ∷ []))
    ∙ ap (λ b. same_page first_page p || b) (any_front (λ q. same_page q p) (map page_of_drawop inserted) (map page_of_name evidence) d.name.stream.page)
    ∙ sym (or_assoc (same_page first_page p) (is_in (map page_of_drawop inserted ++ map page_of_name evidence) p) (same_page d.name.stream.page p))

pages_shown : (inserted : List Drawop) (evidence : List FullName) (n : FullName) (p : Page) → is_in (pages_named inserted (evidence ++ n ∷ [])) p ≡ is_in (pages_named inserted evidence) p || same_page n.stream.page p
pages_shown inserted evidence n p =
    ap (λ ps. same_page first_page p || is_in (map page_of_drawop inserted ++ ps) p) (map-append page_of_name evidence (n ∷ []))
    ∙ ap (λ b. same_page first_page p || b) (any_back (λ q. same_page q p) (map page_of_drawop inserted) (map page_of_name evidence) n.stream.page)
    ∙ sym (or_assoc (same_page first_page p) (is_in (map page_of_drawop inserted ++ map page_of_name evidence) p) (same_page n.stream.page p))

-- as many pages were named as the table has
pub count_named : {inserted : List Drawop} {evidence : List FullName} {settled : List Settling} {s : StoreContent} → StoreFits inserted evidence settled s → length (firsts same_page (pages_named inserted evidence)) ≡ length s.table.pages
count_named {inserted} {evidence} {s = s} h =
    let up = length-included s.table.pages (firsts same_page (pages_named inserted evidence)) h.once (λ q there. is_in-firsts (pages_named inserted evidence) q ∙ sym (h.pages q) ∙ there) in
    let down = length-included (firsts same_page (pages_named inserted evidence)) s.table.pages (each_once-firsts (pages_named inserted evidence)) (λ q there. h.pages q ∙ sym (is_in-firsts (pages_named inserted evidence) q) ∙ there) in
    omega arith

-- the calls
pub fits_new : (t : TableContent) (f : FinalsContent) (s : StoreContent) → s.table ≡ t → s.finals ≡ f → IsNewTable t → ((m : ℕ) → rows_kept f m ≡ None) → StoreFits [] [] [] s
fits_new t f s ts fs new none = record {
  pages = λ p. ap (λ (x : TableContent). is_in x.pages p) ts ∙ ap (λ ps. is_in ps p) new.pages;
  once = ap (λ (x : TableContent). each_once x.pages) ts ∙ ap each_once new.pages;
  held = λ n lt. ap (λ x. drawop_in_table x n) ts ∙ (new.streams n.stream lt).each n.number ∙ place_at-blank n.number;
  known = λ stream lt. ap (λ x. (places_of_stream x stream).known) ts ∙ (new.streams stream lt).known;
  rows = λ m. ap (λ x. rows_kept x m) fs ∙ none m;
}

module _ {inserted : List Drawop} {evidence : List FullName} {settled : List Settling} (old new : StoreContent) (h : StoreFits inserted evidence settled old) where
  pub fits_gains : (d : Drawop) → TableGains d old.table new.table → new.finals ≡ old.finals → StoreFits (inserted ++ d ∷ []) evidence settled new
  fits_gains d g f = record {
    pages = λ p. ap (λ ps. is_in ps p) g.pages ∙ is_in-with_page old.table.pages d.name.stream.page p ∙ ap (λ b. b || same_page d.name.stream.page p) (h.pages p) ∙ sym (pages_inserted inserted evidence d p);
    once = ap each_once g.pages ∙ once_with old.table.pages d.name.stream.page h.once;
    held = λ n lt. gains_at d old.table new.table g n lt ∙ ap (λ o. if same_name d.name n then or_else o (Some d) else o) (h.held n lt) ∙ sym (held_more inserted d n);
    known = λ stream lt. gains_known d old.table new.table g stream lt ∙ h.known stream lt;
    rows = λ m. ap (λ x. rows_kept x m) f ∙ h.rows m;
  }

  pub fits_learns : (a : FullName) → TableLearns a old.table new.table → new.finals ≡ old.finals → StoreFits inserted (evidence ++ a ∷ []) settled new
  fits_learns a g f = record {
    pages = λ p. ap (λ ps. is_in ps p) g.pages ∙ is_in-with_page old.table.pages a.stream.page p ∙ ap (λ b. b || same_page a.stream.page p) (h.pages p) ∙ sym (pages_shown inserted evidence a p);
    once = ap each_once g.pages ∙ once_with old.table.pages a.stream.page h.once;
    held = λ n lt. learns_at a old.table new.table g n lt ∙ h.held n lt;
    known = λ stream lt. learns_known a old.table new.table g stream lt ∙ ap (λ k. if same_stream stream a.stream then max k a.number else k) (h.known stream lt) ∙ sym (known_more evidence a stream);
    rows = λ m. ap (λ x. rows_kept x m) f ∙ h.rows m;
  }

  pub fits_same : SameTable old.table new.table → SameFinals old.finals new.finals → StoreFits inserted evidence settled new
  fits_same t f = record {
    pages = λ p. ap (λ ps. is_in ps p) t.pages ∙ h.pages p;
    once = ap each_once t.pages ∙ h.once;
    held = λ n lt. (t.streams n.stream lt).each n.number ∙ h.held n lt;
    known = λ stream lt. (t.streams stream lt).known ∙ h.known stream lt;
    rows = λ m. f.each m ∙ h.rows m;
  }

  pub fits_settled : (member : ℕ) (rows : List FullName) → new.table ≡ old.table → Settles member rows old.finals new.finals → StoreFits inserted evidence (settled ++ record { member = member; rows = rows } ∷ []) new
  fits_settled member rows t f = record {
    pages = λ p. ap (λ (x : TableContent). is_in x.pages p) t ∙ h.pages p;
    once = ap (λ (x : TableContent). each_once x.pages) t ∙ h.once;
    held = λ n lt. ap (λ x. drawop_in_table x n) t ∙ h.held n lt;
    known = λ stream lt. ap (λ x. (places_of_stream x stream).known) t ∙ h.known stream lt;
    rows = λ m. f.each m ∙ ap (λ o. if m == member then or_else o (Some rows) else o) (h.rows m) ∙ sym (rows_more m);
  }
    where
      choose : (m : ℕ) (b : Bool) → or_else (rows_of settled m) (if b then Some rows else None) ≡ (if b then or_else (rows_of settled m) (Some rows) else rows_of settled m)
      choose m true = refl
      choose m false = or_else-none (rows_of settled m)

      rows_more : (m : ℕ) → rows_of (settled ++ record { member = member; rows = rows } ∷ []) m ≡ (if m == member then or_else (rows_of settled m) (Some rows) else rows_of settled m)
      rows_more m = first_of-snoc (rows_for m) settled (record { member = member; rows = rows }) ∙ ap (λ b. or_else (rows_of settled m) (if b then Some rows else None)) (eqb-flip member m) ∙ choose m (m == member)

pub same_finals : (f : FinalsContent) → SameFinals f f
same_finals f = record { each = λ m. refl }

pub still_fits_on : (a b c : StoreContent) → StoreStays a b → StoreStays b c → StoreStays a c
still_fits_on a b c h k = record { each = λ inserted evidence settled f. k.each inserted evidence settled (h.each inserted evidence settled f) }

pub still_fits : (s : StoreContent) → StoreStays s s
still_fits s = record { each = λ inserted evidence settled h. h }

-- room for answers has no part in what fits
pub still_with : (a b : StoreContent) (rooms : List RoomContent) → StoreStays a b → StoreStays a (record b { rooms = rooms })
still_with a b rooms h = record {
  each = λ inserted evidence settled f.
      let g = h.each inserted evidence settled f in
      record { pages = g.pages; once = g.once; held = g.held; known = g.known; rows = g.rows };
}

pub without : (a b : StoreContent) (rooms : List RoomContent) → StoreStays b a → StoreStays (record b { rooms = rooms }) a
without a b rooms h = record { each = λ inserted evidence settled f. h.each inserted evidence settled (record { pages = f.pages; once = f.once; held = f.held; known = f.known; rows = f.rows }) }
