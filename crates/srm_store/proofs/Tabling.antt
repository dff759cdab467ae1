-- One stream of the table changes, and its page gets a slot.
use Rattle.std.proofs.Common.{◌≡◌, ◌≢◌, ℕ, ◌+◌, ◌*◌, ◌<◌, ◌≤◌, ◌⊎◌, List, Bool, true, false, length, get_or, set, refl, sym, ap, ◌∙◌, subst, arith, inl, inr}
use Rattle.std.specs.Prelude.{max, ◌&&◌, ◌==◌}
use Rattle.std.proofs.lemmas.Bool.{cases_eq, false≢true, and_from, eq-eqb}
use Rattle.std.proofs.lemmas.List.{get_or-set_same, get_or-set_other, length-set, get_or_default}
use Rattle.srm_names.specs.declared.limits.TheConstants.{PAGES, MEMBERS}
use Rattle.srm_names.specs.declared.page.Page.{Page}
use Rattle.srm_names.specs.declared.stream.Stream.{Stream}
use Rattle.srm_names.specs.declared.drawop.Drawop.{Drawop}
use Rattle.srm_names.specs.FullName.{FullName}
use Rattle.srm_names.specs.Names.{same_page, same_stream}
use Rattle.srm_names.proofs.Same.{same_page-is}
use Rattle.srm_store.specs.Places.{has_place, StillHas}
use Rattle.srm_store.specs.StreamPlaces.{StreamContent, blank_stream, SameStreamPlaces, StreamGains}
use Rattle.srm_store.specs.PageTables.{is_in, slot_of, with_page}
use Rattle.srm_store.specs.Tables.{TableContent, stream_in, places_of_stream, slots_end, TableGains, TableLearns, HasPlaceFor, StillHasPlaces}
use Rattle.srm_store.proofs.Slots.{slot_of-absent, with_page-slot, with_page-has, with_page-longer, with_page-few, others_slot, others_apart, others_absent, slots_shrink}

pub same_row : (r : StreamContent) → SameStreamPlaces r r
same_row r = record { each = λ n. refl; known = refl }

pub same_row_on : (a b c : StreamContent) → SameStreamPlaces a b → SameStreamPlaces b c → SameStreamPlaces a c
same_row_on a b c h k = record { each = λ n. k.each n ∙ h.each n; known = k.known ∙ h.known }

pub same_row_back : (a b : StreamContent) → SameStreamPlaces a b → SameStreamPlaces b a
same_row_back a b h = record { each = λ n. sym (h.each n); known = sym h.known }

pub same_row_is : (a b c : StreamContent) → SameStreamPlaces a b → c ≡ b → SameStreamPlaces a c
same_row_is a b c h e = subst (SameStreamPlaces a) (sym e) h

-- the streams behind the last page are blank
abbrev pub AreBlank : List Page → List StreamContent → Type 0
AreBlank pages streams = (slot source : ℕ) → length pages ≤ slot → source < MEMBERS → SameStreamPlaces blank_stream (stream_in streams slot source)

module _ (streams : List StreamContent) (slot source : ℕ) (r : StreamContent) (inside : slot * 32 + source < length streams) where
  abbrev after : List StreamContent
  after = set streams (slot * 32 + source) r

  pub set_here : stream_in after slot source ≡ r
  set_here = get_or-set_same streams (slot * 32 + source) r blank_stream inside

  -- another slot, or another source
  pub set_slot : (a b : ℕ) → source < MEMBERS → b < MEMBERS → a ≢ slot → stream_in after a b ≡ stream_in streams a b
  set_slot a b here there other = get_or-set_other streams (slot * 32 + source) (a * 32 + b) r blank_stream (λ e. other (omega arith))

  pub set_source : (b : ℕ) → b ≢ source → stream_in after slot b ≡ stream_in streams slot b
  set_source b other = get_or-set_other streams (slot * 32 + source) (slot * 32 + b) r blank_stream (λ e. other (omega arith))

  -- places stay
  pub set_still : StillHas (stream_in streams slot source).places r.places → (a b n : ℕ) → has_place (stream_in streams a b).places n ≡ true → has_place (stream_in after a b).places n ≡ true
  set_still h a b n there = go (cases_eq (a * 32 + b) (slot * 32 + source))
    where
      go : ((a * 32 + b ≡ slot * 32 + source) ⊎ (a * 32 + b ≢ slot * 32 + source)) → has_place (stream_in after a b).places n ≡ true
      go (inl e) = ap (λ k. has_place (get_or after k blank_stream).places n) e ∙ ap (λ (x : StreamContent). has_place x.places n) set_here ∙ h.each n (sym (ap (λ k. has_place (get_or streams k blank_stream).places n) e) ∙ there)
      go (inr ne) = ap (λ (x : StreamContent). has_place x.places n) (get_or-set_other streams (slot * 32 + source) (a * 32 + b) r blank_stream ne) ∙ there

row_moved : (streams : List StreamContent) (a b source : ℕ) → a ≡ b → stream_in streams a source ≡ stream_in streams b source
row_moved streams a b source e = ap (λ k. stream_in streams k source) e

same_content : (ps qs : List Page) (xs ys : List StreamContent) → ps ≡ qs → xs ≡ ys → ◌≡◌ {A = TableContent} (record { pages = ps; streams = xs }) (record { pages = qs; streams = ys })
same_content ps qs xs ys e f = cc

module _ (t : TableContent) (p : Page) (source : ℕ) (r : StreamContent) (few : length (with_page t.pages p) ≤ PAGES) (size : length t.streams ≡ 288) (blank : AreBlank t.pages t.streams) (known : source < MEMBERS) where
  abbrev slot : ℕ
  slot = slot_of t.pages p

  abbrev pub changed : TableContent
  changed = record { pages = with_page t.pages p; streams = set t.streams (slot * 32 + source) r }

  inside : slot * 32 + source < length t.streams
  inside = omega (arith, with_page-has t.pages p, few, size, known)

  pub changed_row : stream_in changed.streams (slot_of changed.pages p) source ≡ r
  changed_row = row_moved changed.streams (slot_of changed.pages p) slot source (with_page-slot t.pages p) ∙ set_here t.streams slot source r inside

  pub changed_blank : AreBlank changed.pages changed.streams
  changed_blank a b past there = same_row_is blank_stream _ _ (blank a b (omega (arith, past, with_page-longer t.pages p)) there)
      (set_slot t.streams slot source r inside a b known there (λ e. absurd (omega (arith, with_page-has t.pages p, past))))

  pub changed_others : (s : Stream) → s.source < MEMBERS → ((s.source == source) && same_page s.page p) ≡ false → SameStreamPlaces (places_of_stream t s) (places_of_stream changed s)
  changed_others s there other = go (same_page s.page p) refl (is_in t.pages s.page) refl
    where
      go : (b : Bool) → same_page s.page p ≡ b → (d : Bool) → is_in t.pages s.page ≡ d → SameStreamPlaces (places_of_stream t s) (places_of_stream changed s)
      go true e d f =
          let page = same_page-is s.page p e in
          let apart : s.source ≢ source = λ same. absurd (false≢true (sym other ∙ and_from _ _ (eq-eqb s.source source same) e)) in
          same_row_is _ _ _ (same_row (places_of_stream t s))
          (row_moved changed.streams (slot_of changed.pages s.page) slot s.source (ap (slot_of changed.pages) page ∙ with_page-slot t.pages p)
          ∙ set_source t.streams slot source r inside s.source apart
          ∙ row_moved t.streams slot (slot_of t.pages s.page) s.source (ap (slot_of t.pages) (sym page)))
      go false e true f =
          same_row_is _ _ _ (same_row (places_of_stream t s))
          (row_moved changed.streams (slot_of changed.pages s.page) (slot_of t.pages s.page) s.source (others_slot t.pages p s.page f)
          ∙ set_slot t.streams slot source r inside (slot_of t.pages s.page) s.source known there (others_apart t.pages p s.page e f))
      go false e false f =
          let was = slot_of-absent t.pages s.page f in
          let now = others_absent t.pages p s.page e f in
          same_row_on _ _ _ (same_row_back _ _ (blank (slot_of t.pages s.page) s.source (omega (arith, was)) there)) (changed_blank (slot_of changed.pages s.page) s.source (omega (arith, now)) there)

  pub changed_still : StillHas (stream_in t.streams slot source).places r.places → StillHasPlaces t changed
  changed_still h = record {
    each = λ n had. let fewer = slots_shrink t.pages p n.stream.page few in record {
      each = λ a low high. set_still t.streams slot source r inside h a n.stream.source n.number (had.each a (omega (arith, fewer.0, low)) (omega (arith, fewer.1, high)));
    };
  }

-- In the words of a method: the fields are the value, and a stream was read and written at its place.
pub record Wrote (t old : TableContent) (s : Stream) (slot k : ℕ) (read r : StreamContent) : Type 0 where
  pub is : t ≡ old
  pub few : length t.pages ≤ PAGES
  pub size : length t.streams ≡ 288
  pub blank : AreBlank t.pages t.streams
  pub known : s.source < MEMBERS
  pub at : slot ≡ slot_of t.pages s.page
  pub below : slot < PAGES
  pub place : k ≡ slot * 32 + s.source
  pub found : read ≡ get_or t.streams k read

module _ {t old : TableContent} {s : Stream} {slot k : ℕ} {read r : StreamContent} (w : Wrote t old s slot k read r) where
  abbrev pub home : ℕ
  home = slot_of t.pages s.page * 32 + s.source

  k_is : k ≡ home
  k_is = omega (arith, w.at, w.place)

  more_few : length (with_page t.pages s.page) ≤ PAGES
  more_few = with_page-few t.pages s.page w.few (omega (arith, w.at, w.below))

  there : home < length t.streams
  there = omega (arith, w.at, w.below, w.size, w.known)

  pub read_is : read ≡ places_of_stream t s
  read_is = w.found ∙ ap (λ i. get_or t.streams i read) k_is ∙ get_or_default t.streams home read blank_stream there

  rows_are : set t.streams k r ≡ set t.streams home r
  rows_are = ap (λ i. set t.streams i r) k_is

  pub in_size : length (set t.streams k r) ≡ 288
  in_size = length-set t.streams k r ∙ w.size

  module _ (pages : List Page) (seated : pages ≡ with_page t.pages s.page) where
    abbrev new : TableContent
    new = record { pages = pages; streams = set t.streams k r }

    new_is : new ≡ changed t s.page s.source r more_few w.size w.blank w.known
    new_is = same_content _ _ _ _ seated rows_are

    pub in_blank : AreBlank pages (set t.streams k r)
    in_blank = subst (λ (x : TableContent). AreBlank x.pages x.streams) (sym new_is) (changed_blank t s.page s.source r more_few w.size w.blank w.known)

    in_row : places_of_stream new s ≡ r
    in_row = ap (λ x. places_of_stream x s) new_is ∙ changed_row t s.page s.source r more_few w.size w.blank w.known

    in_others : (u : Stream) → u.source < MEMBERS → same_stream u s ≡ false → SameStreamPlaces (places_of_stream old u) (places_of_stream new u)
    in_others u lt other = subst (λ x. SameStreamPlaces (places_of_stream x u) (places_of_stream new u)) w.is (subst (λ x. SameStreamPlaces (places_of_stream t u) (places_of_stream x u)) (sym new_is) (changed_others t s.page s.source r more_few w.size w.blank w.known u lt other))

    in_pages : new.pages ≡ with_page old.pages s.page
    in_pages = seated ∙ ap (λ (x : TableContent). with_page x.pages s.page) w.is

    pub in_still : StillHas read.places r.places → StillHasPlaces old new
    in_still h = subst (λ x. StillHasPlaces x new) w.is (subst (StillHasPlaces t) (sym new_is) (changed_still t s.page s.source r more_few w.size w.blank w.known (subst (λ x. StillHas x.places r.places) read_is h)))

    pub in_learns : (n : FullName) → s ≡ n.stream → r ≡ record read { known = max read.known n.number } → TableLearns n old new
    in_learns n e wrote = record {
      pages = subst (λ (u : Stream). new.pages ≡ with_page old.pages u.page) e in_pages;
      stream = subst (λ (u : Stream). places_of_stream new u ≡ record (places_of_stream old u) { known = max (places_of_stream old u).known n.number }) e
          (in_row ∙ wrote ∙ ap (λ (x : StreamContent). let y : StreamContent = record x { known = max x.known n.number } in y) (read_is ∙ ap (λ x. places_of_stream x s) w.is));
      others = subst (λ (v : Stream). (u : Stream) → u.source < MEMBERS → same_stream u v ≡ false → SameStreamPlaces (places_of_stream old u) (places_of_stream new u)) e in_others;
    }

    pub in_gains : (d : Drawop) → s ≡ d.name.stream → StreamGains d read r → TableGains d old new
    in_gains d e wrote = record {
      pages = subst (λ (u : Stream). new.pages ≡ with_page old.pages u.page) e in_pages;
      stream = subst (λ (u : Stream). StreamGains d (places_of_stream old u) (places_of_stream new u)) e
          (subst (StreamGains d (places_of_stream old s)) (sym in_row) (subst (λ x. StreamGains d x r) (read_is ∙ ap (λ x. places_of_stream x s) w.is) wrote));
      others = subst (λ (v : Stream). (u : Stream) → u.source < MEMBERS → same_stream u v ≡ false → SameStreamPlaces (places_of_stream old u) (places_of_stream new u)) e in_others;
    }

pub knows_still : (read r : StreamContent) (k : ℕ) → r ≡ record read { known = k } → StillHas read.places r.places
knows_still read r k e = record { each = λ n there. ap (λ (x : StreamContent). has_place x.places n) e ∙ there }

pub places_made : (t old : TableContent) (n : FullName) (s : Stream) (first end source number : ℕ)
    → t.pages ≡ old.pages → s ≡ n.stream → first ≡ slot_of old.pages s.page → source ≡ s.source → number ≡ n.number → slots_end old.pages s.page ≡ end
    → ((slot : ℕ) → first ≤ slot → slot < end → has_place (stream_in t.streams slot source).places number ≡ true) → HasPlaceFor n t
places_made t old n s first end source number pages stream first_is source_is number_is end_is made = record {
  each = λ slot low high.
      let starts : slot_of t.pages n.stream.page ≡ first = ap (λ ps. slot_of ps n.stream.page) pages ∙ ap (λ (u : Stream). slot_of old.pages u.page) (sym stream) ∙ sym first_is in
      let ends : slots_end t.pages n.stream.page ≡ end = ap (λ ps. slots_end ps n.stream.page) pages ∙ ap (λ (u : Stream). slots_end old.pages u.page) (sym stream) ∙ end_is in
      ap (λ k. has_place (stream_in t.streams slot k).places n.number) (sym (source_is ∙ ap (λ (u : Stream). u.source) stream)) ∙ ap (has_place (stream_in t.streams slot source).places) (sym number_is) ∙ made slot (omega (arith, starts, low)) (omega (arith, ends, high));
}
