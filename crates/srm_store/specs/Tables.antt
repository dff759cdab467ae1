-- The streams of a table: where each stands, and how calls change what is in it.
use Rattle.std.specs.Prelude.{◌≡◌, ℕ, ◌+◌, ◌*◌, ◌<◌, ◌≤◌, max, true, false, List, [], ◌∷◌, slice_index_or, if◌then◌else◌, Option}
use Rattle.srm_names.specs.declared.limits.TheConstants.{MEMBERS, PAGES}
use Rattle.srm_names.specs.declared.page.Page.{Page}
use Rattle.srm_names.specs.declared.stream.Stream.{Stream}
use Rattle.srm_names.specs.declared.drawop.Drawop.{Drawop}
use Rattle.srm_names.specs.FullName.{FullName}
use Rattle.srm_names.specs.Names.{first_page, same_stream}
use Rattle.srm_store.specs.PageTables.{is_in, slot_of, with_page}
use Rattle.srm_store.specs.Places.{place_at, has_place}
use Rattle.srm_store.specs.StreamPlaces.{StreamContent, blank_stream, SameStreamPlaces, StreamGains}

pub record TableContent : Type 0 where
  pub pages : List Page
  pub streams : List StreamContent

abbrev pub stream_in : List StreamContent → ℕ → ℕ → StreamContent
stream_in streams slot source = slice_index_or streams (slot * MEMBERS + source) blank_stream

abbrev pub places_of_stream : TableContent → Stream → StreamContent
places_of_stream t s = stream_in t.streams (slot_of t.pages s.page) s.source

-- the drawop that the table holds under a name
abbrev pub drawop_in_table : TableContent → FullName → Option Drawop
drawop_in_table t n = place_at (places_of_stream t n.stream).places n.number

-- all that is in the table is the same
pub record SameTable (old new : TableContent) : Type 0 where
  pub pages : new.pages ≡ old.pages
  pub streams : (s : Stream) → s.source < MEMBERS → SameStreamPlaces (places_of_stream old s) (places_of_stream new s)

-- the table holds the drawop, unless one of its name was held, and its page has a slot
pub record TableGains (d : Drawop) (old new : TableContent) : Type 0 where
  pub pages : new.pages ≡ with_page old.pages d.name.stream.page
  pub stream : StreamGains d (places_of_stream old d.name.stream) (places_of_stream new d.name.stream)
  pub others : (s : Stream) → s.source < MEMBERS → same_stream s d.name.stream ≡ false → SameStreamPlaces (places_of_stream old s) (places_of_stream new s)

-- the name is known to exist, and its page has a slot
pub record TableLearns (n : FullName) (old new : TableContent) : Type 0 where
  pub pages : new.pages ≡ with_page old.pages n.stream.page
  pub stream : places_of_stream new n.stream ≡ record (places_of_stream old n.stream) { known = max (places_of_stream old n.stream).known n.number }
  pub others : (s : Stream) → s.source < MEMBERS → same_stream s n.stream ≡ false → SameStreamPlaces (places_of_stream old s) (places_of_stream new s)

-- the first slot that no stream of the page can have
abbrev pub slots_end : List Page → Page → ℕ
slots_end pages p = if is_in pages p then slot_of pages p + 1 else PAGES

-- wherever the stream of the name is, or comes to be, there is a place for its drawop
pub record HasPlaceFor (n : FullName) (t : TableContent) : Type 0 where
  pub each : (slot : ℕ) → slot_of t.pages n.stream.page ≤ slot → slot < slots_end t.pages n.stream.page → has_place (stream_in t.streams slot n.stream.source).places n.number ≡ true

-- places stay
pub record StillHasPlaces (old new : TableContent) : Type 0 where
  pub each : (n : FullName) → HasPlaceFor n old → HasPlaceFor n new

-- a table that holds and knows nothing, with the first page alone
pub record IsNewTable (t : TableContent) : Type 0 where
  pub pages : t.pages ≡ first_page ∷ []
  pub streams : (s : Stream) → s.source < MEMBERS → SameStreamPlaces blank_stream (places_of_stream t s)
