-- What a store has, and which calls it needs no memory for.
use Rattle.std.specs.Prelude.{◌≡◌, ℕ, ◌-◌, ◌<◌, ◌≤◌, nat_le, true, ◌||◌, List, length, map}
use Rattle.srm_names.specs.declared.limits.TheConstants.{MEMBERS, PAGES}
use Rattle.srm_names.specs.declared.page.Page.{Page}
use Rattle.srm_names.specs.FullName.{FullName}
use Rattle.srm_names.specs.Names.{among}
use Rattle.srm_store.specs.Held.{page_of_name}
use Rattle.srm_store.specs.Rooms.{RoomContent, has_room}
use Rattle.srm_store.specs.Finals.{FinalsContent}
use Rattle.srm_store.specs.PageTables.{is_in, with_pages}
use Rattle.srm_store.specs.Tables.{TableContent, places_of_stream, HasPlaceFor}

pub record StoreContent : Type 0 where
  pub table : TableContent
  pub rooms : List RoomContent
  pub finals : FinalsContent

-- one insert and one evidence of the name need no memory
pub record IsReady (n : FullName) (s : StoreContent) : Type 0 where
  pub source : n.stream.source < MEMBERS
  pub place : HasPlaceFor n s.table
  pub answer : nat_le n.number (places_of_stream s.table n.stream).known || has_room s.rooms n (n.number - (places_of_stream s.table n.stream).known) ≡ true

-- the table has slots for all of these pages: with them it has no more pages than it may
pub record HasSlots (pages : List Page) (s : StoreContent) : Type 0 where
  pub few : length (with_pages s.table.pages pages) ≤ PAGES

-- where all of some pages with this one had slots, they still have
pub record KeepsSlots (page : Page) (old new : StoreContent) : Type 0 where
  pub each : (pages : List Page) → is_in pages page ≡ true → HasSlots pages old → HasSlots pages new

-- one settling with so many rows needs no memory
abbrev pub IsReadyToSettle : ℕ → StoreContent → Type 0
IsReadyToSettle count s = count ≤ s.finals.room

-- one insert and one evidence of each of the names, and one settling with all of them, aren't refused: there are slots for all
-- of their pages, and no memory is needed
pub record AreReady (names : List FullName) (s : StoreContent) : Type 0 where
  pub slots : HasSlots (map page_of_name names) s
  pub each : (n : FullName) → among names n ≡ true → IsReady n s
  pub settling : IsReadyToSettle (length names) s

-- One insert and one learn of each of the names, and one settling with all of them, aren't refused: there are slots for all of
-- their pages, and no memory is needed.
pub record HavePlaces (names : List FullName) (s : StoreContent) : Type 0 where
  pub slots : HasSlots (map page_of_name names) s
  pub each : (n : FullName) → among names n ≡ true → HasPlaceFor n s.table
  pub settling : IsReadyToSettle (length names) s

-- what needed no memory needs none
pub record StaysReady (old new : StoreContent) : Type 0 where
  pub each : (n : FullName) → IsReady n old → IsReady n new

-- Of the room that was made nothing is given up: whatever needed no memory, and found slots, still does.
pub record KeepsRoom (old new : StoreContent) : Type 0 where
  pub each : (n : FullName) → IsReady n old → IsReady n new
  pub slots : (pages : List Page) → HasSlots pages old → HasSlots pages new
  pub settling : (count : ℕ) → IsReadyToSettle count old → IsReadyToSettle count new
