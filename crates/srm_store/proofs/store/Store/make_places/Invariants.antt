use Rattle.std.proofs.Common.{◌≡◌, ◌≤◌, take, length}
use Rattle.srm_store.specs.Stores.{IsReadyToSettle, StaysReady}
use Rattle.srm_store.specs.Tables.{HasPlaceFor}
use Rattle.srm_store.specs.Fits.{StoreStays}
use Rattle.srm_names.specs.FullName.{FullName}
use Rattle.srm_names.specs.Names.{among}
use Rattle.std.specs.Prelude.{true}
use Rattle.srm_store.proofs.store.Store.make_places.Given as goal

abbrev pub invariant-loop-name : goal.invariant-loop-name
invariant-loop-name l = record {
  kept : StoreStays l.fn.self l.self;
  before : StoreStays l.self l.fn.self;
  so_far : (n : FullName) → among (take l.name-index l.names) n ≡ true → HasPlaceFor n l.self.table;
  earlier : StaysReady l.fn.self l.self;
  finals : l.fn.self.finals.room ≤ l.self.finals.room;
  pages : l.self.table.pages ≡ l.fn.self.table.pages;
  settling : IsReadyToSettle (length l.names) l.self;
}
