-- A store fits the drawops that were inserted, the names that there was evidence of, and the members that were settled:
-- all that it holds and knows is what the definitions say of them.
use Rattle.std.specs.Prelude.{◌≡◌, ℕ, ◌<◌, true, List}
use Rattle.srm_names.specs.declared.limits.TheConstants.{MEMBERS}
use Rattle.srm_names.specs.declared.page.Page.{Page}
use Rattle.srm_names.specs.declared.stream.Stream.{Stream}
use Rattle.srm_names.specs.declared.drawop.Drawop.{Drawop}
use Rattle.srm_names.specs.FullName.{FullName}
use Rattle.srm_store.specs.Held.{held_at, known, pages_named}
use Rattle.srm_store.specs.Finals.{Settling, rows_of, rows_kept}
use Rattle.srm_store.specs.PageTables.{is_in, each_once}
use Rattle.srm_store.specs.Tables.{places_of_stream, drawop_in_table}
use Rattle.srm_store.specs.Stores.{StoreContent}

pub record StoreFits (inserted : List Drawop) (evidence : List FullName) (settled : List Settling) (s : StoreContent) : Type 0 where
  pub pages : (p : Page) → is_in s.table.pages p ≡ is_in (pages_named inserted evidence) p
  pub once : each_once s.table.pages ≡ true
  pub held : (n : FullName) → n.stream.source < MEMBERS → drawop_in_table s.table n ≡ held_at inserted n
  pub known : (stream : Stream) → stream.source < MEMBERS → (places_of_stream s.table stream).known ≡ known evidence stream
  pub rows : (m : ℕ) → rows_kept s.finals m ≡ rows_of settled m

-- what fits goes on to fit the same
pub record StoreStays (old new : StoreContent) : Type 0 where
  pub each : (inserted : List Drawop) (evidence : List FullName) (settled : List Settling) → StoreFits inserted evidence settled old → StoreFits inserted evidence settled new
