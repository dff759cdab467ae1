-- The pages of one member, each in its slot.
use Rattle.std.specs.Prelude.{◌≡◌, ℕ, ◌+◌, ◌≤◌, nat_lt, true, Bool, not, ◌&&◌, List, [], ◌∷◌, ◌++◌, length, map, vec_capacity, if◌then◌else◌}
use Rattle.std.specs.List.{list_any}
use Rattle.srm_names.specs.declared.limits.TheConstants.{PAGES}
use Rattle.srm_names.specs.declared.page.Page.{Page}
use Rattle.srm_names.specs.FullName.{FullName}
use Rattle.srm_names.specs.Names.{same_page}
use Rattle.srm_store.specs.Held.{page_of_name}
use Rattle.srm_store.specs.declared.page_table.PageTable.TheInside.{Inside}

abbrev pub is_in : List Page → Page → Bool
is_in pages p = list_any (λ q. same_page q p) pages

-- the slot of a page: the one after the last, where it has none
abbrev pub slot_of : List Page → Page → ℕ
slot_of [] p = 0
slot_of (q ∷ pages) p = if same_page q p then 0 else slot_of pages p + 1

-- the table has these pages once a page was named
abbrev pub with_page : List Page → Page → List Page
with_page pages p = if is_in pages p then pages else pages ++ p ∷ []

-- and these once all of some pages were named
abbrev pub with_pages : List Page → List Page → List Page
with_pages pages [] = pages
with_pages pages (p ∷ ps) = with_pages (with_page pages p) ps

-- and these once the pages of names were
abbrev pub with_pages_of : List Page → List FullName → List Page
with_pages_of pages names = with_pages pages (map page_of_name names)

-- with this page there would be more pages than a table has
abbrev pub table_lacks_room : List Page → Page → Bool
table_lacks_room pages p = nat_lt PAGES (length (with_page pages p))

-- and with those of these names
abbrev pub table_lacks_room_for : List Page → List FullName → Bool
table_lacks_room_for pages names = nat_lt PAGES (length (with_pages_of pages names))

-- no page stands twice
abbrev pub each_once : List Page → Bool
each_once [] = true
each_once (p ∷ pages) = not (is_in pages p) && each_once pages

-- at most eight pages, each once
pub record IsPageTable (pages : List Page) : Type 0 where
  pub few : length pages ≤ PAGES
  pub once : each_once pages ≡ true

-- and there is room for eight
pub record IsRoomyPageTable (t : Inside) : Type 0 where
  pub table : IsPageTable t.pages.items
  pub room : PAGES ≤ vec_capacity t.pages
