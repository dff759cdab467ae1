-- The order in which pages are shown.
use Rattle.std.specs.Prelude.{ℕ, List, [], ◌∷◌, ◌++◌, length, remove, position, slice_get, Option, Some, None, nat_lt, if◌then◌else◌}
use Rattle.srm_names.specs.declared.limits.TheConstants.{PAGES}
use Rattle.srm_names.specs.declared.page.Page.{Page}
use Rattle.srm_names.specs.Names.{same_page}

-- the page to show
abbrev pub first_of : List Page → Option Page
first_of pages = slice_get pages 0

-- the place of a page
abbrev pub place_of : Page → List Page → Option ℕ
place_of page pages = position (same_page page) pages

-- with one more behind all others, while there is room
abbrev pub with_last : Page → List Page → List Page
with_last page pages = if nat_lt (length pages) PAGES then pages ++ page ∷ [] else pages

-- with one more in front of all others, while there is room
abbrev pub with_first : Page → List Page → List Page
with_first page pages = if nat_lt (length pages) PAGES then page ∷ pages else pages

-- a page that is there stays where it is
abbrev pub added_at : Option ℕ → Page → List Page → List Page
added_at None page pages = with_last page pages
added_at (Some place) page pages = pages

abbrev pub added : Page → List Page → List Page
added page pages = added_at (place_of page pages) page pages

-- a page that is there goes from its place to the front
abbrev pub front_at : Option ℕ → Page → List Page → List Page
front_at None page pages = with_first page pages
front_at (Some place) page pages = with_first page (remove pages place)

abbrev pub in_front : Page → List Page → List Page
in_front page pages = front_at (place_of page pages) page pages

-- a page that is there goes from its place behind all others
abbrev pub behind_at : Option ℕ → Page → List Page → List Page
behind_at None page pages = pages
behind_at (Some place) page pages = with_last page (remove pages place)

abbrev pub behind : Page → List Page → List Page
behind page pages = behind_at (place_of page pages) page pages
