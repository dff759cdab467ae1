-- The page slots of a run are the agent's page table: the pages that an entry names are added to both.
use Rattle.std.proofs.Common.{◌≡◌, Bool, true, false, not, List, [], ◌∷◌, ◌++◌, length, refl, ap, ◌∙◌}
use Rattle.std.specs.Prelude.{nat_lt}
use Rattle.std.specs.List.{flat_map}
use Rattle.srm_names.specs.declared.limits.TheConstants.{PAGES}
use Rattle.srm_names.specs.declared.page.Page.{Page}
use Rattle.srm_names.specs.Histories.{firsts}
use Rattle.srm_names.specs.Names.{first_page, same_page}
use Rattle.srm_names.proofs.Snoc.{flat_map-snoc}
use Rattle.srm_store.specs.PageTables.{with_page, with_pages}
use Rattle.srm_store.proofs.Pages.{each_once-firsts, firsts_each_once, firsts_all}
use Rattle.srm_entries.specs.declared.entry.Entry.{Entry}
use Rattle.srm_entries.specs.Entries.{done, slots, pages_in}
use Rattle.srm_entries.specs.Verdicts.{lacks_slots_for}

-- the pages that one more entry names
pub slots-all : (past : List Entry) (e : Entry) → slots (past ++ e ∷ []) ≡ with_pages (slots past) (pages_in (done e))
slots-all past e =
    ap (λ ps. firsts same_page (first_page ∷ ps)) (flat_map-snoc (λ (x : Entry). pages_in (done x)) past e)
    ∙ firsts_all (first_page ∷ flat_map (λ (x : Entry). pages_in (done x)) past) (pages_in (done e))

pub slots-one : (past : List Entry) (e : Entry) (page : Page) → pages_in (done e) ≡ page ∷ [] → slots (past ++ e ∷ []) ≡ with_page (slots past) page
slots-one past e page one = slots-all past e ∙ ap (with_pages (slots past)) one

-- the slots lack room where the table does
pub slots_lack : (past : List Entry) (ps : List Page) → lacks_slots_for past ps ≡ nat_lt PAGES (length (with_pages (slots past) ps))
slots_lack past ps = ap (λ qs. nat_lt PAGES (length qs)) (firsts_all (slots past) ps ∙ ap (λ qs. with_pages qs ps) (firsts_each_once (slots past) (each_once-firsts (first_page ∷ flat_map (λ (x : Entry). pages_in (done x)) past))))

-- what `has_room` answers
pub is_full : (room lacks : Bool) → room ≡ not lacks → room ≡ false → lacks ≡ true
is_full room true e f = refl
is_full room false e f = absurd (cc)

pub is_roomy : (room lacks : Bool) → room ≡ not lacks → room ≡ true → lacks ≡ false
is_roomy room false e f = refl
is_roomy room true e f = absurd (cc)
