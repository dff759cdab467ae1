-- What a page worker may be given, one message after another.
use Rattle.std.specs.Prelude.{ℕ, ◌+◌, ◌==◌, Bool, true, false, not, ◌&&◌, List, length, Option, Some, None, is_some, if◌then◌else◌}
use Rattle.std.specs.List.{list_any, list_all, filter_map}
use Rattle.srm_names.specs.declared.page.Page.{Page}
use Rattle.srm_names.specs.declared.drawop.Drawop.{Drawop}
use Rattle.srm_names.specs.declared.page_msg.PageMsg.{PageMsg}
use Rattle.srm_names.specs.declared.page_msg.PageMsg.TheVariants.{Open, Draw, Left, Close}
use Rattle.srm_names.specs.Histories.{Step, steps, first_of}
use Rattle.srm_names.specs.Names.{same_page}

abbrev pub page_opened : PageMsg → Option Page
page_opened (Open page) = Some page
page_opened _ = None

abbrev pub is_close : PageMsg → Bool
is_close Close = true
is_close _ = false

abbrev pub leaves : ℕ → PageMsg → Bool
leaves source (Left member) = source == member
leaves source _ = false

abbrev pub drawop_from : ℕ → PageMsg → Option Drawop
drawop_from source (Draw drawop) = if source == drawop.name.stream.source then Some drawop else None
drawop_from source _ = None

-- the drawops of a source among the messages
abbrev pub drawops_of : ℕ → List PageMsg → List Drawop
drawops_of source messages = filter_map (drawop_from source) messages

abbrev pub opened : List PageMsg → Option Page
opened messages = first_of page_opened messages

abbrev pub is_open_at : Option Page → Page → Bool
is_open_at None page = false
is_open_at (Some opened) page = same_page opened page

-- After these messages, this one may come: the page is opened first and once; the drawops of a source are of that page
-- and have the numbers 1, 2, ..; no drawop of a source comes after it left; nothing comes after the close.
abbrev pub continues : List PageMsg → PageMsg → Bool
continues before (Open page) = length before == 0
continues before (Draw drawop) =
    is_open_at (opened before) drawop.name.stream.page && not (list_any is_close before)
    && not (list_any (leaves drawop.name.stream.source) before)
    && (drawop.name.number == length (drawops_of drawop.name.stream.source before) + 1)
continues before (Left member) =
    is_some (opened before) && not (list_any is_close before) && not (list_any (leaves member) before)
continues before Close = not (list_any is_close before)

abbrev pub is_page_feed : List PageMsg → Bool
is_page_feed messages = list_all (λ (s : Step PageMsg). continues s.before s.this) (steps messages)
