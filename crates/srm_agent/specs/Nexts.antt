-- What may be given next on a page that was opened, after these messages.
use Rattle.std.specs.Prelude.{◌≡◌, ℕ, ◌<◌, true, false, List, Option, Some, None}
use Rattle.srm_names.specs.declared.page.Page.{Page}
use Rattle.srm_names.specs.declared.page_msg.PageMsg.{PageMsg}
use Rattle.srm_names.specs.declared.page_msg.PageMsg.TheVariants.{Open, Draw, Left, Close}
use Rattle.srm_entries.specs.declared.entry.Entry.{Entry}
use Rattle.srm_entries.specs.Configs.{Config}
use Rattle.srm_entries.specs.Giving.{next_drawop, may_leave, has_more}

-- a message of a source, and None if it has none
abbrev pub IsNextOf : List Entry → Page → List PageMsg → ℕ → Option PageMsg → Type 0
IsNextOf es page given source None = has_more es given (Some page) source ≡ false
IsNextOf es page given source (Some (Draw d)) = (d.name.stream.source ≡ source) × (next_drawop es page given d.name.stream.source ≡ Some d)
IsNextOf es page given source (Some (Left s)) = (s ≡ source) × (may_leave es page given s ≡ true)
IsNextOf es page given source (Some (Open p)) = ⊥
IsNextOf es page given source (Some Close) = ⊥

-- no source below this one has a message
abbrev pub IsSmallest : List Entry → Page → List PageMsg → ℕ → Type 0
IsSmallest es page given source = (k : ℕ) → k < source → has_more es given (Some page) k ≡ false

-- a message of the smallest source that has one, and None if no member has one
abbrev pub IsNextOn : Config → List Entry → Page → List PageMsg → Option PageMsg → Type 0
IsNextOn c es page given None = (source : ℕ) → source < c.members → has_more es given (Some page) source ≡ false
IsNextOn c es page given (Some message) = (source : ℕ) × IsNextOf es page given source (Some message) × IsSmallest es page given source
