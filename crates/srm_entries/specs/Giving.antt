-- What a member gives to its page workers, and what they took.
use Rattle.std.specs.Prelude.{◌≡◌, ℕ, ◌==◌, Bool, true, false, not, ◌&&◌, ◌||◌, List, [], length, slice_get, if◌then◌else◌, Option, Some, None, is_some}
use Rattle.std.specs.List.{filter_map, list_any}
use Rattle.srm_names.specs.declared.page.Page.{Page}
use Rattle.srm_names.specs.declared.drawop.Drawop.{Drawop}
use Rattle.srm_names.specs.declared.page_msg.PageMsg.{PageMsg}
use Rattle.srm_names.specs.declared.page_msg.PageMsg.TheVariants.{Open, Draw, Left, Close}
use Rattle.srm_names.specs.Histories.{count_up}
use Rattle.srm_names.specs.PageFeeds.{drawops_of, leaves, is_close, opened}
use Rattle.srm_entries.specs.Configs.{Config}
use Rattle.srm_entries.specs.declared.entry.Entry.{Entry}
use Rattle.srm_entries.specs.declared.entry.Input.{Input}
use Rattle.srm_entries.specs.declared.entry.Input.TheVariants.{Gave, Took}
use Rattle.srm_entries.specs.Entries.{state, is_gone, slots, released}
use Rattle.srm_names.specs.Names.{stream_on}
use Rattle.srm_entries.specs.Verdicts.{final}

abbrev pub given_in : ℕ → Input → Option PageMsg → Option PageMsg
given_in j (Gave slot) message = if j == slot then message else None
given_in j _ message = None

abbrev pub taken_in : ℕ → Input → Option PageMsg → Option PageMsg
taken_in j (Took slot) message = if j == slot then message else None
taken_in j _ message = None

-- what was given and taken in a slot
abbrev pub given : List Entry → ℕ → List PageMsg
given es j = filter_map (λ e. given_in j e.input e.effects.message) es

abbrev pub taken : List Entry → ℕ → List PageMsg
taken es j = filter_map (λ e. taken_in j e.input e.effects.message) es

-- the next drawop of a source, after these messages
abbrev pub next_drawop : List Entry → Page → List PageMsg → ℕ → Option Drawop
next_drawop es page before source = slice_get (released es (stream_on source page)) (length (drawops_of source before))

abbrev pub is_some_of : ℕ → Option ℕ → Bool
is_some_of n None = false
is_some_of n (Some m) = n == m

-- the source left, and its drawops up to the last one were given
abbrev pub may_leave : List Entry → Page → List PageMsg → ℕ → Bool
may_leave es page before source =
    is_some_of (length (drawops_of source before)) (final es (stream_on source page)) && not (list_any (leaves source) before)

-- after these messages the source has something more to be given on the page
abbrev pub has_more : List Entry → List PageMsg → Option Page → ℕ → Bool
has_more es before None source = false
has_more es before (Some page) source = is_some (next_drawop es page before source) || may_leave es page before source

-- no source below this one has something more
abbrev pub is_smallest : List Entry → List PageMsg → Page → ℕ → Bool
is_smallest es before page source = not (list_any (has_more es before (Some page)) (count_up 0 source))

-- nothing but the close may be given
abbrev pub is_quiet : Config → List Entry → List PageMsg → Option Page → Bool
is_quiet c es before None = true
is_quiet c es before (Some page) = is_some (opened before) && not (list_any (has_more es before (Some page)) (count_up 0 c.members))

-- After these messages of a slot, whose page is this one if it has one, a Give may answer so. Of several sources the smallest
-- goes first.
abbrev pub GivesAfter : Config → List Entry → List PageMsg → Option Page → Option PageMsg → Type 0
GivesAfter c es before page None = (is_gone (state es) ≡ true → list_any is_close before ≡ true) × ((list_any is_close before || is_quiet c es before page) ≡ true)
GivesAfter c es before page (Some Close) = (list_any is_close before ≡ false) × (is_gone (state es) ≡ true) × (is_quiet c es before page ≡ true)
GivesAfter c es before None (Some _) = ⊥
GivesAfter c es before (Some page) (Some (Open p)) = (p ≡ page) × (before ≡ [])
GivesAfter c es before (Some page) (Some (Draw d)) = (is_some (opened before) ≡ true) × (list_any is_close before ≡ false) × (next_drawop es page before d.name.stream.source ≡ Some d)
    × (is_smallest es before page d.name.stream.source ≡ true)
GivesAfter c es before (Some page) (Some (Left s)) = (is_some (opened before) ≡ true) × (list_any is_close before ≡ false) × (may_leave es page before s ≡ true)
    × (is_smallest es before page s ≡ true)

abbrev pub GiveRight : Config → List Entry → ℕ → Option PageMsg → Type 0
GiveRight c es j message = GivesAfter c es (given es j) (slice_get (slots es) j) message

-- a Take gives the next message that was given and not yet taken
abbrev pub next_taken : List Entry → ℕ → Option PageMsg
next_taken es j = slice_get (given es j) (length (taken es j))

abbrev pub MessageRight : Config → List Entry → Input → Option PageMsg → Type 0
MessageRight c es (Gave j) message = GiveRight c es j message
MessageRight c es (Took j) message = message ≡ next_taken es j
MessageRight c es _ message = message ≡ None
