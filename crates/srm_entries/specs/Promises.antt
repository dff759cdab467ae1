-- What calls answer besides their entry: the next page and the next moment; and what a member gives.
use Rattle.std.specs.Prelude.{◌≡◌, ℕ, ◌+◌, ◌^◌, ◌≤◌, ◌<◌, ◌==◌, nat_le, true, false, ◌||◌, List, [], ◌∷◌, ◌++◌, length, map, filter, slice_get, Option, Some, None, if◌then◌else◌}
use Rattle.srm_names.specs.declared.limits.TheConstants.{PAGES, PAGE_NUMBERS}
use Rattle.srm_names.specs.declared.page.Page.{Page}
use Rattle.srm_names.specs.Histories.{IsPrefix, greatest}
use Rattle.srm_names.specs.PageFeeds.{drawops_of, is_page_feed}
use Rattle.srm_entries.specs.Configs.{Config}
use Rattle.srm_entries.specs.declared.entry.Entry.{Entry}
use Rattle.srm_entries.specs.declared.entry.Input.TheVariants.{Ticked}
use Rattle.srm_entries.specs.Entries.{state, is_gone, slots, last_moment, released}
use Rattle.srm_names.specs.Names.{stream_on}
use Rattle.srm_entries.specs.Giving.{given}
use Rattle.srm_entries.specs.Runs.{IsMemberRun}

-- one more than the greatest number that a page of this creator has in the table, and 0 where there is none
abbrev pub next_number : ℕ → List Page → ℕ
next_number me pages = greatest (map (λ (p : Page). p.number + 1) (filter (λ (p : Page). p.creator == me) pages))

-- the next page of this member's own, while the table has room and a number of 16 bits is left
abbrev pub page_to_come : Config → List Entry → Option Page
page_to_come c es =
    if nat_le PAGES (length (slots es)) || nat_le PAGE_NUMBERS (next_number c.me (slots es)) then None
    else Some (record { creator = c.me; number = next_number c.me (slots es) })

-- an entry requests, repairs and sends nothing
pub record DoesNothing (e : Entry) : Type 0 where
  pub asks : e.effects.asks ≡ []
  pub fixes : e.effects.fixes ≡ []
  pub outs : e.effects.outs ≡ []

-- a tick at this moment may do nothing
abbrev pub MayDoNothing : Config → ℕ → List Entry → ℕ → Type 0
MayDoNothing c made es now = (e : Entry) × (e.input ≡ Ticked) × (e.moment ≡ now) × DoesNothing e × IsMemberRun c made (es ++ e ∷ [])

-- whatever tick may come at this moment does nothing
abbrev pub NothingIsDue : Config → ℕ → List Entry → ℕ → Type 0
NothingIsDue c made es now = (e : Entry) → e.input ≡ Ticked → e.moment ≡ now → IsMemberRun c made (es ++ e ∷ []) → DoesNothing e

-- The least moment, not below the last one, when a tick would request, repair or send something: before it a tick may come, and does nothing; at it none that may
-- come does nothing. There is none where the member is gone, and then no tick does anything.
abbrev pub IsNextDue : Config → ℕ → List Entry → Option ℕ → Type 0
IsNextDue c made es None = (is_gone (state es) ≡ true) × ((u : ℕ) → NothingIsDue c made es u)
IsNextDue c made es (Some t) = (is_gone (state es) ≡ false) × (last_moment made es ≤ t)
    × ((u : ℕ) → last_moment made es ≤ u → u < t → MayDoNothing c made es u × NothingIsDue c made es u) × (MayDoNothing c made es t → ⊥)

-- With no premise on other members: what was given in a slot is a page feed, by source a prefix of what is released;
-- a gone member sends nothing.
pub record GivesReleased (es : List Entry) : Type 0 where
  pub feeds : (j : ℕ) → is_page_feed (given es j) ≡ true
  pub prefix : (j source : ℕ) (page : Page) → slice_get (slots es) j ≡ Some page
      → IsPrefix (drawops_of source (given es j)) (released es (stream_on source page))
  pub silent : (before after : List Entry) (e : Entry) → es ≡ before ++ e ∷ after → is_gone (state before) ≡ true → e.effects.outs ≡ []

abbrev pub GivesLaw : Type 0
GivesLaw = (c : Config) (made : ℕ) (es : List Entry) → IsMemberRun c made es → GivesReleased es
