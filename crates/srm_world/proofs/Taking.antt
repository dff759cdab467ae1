-- In every honest run the takes of each member are of what was drawn.
use Rattle.std.proofs.Common.{◌≡◌, ℕ, ◌+◌, ◌≤◌, true, List, [], length, map, refl, ap, sym, ◌∙◌, subst, inl, inr, arith}
use Rattle.std.specs.Prelude.{◌⊎◌, Some, slice_get}
use Rattle.std.specs.List.{list_any}
use Rattle.std.proofs.lemmas.Bool.{both_ways}
use Rattle.srm_names.specs.declared.page.Page.{Page}
use Rattle.srm_names.specs.declared.drawop.Drawop.{Drawop}
use Rattle.srm_names.specs.FullName.{FullName}
use Rattle.srm_names.specs.Names.{named, stream_on}
use Rattle.srm_names.specs.PageFeeds.{drawops_of, drawop_from, leaves, is_page_feed}
use Rattle.srm_names.proofs.Lists.{Has, front_of_front, front_whole, filter_map-front, list_any-front, until_none-front, find-Has}
use Rattle.srm_names.proofs.Same.{same_name-is}
use Rattle.srm_names.proofs.Feeds.{is_page_feed-front, left_is_last}
use Rattle.srm_entries.specs.declared.entry.Entry.{Entry}
use Rattle.srm_store.specs.Held.{has_name, greatest_in}
use Rattle.srm_entries.specs.Entries.{drawn, drawn_on, held, held_at, released, slots}
use Rattle.srm_store.specs.Finals.{row_number}
use Rattle.srm_entries.specs.Giving.{given, taken}
use Rattle.srm_entries.proofs.Drawing.{drawn_at}
use Rattle.srm_entries.proofs.Feeding.{FeedsRight, FedRight, feeds_right, final_told, slot_part, slot_left}
use Rattle.srm_world.specs.declared.start.Start.{Start}
use Rattle.srm_world.specs.Traces.{of_member, drawn_by, taken_by, IsHonest, IsRunOf}
use Rattle.srm_names.specs.Histories.{IsPrefix}
use Rattle.srm_world.specs.Claims.{TakesAreDrawn, TakesLaw}
use Rattle.srm_world.proofs.Members.{MemberRun, run_or_none}
use Rattle.srm_world.proofs.Honesty.{told_is_true, held_was_drawn}

drawn_place : (starts : List Start) (es : List Entry) → IsRunOf starts es → (source : ℕ) (page : Page) (k : ℕ) (d : Drawop) → d.name ≡ named (stream_on source page) (1 + k)
    → Has d (drawn (of_member d.name.stream.source es)) → slice_get (drawn_by es source page) k ≡ Some d
drawn_place starts es run source page k d name h = which (run_or_none starts es source run)
  where
    own : Has d (drawn (of_member source es))
    own = subst (λ (n : FullName). Has d (drawn (of_member n.stream.source es))) name h

    which : MemberRun source es ⊎ (of_member source es ≡ []) → slice_get (drawn_by es source page) k ≡ Some d
    which (inl r) = subst (λ (n : FullName). slice_get (drawn_on n.stream.page (of_member source es)) k ≡ Some d) name
        (drawn_at r.config r.made (of_member source es) d k r.run.each own (ap (λ (n : FullName). n.number) name ∙ omega arith))
    which (inr none) = absurd (subst (λ w. Has d (drawn w)) none own)

-- what is released of a source is a prefix of what it drew
pub released_was_drawn : (starts : List Start) (es : List Entry) → IsRunOf starts es → IsHonest es → (m source : ℕ) (page : Page) → IsPrefix (released (of_member m es) (stream_on source page)) (drawn_by es source page)
released_was_drawn starts es run honest m source page =
    until_none-front (λ k. held_at (of_member m es) (named (stream_on source page) k)) 1 (greatest_in (map (λ (d : Drawop). d.name) (held (of_member m es))) (stream_on source page)) (drawn_by es source page) (λ k d h. at k d h)
  where
    at : (k : ℕ) (d : Drawop) → held_at (of_member m es) (named (stream_on source page) (1 + k)) ≡ Some d → slice_get (drawn_by es source page) k ≡ Some d
    at k d h =
        let found = find-Has (has_name (named (stream_on source page) (1 + k))) (held (of_member m es)) d h in
        drawn_place starts es run source page k d (same_name-is d.name (named (stream_on source page) (1 + k)) found.1) (held_was_drawn starts es run honest m d found.0)

-- what holds in a slot of a member that has a run
slot_takes : (starts : List Start) (es : List Entry) → IsRunOf starts es → IsHonest es → (m j source : ℕ) (page : Page) → FedRight (of_member m es) (Some page) (given (of_member m es) j)
    → IsPrefix (taken (of_member m es) j) (given (of_member m es) j) → IsPrefix (drawops_of source (taken_by es m j)) (drawn_by es source page)
slot_takes starts es run honest m j source page feeds takes =
    let given_part : List Drawop = drawops_of source (given (of_member m es) j) in
    front_of_front (drawops_of source (taken_by es m j)) given_part (drawn_by es source page)
    (filter_map-front (drawop_from source) (taken_by es m j) (given (of_member m es) j) takes)
    (front_of_front given_part (released (of_member m es) (stream_on source page)) (drawn_by es source page)
    (slot_part (of_member m es) page (given (of_member m es) j) source feeds) (released_was_drawn starts es run honest m source page))

slot_whole : (starts : List Start) (es : List Entry) → IsRunOf starts es → IsHonest es → (m j source : ℕ) (page : Page) → FedRight (of_member m es) (Some page) (given (of_member m es) j)
    → IsPrefix (taken (of_member m es) j) (given (of_member m es) j) → list_any (leaves source) (taken_by es m j) ≡ true → drawops_of source (taken_by es m j) ≡ drawn_by es source page
slot_whole starts es run honest m j source page feeds takes left =
    let given_left = list_any-front (leaves source) (taken_by es m j) (given (of_member m es) j) takes left in
    let all_given : length (drawops_of source (taken_by es m j)) ≡ length (drawops_of source (given (of_member m es) j)) =
    ap length (left_is_last source (taken_by es m j) (given (of_member m es) j) takes feeds.fed left) in
    let (rows, t, r) = final_told (of_member m es) (stream_on source page) (length (drawops_of source (given (of_member m es) j)))
    (slot_left (of_member m es) page (given (of_member m es) j) source feeds given_left) in
    let l : length (drawn_by es source page) ≤ row_number rows (stream_on source page) = told_is_true starts es run honest m source rows t page in
    front_whole (drawops_of source (taken_by es m j)) (drawn_by es source page) (slot_takes starts es run honest m j source page feeds takes) (omega arith)

member_feeds : (es : List Entry) (m : ℕ) (r : MemberRun m es) → FeedsRight r.config (of_member m es)
member_feeds es m r = feeds_right r.config r.made (of_member m es) r.run.each

takes_are_drawn : (starts : List Start) (es : List Entry) → IsRunOf starts es → IsHonest es → TakesAreDrawn es
takes_are_drawn starts es run honest = record {
  prefix = λ m j source page slot. prefix m j source page slot (run_or_none starts es m run);
  whole = λ m j source page slot left. whole m j source page slot left (run_or_none starts es m run);
  feeds = λ m j. feeds m j (run_or_none starts es m run);
}
  where
    slot_of : (m j : ℕ) (page : Page) → slice_get (slots (of_member m es)) j ≡ Some page → (r : MemberRun m es) → FedRight (of_member m es) (Some page) (given (of_member m es) j)
    slot_of m j page slot r = subst (λ o. FedRight (of_member m es) o (given (of_member m es) j)) slot ((member_feeds es m r).feeds j)

    prefix : (m j source : ℕ) (page : Page) → slice_get (slots (of_member m es)) j ≡ Some page → MemberRun m es ⊎ (of_member m es ≡ []) → IsPrefix (drawops_of source (taken_by es m j)) (drawn_by es source page)
    prefix m j source page slot (inl r) = slot_takes starts es run honest m j source page (slot_of m j page slot r) ((member_feeds es m r).takes j)
    prefix m j source page slot (inr none) = subst (λ w. IsPrefix (drawops_of source (taken w j)) (drawn_by es source page)) (sym none) (drawn_by es source page, refl)

    whole : (m j source : ℕ) (page : Page) → slice_get (slots (of_member m es)) j ≡ Some page → list_any (leaves source) (taken_by es m j) ≡ true → MemberRun m es ⊎ (of_member m es ≡ [])
        → drawops_of source (taken_by es m j) ≡ drawn_by es source page
    whole m j source page slot left (inl r) = slot_whole starts es run honest m j source page (slot_of m j page slot r) ((member_feeds es m r).takes j) left
    whole m j source page slot left (inr none) = absurd (both_ways (list_any (leaves source) (taken_by es m j)) (ap (λ w. list_any (leaves source) (taken w j)) none) left)

    feeds : (m j : ℕ) → MemberRun m es ⊎ (of_member m es ≡ []) → is_page_feed (taken_by es m j) ≡ true
    feeds m j (inl r) = let f = member_feeds es m r in is_page_feed-front (taken_by es m j) (given (of_member m es) j) (f.takes j) (f.feeds j).fed
    feeds m j (inr none) = ap (λ w. is_page_feed (taken w j)) none

pub takes_law : TakesLaw
takes_law t run honest = takes_are_drawn t.starts t.entries run honest
