-- Of one member alone, whatever it heard: what it gives in a slot is a page feed, whose part by source is a prefix of
-- what is released; what was taken is a prefix of that.
use Rattle.std.proofs.Common.{◌≡◌, ℕ, true, List, subst}
use Rattle.std.specs.Prelude.{Some, slice_get}
use Rattle.srm_names.specs.declared.page.Page.{Page}
use Rattle.srm_names.specs.PageFeeds.{is_page_feed, drawops_of}
use Rattle.srm_names.specs.Histories.{IsPrefix}
use Rattle.srm_entries.specs.Configs.{Config}
use Rattle.srm_entries.specs.declared.entry.Entry.{Entry}
use Rattle.srm_entries.specs.Entries.{released, slots}
use Rattle.srm_names.specs.Names.{stream_on}
use Rattle.srm_entries.specs.Giving.{given, taken}
use Rattle.srm_entries.specs.Runs.{IsMemberRun}
use Rattle.srm_entries.specs.Promises.{GivesLaw}
use Rattle.srm_entries.proofs.Feeding.{FeedsRight, FedRight, feeds_right, slot_part}
use Rattle.srm_entries.proofs.Silence.{gone_sends_nothing}

pub record GivenRight (es : List Entry) : Type 0 where
  pub feed : (j : ℕ) → is_page_feed (given es j) ≡ true
  pub part : (j source : ℕ) (page : Page) → slice_get (slots es) j ≡ Some page → IsPrefix (drawops_of source (given es j)) (released es (stream_on source page))
  pub front : (j : ℕ) → IsPrefix (taken es j) (given es j)

pub given_right : (c : Config) (made : ℕ) (es : List Entry) → IsMemberRun c made es → GivenRight es
given_right c made es run = record {
  feed = λ j. (right.feeds j).fed;
  part = λ j source page slot. slot_part es page (given es j) source (subst (λ o. FedRight es o (given es j)) slot (right.feeds j));
  front = right.takes;
}
  where
    right : FeedsRight c es
    right = feeds_right c made es run.each

pub gives_law : GivesLaw
gives_law c made es run = record {
  feeds = (given_right c made es run).feed;
  prefix = (given_right c made es run).part;
  silent = λ before after e split gone. gone_sends_nothing c made before after e (subst (λ w. IsMemberRun c made w) split run) gone;
}
