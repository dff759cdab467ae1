-- What was put is a page feed of what is released.
use Rattle.std.proofs.Common.{◌≡◌, Bool, true, false, List, [], ◌∷◌, ◌++◌, sym, ◌∙◌}
use Rattle.std.specs.Prelude.{MatchBool}
use Rattle.std.proofs.lemmas.List.{append-nil}
use Rattle.srm_names.specs.declared.page_msg.PageMsg.{PageMsg}
use Rattle.srm_names.specs.PageFeeds.{drawops_of, drawop_from}
use Rattle.srm_names.specs.Histories.{IsPrefix}
use Rattle.srm_names.proofs.Lists.{front_of_front, filter_map-front}
use Rattle.srm_names.proofs.Feeds.{is_page_feed-front}
use Rattle.srm_pages.specs.Ends.{FeedView}
use Rattle.srm_entries.specs.Giving.{given}
use Rattle.srm_world.specs.Traces.{Journal}
use Rattle.srm_world.specs.Claims.{IsLawfulJournal}
use Rattle.srm_node.specs.Carrying.{CarriesEach, PutsReleasedEach}

-- what was put is what was given, or all of it but a last message that came back
put_is_front : (lost : Bool) (gave put : List PageMsg) → MatchBool lost ((back : PageMsg) × (gave ≡ put ++ back ∷ [])) (gave ≡ put) → IsPrefix put gave
put_is_front true gave put (back, is) = (back ∷ [], sym is)
put_is_front false gave put is = ([], append-nil put ∙ sym is)

pub puts_released : (j : Journal) (feeds : List FeedView) → IsLawfulJournal j → CarriesEach j feeds → PutsReleasedEach j.entries feeds
puts_released j feeds lawful carries = λ slot f at_f.
    let front : IsPrefix f.put (given j.entries slot) = put_is_front f.disconnected (given j.entries slot) f.put (carries slot f at_f) in
    record {
      feed = is_page_feed-front f.put (given j.entries slot) front (lawful.gives.feeds slot);
      prefix = λ source page at_page. front_of_front (drawops_of source f.put) (drawops_of source (given j.entries slot)) _ (filter_map-front (drawop_from source) f.put (given j.entries slot) front) (lawful.gives.prefix slot source page at_page);
    }
