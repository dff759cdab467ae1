use Rattle.std.proofs.Common.{◌≡◌, true, [], ◌∷◌, ◌++◌, sym, subst}
use Rattle.srm_names.specs.PageFeeds.{is_page_feed}
use Rattle.srm_pages.proofs.LaneSteps.{puts}
use Rattle.srm_pages.proofs.feed.Feed.put.Goals as goal

pub send_as-requires-clause-rule : goal.send_as-requires-clause-rule
send_as-requires-clause-rule g c =
    let feed = subst (λ f. is_page_feed (f.put ++ c.args.msg ∷ []) ≡ true) (sym c.self.view_is) c.requires.feed in
    (puts _ _ _ _ c.self.invariant.1 feed, λ _ _ _ _. tt)
