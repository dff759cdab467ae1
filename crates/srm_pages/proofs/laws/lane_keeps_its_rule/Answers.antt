use Rattle.std.proofs.Common.{true, ◌≡◌, List, ◌++◌, sym, ap, ◌∙◌, subst}
use Rattle.srm_names.specs.declared.page_msg.PageMsg.{PageMsg}
use Rattle.srm_names.specs.PageFeeds.{is_page_feed}
use Rattle.srm_pages.proofs.laws.lane_keeps_its_rule.Goals as goal

pub returns : goal.returns
returns c = λ items views h i j f t at puts at' takes.
    let put = ((h.6 i f at).0 puts).1 in
    let taken = ((h.6 j t at').1 takes).1 in
    (put ∙ h.4 ∙ ap (λ l. l ++ items) (sym taken), subst (λ (l : List PageMsg). is_page_feed l ≡ true) (sym put) h.5)
