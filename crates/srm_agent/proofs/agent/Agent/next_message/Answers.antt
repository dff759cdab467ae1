use Rattle.std.proofs.Common.{sym, ◌∙◌, subst, ap}
use Rattle.std.specs.Prelude.{slice_get}
use Rattle.srm_entries.specs.Entries.{is_gone}
use Rattle.srm_entries.specs.Giving.{given, GiveRight}
use Rattle.srm_agent.specs.Nexts.{IsNextOn}
use Rattle.srm_agent.proofs.Nexting.{progress_at, gives_next, closes_with_page}
use Rattle.srm_agent.proofs.agent.Agent.next_message.Goals as goal

pub returns-in-Some-2 : goal.returns-in-Some-2
returns-in-Some-2 g c = λ s made past h.
    let fits = rw (← c.self.view_is) at h in
    let progress = progress_at past _ c.args.slot c.from.result c.index-progress.result.now fits.progress c.self.invariant.progress c.requires c.from.ensures c.index-progress.ensures in
    gives_next s past c.args.slot c.in-Some.page c.index-progress.result.now c.in-Some-2.message progress (ap (λ ps. slice_get ps c.args.slot) (sym fits.pages) ∙ sym c.get.ensures ∙ c.in-Some.is)
    (sym c.is_opened.ensures ∙ c.if-not-is_opened.false) (sym c.is_closed.ensures ∙ c.if-is_closed.false)
    (subst (λ o. IsNextOn s past c.in-Some.page (given past c.args.slot) o) c.in-Some-2.is (c.in_ok-message.ensures s made past (given past c.args.slot) h progress))

pub returns : goal.returns
returns g c = λ s made past h.
    let fits = rw (← c.self.view_is) at h in
    let progress = progress_at past _ c.args.slot c.from.result c.index-progress.result.now fits.progress c.self.invariant.progress c.requires c.from.ensures c.index-progress.ensures in
    subst (λ m. GiveRight s past c.args.slot m) (sym c.close_if_gone-2.ensures)
    (closes_with_page s past c.args.slot c.in-Some.page c.index-progress.result.now _ progress (ap (λ ps. slice_get ps c.args.slot) (sym fits.pages) ∙ sym c.get.ensures ∙ c.in-Some.is)
    (sym c.is_opened.ensures ∙ c.if-not-is_opened.false) (sym c.is_closed.ensures ∙ c.if-is_closed.false)
    (subst (λ o. IsNextOn s past c.in-Some.page (given past c.args.slot) o) c.in_default-2.is (c.in_ok-message.ensures s made past (given past c.args.slot) h progress)) (ap is_gone h.state))
