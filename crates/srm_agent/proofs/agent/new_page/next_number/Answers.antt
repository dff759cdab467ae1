use Rattle.std.proofs.Common.{ap, sym, ◌∙◌, max, take, get_or, ◌+◌, ◌==◌}
use Rattle.std.specs.Prelude.{if◌then◌else◌}
use Rattle.std.proofs.lemmas.List.{take_more}
use Rattle.srm_names.specs.declared.page.Page.{Page}
use Rattle.srm_entries.specs.Promises.{next_number}
use Rattle.srm_entries.proofs.Naming.{next_number-snoc}
use Rattle.srm_agent.proofs.agent.new_page.next_number.Goals as goal

pub loop-page-preserved : goal.loop-page-preserved
loop-page-preserved c = record {
  so_far = c.greatest_after-next.ensures ∙ ap (λ n. max n (if c.page-item.result.creator == c.args.creator.now then c.page-item.result.number + 1 else 0)) c.loop-page.invariant.so_far
      ∙ ap (λ (p : Page). max (next_number c.args.creator.now (take c.loop-page.page-index c.args.pages.now)) (if p.creator == c.args.creator.now then p.number + 1 else 0)) c.page-item.is
      ∙ sym (next_number-snoc c.args.creator.now (take c.loop-page.page-index c.args.pages.now) (get_or c.args.pages.now c.loop-page.page-index c.page-item.result))
      ∙ ap (next_number c.args.creator.now) (sym (take_more c.args.pages.now c.loop-page.page-index c.page-item.result c.loop-page-test.true));
}
