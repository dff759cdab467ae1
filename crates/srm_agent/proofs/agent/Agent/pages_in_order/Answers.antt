use Rattle.std.proofs.Common.{◌≡◌, ap, ◌∙◌, subst}
use Rattle.std.specs.List.Sorted.{IsPermutation}
use Rattle.srm_agent.specs.Contents.{AgentContent}
use Rattle.srm_agent.specs.SessionMessages.{AreInOrder}
use Rattle.srm_agent.proofs.Sorting.{sorted_pages}
use Rattle.srm_agent.proofs.agent.Agent.pages_in_order.Goals as goal

pub returns : goal.returns
returns g c =
    let copied : c.in_ok-pages.pages.items ≡ c.as_slice.result.now = c.in_ok-pages.ensures.items in
    subst (λ pages. AreInOrder pages c.sort_unstable.new.self.items) (c.as_slice.ensures.value ∙ ap (λ (a : AgentContent _). a.pages) c.self.view_is)
    (sorted_pages c.as_slice.result.now c.sort_unstable.new.self.items c.as_slice.ensures.table
    (subst (λ pages. IsPermutation pages c.sort_unstable.new.self.items) copied c.sort_unstable.ensures.permutation) c.sort_unstable.ensures.sorted)
