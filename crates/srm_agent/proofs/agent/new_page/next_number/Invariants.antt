use Rattle.std.proofs.Common.{◌≡◌, take}
use Rattle.srm_entries.specs.Promises.{next_number}
use Rattle.srm_agent.proofs.agent.new_page.next_number.Given as goal

abbrev pub invariant-loop-page : goal.invariant-loop-page
invariant-loop-page l = record { so_far : l.next ≡ next_number l.creator (take l.page-index l.pages) }
