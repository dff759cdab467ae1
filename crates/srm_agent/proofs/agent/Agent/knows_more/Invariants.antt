use Rattle.std.proofs.Common.{◌≡◌, ℕ, List, drop}
use Rattle.std.specs.Prelude.{nat_lt}
use Rattle.std.specs.List.{list_any}
use Rattle.srm_store.specs.Finals.{row_number}
use Rattle.srm_entries.specs.declared.entry.Entry.{Entry}
use Rattle.srm_entries.specs.Configs.{Config}
use Rattle.srm_entries.specs.Entries.{known}
use Rattle.srm_names.specs.Names.{stream_on}
use Rattle.srm_agent.specs.Fits.{AgentFits}
use Rattle.srm_agent.proofs.agent.Agent.knows_more.Given as goal

-- if more is known of one of all pages, it is known of one of those that are left
abbrev pub invariant-loop-page : goal.invariant-loop-page
invariant-loop-page g l = record {
  left : (c : Config) (made : ℕ) (past : List Entry) → AgentFits c made past l.fn.self
      → list_any (λ page. nat_lt (row_number l.rows (stream_on l.source page)) (known past (stream_on l.source page))) (drop l.page-index l.pages)
      ≡ list_any (λ page. nat_lt (row_number l.rows (stream_on l.source page)) (known past (stream_on l.source page))) l.pages;
}
