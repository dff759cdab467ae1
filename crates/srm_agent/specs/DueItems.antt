-- The requests and repairs that a tick adds to the bucket.
use Rattle.std.specs.Prelude.{◌≡◌, ℕ, List, ◌++◌}
use Rattle.std.specs.List.{filter_map}
use Rattle.srm_names.specs.FullName.{FullName}
use Rattle.srm_codec.specs.declared.datagram.Datagram.{Datagram}
use Rattle.srm_outbox.specs.declared.due_items.DueItem.{DueItem}
use Rattle.srm_entries.specs.declared.entry.Entry.{Entry}
use Rattle.srm_entries.specs.Configs.{Config}
use Rattle.srm_entries.specs.Packing.{packed}
use Rattle.srm_entries.specs.Bucket.{repair_for}
use Rattle.srm_agent.specs.Contents.{AgentContent}
use Rattle.srm_agent.specs.Fits.{AgentFits}
use Rattle.srm_outbox.specs.DueItems.{AreDueItems}

-- the requests for these names, and the repairs of those of the others that the agent holds, over whatever run it fits
pub record DueItems {W : Type 0} (a : AgentContent W) (asks fixes : List FullName) (items : List DueItem) : Type 0 where
  pub datagrams : List Datagram
  pub spelled : AreDueItems a.config.me a.config.session a.showing datagrams items
  pub value : (c : Config) (made : ℕ) (past : List Entry) → AgentFits c made past a → datagrams ≡ packed c.me asks ++ filter_map (repair_for c.me past) fixes
