use Rattle.std.proofs.Common.{sym, ◌∙◌}
use Rattle.srm_room.proofs.Entries.{keys_count}
use Rattle.srm_room.proofs.looking.size.Goals as goal

pub returns : goal.returns
returns c = c.len.ensures.len ∙ sym (keys_count c.args.table.now.entries)
