use Rattle.std.proofs.Common.{rules}
use Rattle.srm_room.proofs.Entries.{put_entry}
use Rattle.srm_room.proofs.tables.put.Goals as goal

pub returns-in-Ok : goal.returns-in-Ok
returns-in-Ok c = rw c.in-Ok.ensures.entries (put_entry c.args.table.now.entries c.in_ok-key.key _ c.args.value (search rules))
