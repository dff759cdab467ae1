use Rattle.std.proofs.Common.{rules}
use Rattle.srm_room.proofs.ReadBack.{text_back}
use Rattle.srm_room.specs.Rooms.{content_of}
use Rattle.srm_room.proofs.writing.write_parts.Goals as goal

pub returns-in-Ok : goal.returns-in-Ok
returns-in-Ok c = text_back (content_of c.args.parts.now) _ _ c.requires (search rules) c.in-Ok.ensures.reads_back
