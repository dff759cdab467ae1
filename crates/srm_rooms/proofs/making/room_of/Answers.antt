use Rattle.std.proofs.Common.{map}
use Rattle.srm_room.specs.Rooms.{person}
use Rattle.srm_rooms.proofs.MadeOf.{made}
use Rattle.srm_rooms.proofs.making.room_of.Goals as goal

pub returns-in-Ok : goal.returns-in-Ok
returns-in-Ok c = made c.args.session c.args.key.now (map person c.args.members.now) c.usual.result c.in-Ok.room c.fits-key c.told-key c.is_room.ensures c.in-Ok.ensures
