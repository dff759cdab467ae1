use Rattle.std.proofs.Common.{◌≡◌, ◌++◌, drop, map}
use Rattle.srm_room.specs.Rooms.{person}
use Rattle.srm_options.specs.MemberNames.{said}
use Rattle.srm_rooms.specs.RoomLines.{addresses_of}
use Rattle.srm_rooms.proofs.room_words.push_addresses.Given as goal

abbrev pub invariant-loop-member : goal.invariant-loop-member
invariant-loop-member l = said l.words.items ++ addresses_of (map person (drop l.member-index l.members)) ≡ said l.fn.words.items ++ addresses_of (map person l.members)
