-- Whatever a document says is a room.
use Rattle.std.proofs.Common.{◌≡◌, ◌<◌, ◌^◌, Ok, arith}
use Rattle.std.specs.Prelude.{IfOk}
use Rattle.srm_room.specs.declared.field.Field.TheVariants as field
use Rattle.srm_room.specs.declared.field.Place.TheVariants as place
use Rattle.srm_room.specs.Readings.{ReadsRooms, key_in, number_in, people_in, room_in, settings_at}
use Rattle.srm_room.specs.Rooms.{AreSettings, ArePeople, IsRoom}
use Rattle.srm_room.proofs.Binding.{bind_IfOk, test_IfOk, value_of}
use Rattle.srm_room.proofs.Numbers.{KeyFits, is_from, key_in-fits, settings_at-fit}
use Rattle.srm_room.proofs.Persons.{people_in-fit}

pub rooms_read : ReadsRooms
unfolding room_in
rooms_read ms =
    bind_IfOk (number_in place.Top field.Ringyew 1 1 ms) _ IsRoom (λ format _.
    bind_IfOk (number_in place.Top field.Session 0 4294967295 ms) _ IsRoom (λ session e1.
    bind_IfOk (key_in ms) _ IsRoom (λ key e2.
    bind_IfOk (people_in ms) _ IsRoom (λ people e3.
    bind_IfOk (settings_at ms) _ IsRoom (λ settings e4.
    let low = (is_from place.Top field.Session 0 4294967295 ms session e1).1 in
    let fits = value_of (key_in ms) key KeyFits e2 (key_in-fits ms) in
    test_IfOk _ _ _ IsRoom (λ _. record {
      session = omega (arith, low);
      key_bytes = fits.bytes;
      key_length = fits.long;
      people = value_of (people_in ms) people ArePeople e3 (people_in-fit ms);
      settings = value_of (settings_at ms) settings AreSettings e4 (settings_at-fit ms);
    }))))))
