-- The document of a room says this room.
use Rattle.std.proofs.Common.{◌≡◌, ℕ, ◌≤◌, List, Ok, Some, refl, ap, subst, ◌∙◌, arith}
use Rattle.toml.specs.Data.{Members, members_depth}
use Rattle.toml.specs.Parse.{parse_document}
use Rattle.srm_room.specs.declared.field.Field.TheVariants as field
use Rattle.srm_room.specs.declared.field.Place.TheVariants as place
use Rattle.srm_room.specs.Documents.{document}
use Rattle.srm_room.specs.Readings.{ReadsBack, key_in, number_in, people_in, room_in, room_of, said, settings_at}
use Rattle.srm_room.specs.Rooms.{Content, IsRoom}
use Rattle.srm_room.proofs.Binding.{bind_step}
use Rattle.srm_room.proofs.Entries.{document_depth}
use Rattle.srm_room.proofs.Numbers.{key_back, number_back, settings_back}
use Rattle.srm_room.proofs.Persons.{people_in-back}

pub document_back : ReadsBack
unfolding room_in
document_back r is =
    let ms = document r in
    let high : r.session ≤ 4294967295 = let h = is.session in omega (arith, h) in
    bind_step (number_in place.Top field.Session 0 4294967295 ms) r.session _ _ (number_back place.Top field.Session 0 4294967295 r.session (omega arith) high)
    (bind_step (key_in ms) r.key _ _ (key_back r is.key_bytes is.key_length)
    (bind_step (people_in ms) r.people _ _ (people_in-back r is.people)
    (bind_step (settings_at ms) r.settings _ _ (settings_back r.settings is.settings) refl)))

-- a text that reads as the document of a room says this room
pub text_back : (r : Content) (ms : Members) (text : List ℕ) → IsRoom r → ms ≡ document r → (members_depth ms ≤ 80 → parse_document text ≡ Some ms) → said text ≡ Ok r
text_back r ms text is same back =
    let read = subst (λ m. members_depth m ≤ 80 → parse_document text ≡ Some m) same back (document_depth r) in
    ap room_of read ∙ document_back r is
