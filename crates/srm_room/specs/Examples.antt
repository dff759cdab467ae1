-- Names, addresses and rooms in examples.
use Rattle.std.specs.Prelude.{◌≡◌, pos, true, false, refl, codes, [], ◌∷◌, map, replicate, Ok, Err, Some, None}
use Rattle.toml.specs.Data.{string, integer}
use Rattle.srm_room.specs.declared.fault.Fault.TheVariants as fault
use Rattle.srm_room.specs.declared.field.Field.TheVariants as field
use Rattle.srm_room.specs.declared.field.Place.TheVariants as place
use Rattle.srm_room.specs.Readings.{counted, key_of_digits, number_of, room_of}
use Rattle.srm_room.specs.Places.{member_of}
use Rattle.srm_room.specs.Rooms.{Person, is_address, person_of}

-- ---- addresses

an_ipv4_address : is_address (codes "192.0.2.7:47100") ≡ true
an_ipv4_address = refl

an_ipv6_address : is_address (codes "[2001:db8::7]:47100") ≡ true
an_ipv6_address = refl

a_host : is_address (codes "ada.example:47100") ≡ true
a_host = refl

the_last_port : is_address (codes "ada:65535") ≡ true
the_last_port = refl

no_port_0 : is_address (codes "192.0.2.7:0") ≡ false
no_port_0 = refl

no_port_65536 : is_address (codes "192.0.2.7:65536") ≡ false
no_port_65536 = refl

not_without_a_port : is_address (codes "192.0.2.7") ≡ false
not_without_a_port = refl

not_without_brackets : is_address (codes "2001:db8::7:47100") ≡ false
not_without_brackets = refl

not_without_a_host : is_address (codes ":47100") ≡ false
not_without_a_host = refl

-- ---- members

abbrev ada : Person
ada = person_of (codes "ada") (codes "192.0.2.7:47100")

abbrev grace : Person
grace = person_of (codes "grace") (codes "192.0.2.9:47100")

abbrev other_ada : Person
other_ada = person_of (codes "ada") (codes "192.0.2.9:47100")

abbrev beside_ada : Person
beside_ada = person_of (codes "grace") (codes "192.0.2.7:47100")

none : counted [] ≡ Err fault.NoMember
none = refl

one : counted (ada ∷ []) ≡ Ok (ada ∷ [])
one = refl

not_33 : counted (replicate 33 ada) ≡ Err fault.TooMany
not_33 = refl

-- ---- the key and numbers

fifteen_bytes_are_no_key : key_of_digits (Ok (replicate 15 0)) ≡ Err fault.KeyLength
fifteen_bytes_are_no_key = refl

sixteen_are_one : key_of_digits (Ok (replicate 16 0)) ≡ Ok (replicate 16 0)
sixteen_are_one = refl

a_wait_of_16 : number_of place.Settings field.Waits 0 16 (integer (pos 16)) ≡ Ok 16
a_wait_of_16 = refl

no_wait_of_17 : number_of place.Settings field.Waits 0 16 (integer (pos 17)) ≡ Err (fault.Wrong place.Settings field.Waits)
no_wait_of_17 = refl

no_wait_in_quotes : number_of place.Settings field.Waits 0 16 (string (codes "2")) ≡ Err (fault.Wrong place.Settings field.Waits)
no_wait_in_quotes = refl

-- ---- rooms

no_toml : room_of None ≡ Err fault.NotToml
no_toml = refl

-- ---- who is meant: a name, or a place from 0

who_is_meant : map (member_of (ada ∷ grace ∷ [])) (codes "grace" ∷ codes "ada" ∷ codes "1" ∷ codes "0" ∷ codes "2" ∷ codes "bob" ∷ codes "" ∷ codes "4294967296" ∷ [])
    ≡ Some 1 ∷ Some 0 ∷ Some 1 ∷ Some 0 ∷ None ∷ None ∷ None ∷ None ∷ []
who_is_meant = refl
