-- How a room stands in its file.
use Rattle.std.specs.Prelude.{ℕ, pos, List, [], ◌∷◌, map, codes}
use Rattle.hex.specs.Hex.{encode_lower}
use Rattle.toml.specs.Data.{Data, string, integer, array, table, Members, no_members, member}
use Rattle.toml.specs.View.{items_of}
use Rattle.srm_room.specs.declared.field.Field.{Field}
use Rattle.srm_room.specs.declared.field.Field.TheVariants as field
use Rattle.srm_room.specs.declared.room_settings.RoomSettings.{RoomSettings}
use Rattle.srm_room.specs.Rooms.{Person, Content}

-- a key as it is written
abbrev pub key_of : Field → List ℕ
key_of field.Ringyew = codes "ringyew"
key_of field.Session = codes "session"
key_of field.Key = codes "key"
key_of field.Member = codes "member"
key_of field.Settings = codes "settings"
key_of field.Name = codes "name"
key_of field.Address = codes "address"
key_of field.Waits = codes "waits"
key_of field.LeastDistance = codes "least-distance"
key_of field.Rate = codes "rate"
key_of field.Depth = codes "depth"
key_of field.Linger = codes "linger"
key_of field.MostMissing = codes "most-missing"

abbrev pub number : ℕ → Data
number n = integer (pos n)

-- keys ascend, as in each table
abbrev pub person_members : Person → Members
person_members p =
    member (codes "address") (string p.address)
    (member (codes "name") (string p.name) no_members)

abbrev pub person_table : Person → Data
person_table p = table (person_members p)

abbrev pub waits_array : RoomSettings → Data
waits_array s = array (items_of (map number (s.c1 ∷ s.c2 ∷ s.d1 ∷ s.d2 ∷ [])))

abbrev pub settings_members : RoomSettings → Members
settings_members s =
    member (codes "depth") (number s.depth)
    (member (codes "least-distance") (number s.least_distance)
    (member (codes "linger") (number s.linger)
    (member (codes "most-missing") (number s.most_missing)
    (member (codes "rate") (number s.rate)
    (member (codes "waits") (waits_array s) no_members)))))

abbrev pub settings_table : RoomSettings → Data
settings_table s = table (settings_members s)

-- the document of a room
abbrev pub document : Content → Members
document r =
    member (codes "key") (string (encode_lower r.key))
    (member (codes "member") (array (items_of (map person_table r.people)))
    (member (codes "ringyew") (number 1)
    (member (codes "session") (number r.session)
    (member (codes "settings") (settings_table r.settings) no_members))))
