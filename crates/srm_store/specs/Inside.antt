-- What contracts see of the fields, and what holds of them.
use Rattle.std.specs.Prelude.{◌≡◌, ℕ, ◌≤◌, ◌<◌, [], length, vec_capacity}
use Rattle.srm_names.specs.declared.limits.TheConstants.{DRAWOPS, MEMBERS}
use Rattle.srm_store.specs.Places.{FilledTo, gaps_up_to}
use Rattle.srm_store.specs.StreamPlaces.{StreamContent, blank_stream, SameStreamPlaces}
use Rattle.srm_store.specs.Tables.{TableContent, stream_in}
use Rattle.srm_store.specs.Rooms.{RoomContent}
use Rattle.srm_store.specs.Finals.{FinalsContent}
use Rattle.srm_store.specs.declared.table.TheConstants.{STREAMS}
use Rattle.srm_store.specs.declared.stream_places.StreamPlaces.TheInside.{Inside as StreamInside}
use Rattle.srm_store.specs.declared.table.Table.TheInside.{Inside as TableInside}
use Rattle.srm_store.specs.declared.room.Room.TheInside.{Inside as RoomInside}
use Rattle.srm_store.specs.declared.finals.Finals.TheInside.{Inside as FinalsInside}
use Rattle.srm_store.specs.Stores.{StoreContent}
use Rattle.srm_store.specs.declared.store.Store.TheInside.{Inside as StoreInside}

abbrev pub stream_of : StreamInside → StreamContent
stream_of stream = record { places = stream.places; known = stream.known }

pub record StreamIsRight (stream : StreamInside) : Type 0 where
  pub filled : FilledTo stream.places stream.cursor
  pub cursor : stream.cursor ≤ DRAWOPS
  pub known : stream.known ≤ DRAWOPS
  pub missing : stream.missing ≡ gaps_up_to stream.places stream.known

abbrev pub table_of : TableInside → TableContent
table_of table = record { pages = table.pages; streams = table.streams.items }

-- There is a slot for each page; the streams behind the last page are blank.
pub record TableIsRight (table : TableInside) : Type 0 where
  pub size : length table.streams.items ≡ STREAMS
  pub blank : (slot source : ℕ) → length table.pages ≤ slot → source < MEMBERS → SameStreamPlaces blank_stream (stream_in table.streams.items slot source)

abbrev pub room_of : RoomInside → RoomContent
room_of room = record { name = room.name; capacity = vec_capacity room.list }

pub record RoomIsRight (room : RoomInside) : Type 0 where
  pub empty : room.list.items ≡ []

abbrev pub finals_of : FinalsInside → FinalsContent
finals_of finals = record { settled = finals.settled.items; room = vec_capacity finals.spare }

pub record FinalsAreRight (finals : FinalsInside) : Type 0 where
  pub size : length finals.settled.items ≡ MEMBERS
  pub empty : finals.spare.items ≡ []

abbrev pub store_of : StoreInside → StoreContent
store_of store = record { table = store.table; rooms = store.rooms; finals = store.finals }
