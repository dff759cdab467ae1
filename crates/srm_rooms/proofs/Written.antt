-- What is printed of a room.
use Rattle.std.proofs.Common.{◌≡◌, ℕ, List, subst}
use Rattle.std.specs.Prelude.{Option, Some, None, Ok, IfSome}
use Rattle.std.specs.Io.KnownBytes.{Appends}
use Rattle.srm_room.specs.Readings.{said}
use Rattle.srm_room.specs.Rooms.{Content, Person}
use Rattle.srm_rooms.specs.Made.{IsMadeOf, IsReadAt, IsSaidBy, MakesRoom, PrintsRoom, ShowsRoom, StoresRoom, StoresText, TakesRoom}

pub prints : (room : Content) (text : List ℕ) (old new : Option (List ℕ)) → said text ≡ Ok room → Appends old new text → PrintsRoom room old new
prints room text old new is so = (text, is, so)

pub stores_text : {F : Type 0} (contents : F → Option (List ℕ)) (opened closed : F) (text : List ℕ) → Appends (contents opened) (contents closed) text → StoresText contents text
stores_text contents opened closed text is = (opened, closed, is)

pub stores : {F : Type 0} (contents : F → Option (List ℕ)) (room : Content) (text : List ℕ) → said text ≡ Ok room → StoresText contents text → StoresRoom contents room
stores contents room text is so = (text, is, so)

pub read_at : {F : Type 0} (remaining : F → Option (List ℕ)) (opened : F) (room : Content) → IsSaidBy (remaining opened) room → IsReadAt remaining room
read_at remaining opened room is = (opened, is)

pub makes : {F : Type 0} (contents : F → Option (List ℕ)) (people : List Person) (room : Content) → IsMadeOf people room → StoresRoom contents room → MakesRoom contents people
makes contents people room made stored = (room, made, stored)

pub shows : {F : Type 0} (remaining : F → Option (List ℕ)) (room : Content) (before after : Option (List ℕ)) → IsReadAt remaining room → PrintsRoom room before after → ShowsRoom remaining before after
shows remaining room before after read printed = (room, read, printed)

pub takes : {F : Type 0} (contents : F → Option (List ℕ)) (input : Option (List ℕ)) (room : Content) → IsSaidBy input room → StoresRoom contents room → TakesRoom contents input
takes contents input room is stored = (room, is, stored)

-- what was read whole says the room
pub said_by : (input : Option (List ℕ)) (bytes : List ℕ) (room : Content) → IfSome input (λ text. bytes ≡ text) → said bytes ≡ Ok room → IsSaidBy input room
said_by None bytes room all is = tt
said_by (Some text) bytes room all is = subst (λ (t : List ℕ). said t ≡ Ok room) all is
