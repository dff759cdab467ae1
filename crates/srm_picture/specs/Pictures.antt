-- The picture of a session.
use Rattle.std.specs.Prelude.{◌≡◌, List}
use Rattle.srm_entries.specs.declared.entry.Entry.{Entry}
use Rattle.srm_picture.specs.declared.arrow.Arrival.{Arrival}
use Rattle.srm_picture.specs.declared.picture.Picture.{Picture}
use Rattle.srm_picture.specs.Arrows.{arrows_in, launches_in}
use Rattle.srm_picture.specs.Brackets.{AreBrackets}
use Rattle.srm_picture.specs.Actions.{AreActions}

-- an arrow from the sending of each datagram to each arrival, or to nobody; a bracket for each timer that was set; local actions in order
pub record Depicts (es : List Entry) (hs : List Arrival) (picture : Picture) : Type 0 where
  pub arrows : picture.arrows.items ≡ arrows_in (launches_in es) hs
  pub brackets : AreBrackets es picture.brackets.items
  pub actions : AreActions es picture.actions.items
