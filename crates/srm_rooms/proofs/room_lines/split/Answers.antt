use Rattle.std.proofs.Common.{ap, ◌∙◌}
use Rattle.std.proofs.lemmas.List.{map-append}
use Rattle.srm_rooms.specs.RoomLines.{texts}
use Rattle.srm_rooms.proofs.Lines.{takes_on}
use Rattle.srm_rooms.proofs.room_lines.split.Goals as goal

pub returns-in-Some : goal.returns-in-Some
returns-in-Some c =
    takes_on c.args.option.now _ (texts c.loop-rest.others.items) (texts c.loop-rest.rest.now) _ (texts c.in-Some.found.behind.now) _ c.loop-rest.invariant c.in-Some.ensures
    (ap texts c.in_ok-extend_from_slice.ensures.items ∙ simp map-append)
