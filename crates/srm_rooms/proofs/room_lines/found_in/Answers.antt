use Rattle.std.proofs.Common.{Some, sym, subst}
use Rattle.std.specs.Prelude.{IfSome}
use Rattle.srm_rooms.specs.RoomLines.{TakesOut, texts}
use Rattle.srm_rooms.proofs.room_lines.found_in.Goals as goal

pub returns : goal.returns
returns c = subst (λ words. IfSome c.value_of.result (λ f. TakesOut c.args.option.now words (Some f.value.now) (texts f.behind.now))) (sym c.in-Some.ensures) c.value_of.ensures
