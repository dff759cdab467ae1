use Rattle.std.proofs.Common.{◌∙◌}
use Rattle.std.proofs.lemmas.Result.{on_ok_weaker}
use Rattle.srm_rooms.proofs.Pushed.{shared}
use Rattle.srm_rooms.proofs.room_words.push_shared.Goals as goal

pub returns : goal.returns
returns c =
    on_ok_weaker c.push_number-3.result
    (λ e. shared c.args.room.now c.args.me c.session.result c.from.result c.settings-settings.result _ _ _ _ _ c.session.ensures (c.from.ensures ∙ c.number.ensures.value) c.settings-settings.ensures c.in_ok-push_number.ensures c.in_ok-push_number-2.ensures c.in_ok-push_waits.ensures e)
    c.push_number-3.ensures
