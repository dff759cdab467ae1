use Rattle.srm_store.proofs.Slots.{room_by_slot}
use Rattle.srm_store.proofs.page_table.PageTable.has_room.Goals as goal

pub returns : goal.returns
returns c = room_by_slot c.args.self.now c.args.page.now c.slot_of.result c.from.result c.slot_of.ensures.value c.from.ensures c.slot_of.ensures.few
