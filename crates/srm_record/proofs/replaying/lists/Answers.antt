use Rattle.std.proofs.Common.{◌∷◌, ◌∙◌, [], ap, arith}
use Rattle.std.specs.Prelude.{Vec}
use Rattle.std.specs.Global.{Global}
use Rattle.std.proofs.lemmas.List.{map-append}
use Rattle.srm_names.specs.declared.page_msg.PageMsg.{PageMsg}
use Rattle.srm_record.specs.Takes.{taken_in, list_in}
use Rattle.srm_record.proofs.Elements.{one_list_more}
use Rattle.srm_record.proofs.replaying.lists.Goals as goal

pub slots-preserved : goal.slots-preserved
slots-preserved c = record {
  so_far = one_list_more (list_in c.args.lines.now) (taken_in c.slots.taken.items) (taken_in c.push.new.self.items) c.slots.slot c.in_ok-list.list.items c.slots.invariant.so_far
      (ap taken_in c.in_ok-push.ensures.items ∙ map-append (λ (list : Vec PageMsg Global). list.items) c.slots.taken.items (c.in_ok-list.list ∷ []))
      c.in_ok-list.ensures;
  count = omega (arith, c.in_ok-push.ensures.len, c.slots.invariant.count);
}
