use Rattle.std.proofs.Common.{◌++◌, ap, ◌∙◌, subst}
use Rattle.std.specs.Prelude.{option_to_list, OnOk}
use Rattle.srm_bucket.specs.Calls.{Handed}
use Rattle.srm_bucket.specs.Fits.{BucketAdds}
use Rattle.srm_bucket.specs.Waiting.{Gains}
use Rattle.srm_outbox.specs.DueItems.{classed_of}
use Rattle.srm_outbox.proofs.Handing.{drained, handing_begins, handing_goes_on, handing_room, handing_length, handing_ends}
use Rattle.srm_outbox.proofs.outbox.hand_in.Goals as goal

pub loop-due_item-init : goal.loop-due_item-init
loop-due_item-init c = handing_begins c.args.due_items.items c.args.bucket.now c.requires.lengths c.requires.room

pub hand-requires-clause-least : goal.hand-requires-clause-least
hand-requires-clause-least c = (handing_length c.args.due_items.items c.loop-due_item.due_items.items c.pop_front.new.self.items c.in-Some.due_item c.args.bucket.now c.loop-due_item.bucket
    (c.pop_front.ensures.items ∙ ap (λ o. option_to_list o ++ c.pop_front.new.self.items) c.in-Some.is) c.loop-due_item.invariant).is.least

pub hand-requires-clause-greatest : goal.hand-requires-clause-greatest
hand-requires-clause-greatest c = (handing_length c.args.due_items.items c.loop-due_item.due_items.items c.pop_front.new.self.items c.in-Some.due_item c.args.bucket.now c.loop-due_item.bucket
    (c.pop_front.ensures.items ∙ ap (λ o. option_to_list o ++ c.pop_front.new.self.items) c.in-Some.is) c.loop-due_item.invariant).is.greatest

pub unwrap-requires : goal.unwrap-requires
unwrap-requires c = c.hand.ensures.not_refused (handing_room c.args.due_items.items c.loop-due_item.due_items.items c.pop_front.new.self.items c.in-Some.due_item c.args.bucket.now c.loop-due_item.bucket
    (c.pop_front.ensures.items ∙ ap (λ o. option_to_list o ++ c.pop_front.new.self.items) c.in-Some.is) c.loop-due_item.invariant)

pub loop-due_item-preserved : goal.loop-due_item-preserved
loop-due_item-preserved c = handing_goes_on c.args.due_items.items c.loop-due_item.due_items.items c.pop_front.new.self.items c.in-Some.due_item c.args.bucket.now c.loop-due_item.bucket c.hand.new.self
    (c.pop_front.ensures.items ∙ ap (λ o. option_to_list o ++ c.pop_front.new.self.items) c.in-Some.is) c.loop-due_item.invariant
    (subst (λ r. OnOk r (BucketAdds (Handed (classed_of c.in-Some.due_item)) c.loop-due_item.bucket c.hand.new.self)) c.unwrap.ensures c.hand.ensures.ok)
    (subst (λ r. OnOk r (Gains (classed_of c.in-Some.due_item) c.loop-due_item.bucket.waiting c.hand.new.self.waiting)) c.unwrap.ensures c.hand.ensures.gains)
    c.hand.ensures.room

pub returns : goal.returns
returns c = handing_ends c.args.due_items.items c.loop-due_item.due_items.items c.args.bucket.now c.loop-due_item.bucket
    (drained c.loop-due_item.due_items.items c.pop_front.new.self.items (c.pop_front.ensures.items ∙ ap (λ o. option_to_list o ++ c.pop_front.new.self.items) c.in_default.is) c.pop_front.ensures.rest) c.loop-due_item.invariant
