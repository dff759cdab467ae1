use Rattle.std.proofs.Common.{◌≡◌, ◌++◌, ap, ◌∙◌, true, rules}
use Rattle.std.specs.Prelude.{option_to_list}
use Rattle.std.specs.Result.{is_ok}
use Rattle.srm_outbox.proofs.Handing.{drained}
use Rattle.srm_outbox.proofs.Spelling.{spelling_begins, spelling_goes_on, spelling_next, spelling_ends}
use Rattle.srm_outbox.proofs.due_items.spelled.Goals as goal

pub loop-datagram-init : goal.loop-datagram-init
loop-datagram-init c = spelling_begins c.args.me c.args.session c.args.showing.now c.args.datagrams.items _ c.new-items.ensures.items c.requires

pub spell-requires : goal.spell-requires
spell-requires c = spelling_next c.args.me c.args.session c.args.showing.now c.args.datagrams.items c.loop-datagram.datagrams.items c.pop_front.new.self.items c.in-Some.datagram c.loop-datagram.items.items
    (c.pop_front.ensures.items ∙ ap (λ o. option_to_list o ++ c.pop_front.new.self.items) c.in-Some.is) c.loop-datagram.invariant

pub loop-datagram-preserved : goal.loop-datagram-preserved
loop-datagram-preserved c =
    let ok : is_ok c.push_back.result ≡ true = search rules in
    rw (c.push_back.ensures.items, ok) (spelling_goes_on c.args.me c.args.session c.args.showing.now c.args.datagrams.items c.loop-datagram.datagrams.items c.pop_front.new.self.items c.in-Some.datagram c.loop-datagram.items.items c.in_ok-spell.field-0
    (c.pop_front.ensures.items ∙ ap (λ o. option_to_list o ++ c.pop_front.new.self.items) c.in-Some.is) c.in_ok-spell.ensures c.loop-datagram.invariant)

pub returns : goal.returns
returns c = spelling_ends c.args.me c.args.session c.args.showing.now c.args.datagrams.items c.loop-datagram.datagrams.items c.loop-datagram.items.items
    (drained c.loop-datagram.datagrams.items c.pop_front.new.self.items (c.pop_front.ensures.items ∙ ap (λ o. option_to_list o ++ c.pop_front.new.self.items) c.in_default.is) c.pop_front.ensures.rest) c.loop-datagram.invariant
