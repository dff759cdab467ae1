use Rattle.std.proofs.Common.{rules, ◌≡◌, ap, sym, ◌∙◌}
use Rattle.std.specs.Prelude.{length, slice_get}
use Rattle.srm_wire.specs.Wires.{bytes_to}
use Rattle.srm_udp.specs.Losses.{send_error}
use Rattle.srm_udp.specs.Udp.{UdpView}
use Rattle.srm_udp.proofs.Counting.{sends_one, sends_none}
use Rattle.srm_udp.proofs.Posting.{answers_some, each_behind, found_at, same_refused, unposted}
use Rattle.srm_udp.proofs.udp_wire.UdpWireWire.send.Goals as goal

pub returns-in_default-clause-each : goal.returns-in_default-clause-each
returns-in_default-clause-each c =
    let found : c.copied-found.result ≡ slice_get c.args.self.now.inbox.roster c.args.to = found_at c.get.result _ c.roster.result.now c.args.self.now.inbox.roster c.index.result c.args.to c.copied-found.ensures c.get.ensures.lookup.3 (c.roster.ensures ∙ ap (λ (w : UdpView). w.inbox.roster) c.self.view_is) c.index.ensures.value in
    unposted c.args.to c.args.datagram.now c.copied-found.result c.args.self.now c.look.new.self c.fail.new.self found c.in_default.is c.look.ensures.rest c.fail.ensures.one

pub returns-in_default-clause-sends : goal.returns-in_default-clause-sends
returns-in_default-clause-sends c =
    let found : c.copied-found.result ≡ slice_get c.args.self.now.inbox.roster c.args.to = found_at c.get.result _ c.roster.result.now c.args.self.now.inbox.roster c.index.result c.args.to c.copied-found.ensures c.get.ensures.lookup.3 (c.roster.ensures ∙ ap (λ (w : UdpView). w.inbox.roster) c.self.view_is) c.index.ensures.value in
    sends_none (bytes_to c.args.to c.args.datagram.now) c.args.self.now c.look.new.self c.fail.new.self c.look.ensures.takes c.fail.ensures.one (returns-in_default-clause-each c) (sym found ∙ c.in_default.is)
    (same_refused c.args.self.now c.look.new.self c.fail.new.self c.look.ensures.rest c.fail.ensures.one)

pub returns-clause-each : goal.returns-clause-each
returns-clause-each c =
    let found : c.copied-found.result ≡ slice_get c.args.self.now.inbox.roster c.args.to = found_at c.get.result _ c.roster.result.now c.args.self.now.inbox.roster c.index.result c.args.to c.copied-found.ensures c.get.ensures.lookup.3 (c.roster.ensures ∙ ap (λ (w : UdpView). w.inbox.roster) c.self.view_is) c.index.ensures.value in
    each_behind c.settle_send.result c.args.to c.args.datagram.now c.copied-found.result c.in-Some.address (send_error (length c.args.datagram.now) c.send_to-answer.result) c.args.self.now c.look.new.self _ c.settle_send.new.self found c.in-Some.is c.look.ensures.rest
    (search rules) c.settle_send.ensures.refused c.settle_send.ensures.each

pub returns-clause-sends : goal.returns-clause-sends
returns-clause-sends c =
    let found : c.copied-found.result ≡ slice_get c.args.self.now.inbox.roster c.args.to = found_at c.get.result _ c.roster.result.now c.args.self.now.inbox.roster c.index.result c.args.to c.copied-found.ensures c.get.ensures.lookup.3 (c.roster.ensures ∙ ap (λ (w : UdpView). w.inbox.roster) c.self.view_is) c.index.ensures.value in
    sends_one c.settle_send.result (bytes_to c.args.to c.args.datagram.now) c.in-Some.address c.args.self.now c.look.new.self c.settle_send.new.self c.look.ensures.takes (c.settle_send.ensures.inbox ∙ ap (λ (w : UdpView). w.inbox) c.self-2.view_is) (returns-clause-each c)
    (sym found ∙ c.in-Some.is)
    (answers_some c.settle_send.result (bytes_to c.args.to c.args.datagram.now) c.in-Some.address _ c.args.self.now c.look.new.self _ c.settle_send.new.self (sym found ∙ c.in-Some.is) c.look.ensures.rest
    (search rules) c.settle_send.ensures.inbox c.settle_send.ensures.refused c.settle_send.ensures.failed c.settle_send.ensures.one)
