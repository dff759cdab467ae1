use Rattle.std.proofs.Common.{ℕ, true, false, ap, ◌∙◌, subst}
use Rattle.std.proofs.lemmas.Result.{err_from_is_err_and}
use Rattle.srm_udp.specs.Inboxes.{BringsOne}
use Rattle.srm_udp.specs.Udp.{UdpView, after_error, with_inbox}
use Rattle.srm_udp.proofs.Counting.{receives_datagram, receives_error}
use Rattle.srm_udp.proofs.udp_wire.UdpWireWire.receive.Goals as goal

pub returns-in_err-count-in-Failed-clause-receives : goal.returns-in_err-count-in-Failed-clause-receives
returns-in_err-count-in-Failed-clause-receives c =
    let p = err_from_is_err_and c.from_residual.result c.from_residual.ensures.1 in
    rw (p.1) (receives_error c.next.new.buffer c.next.result c.in-Failed.error true c.next.new.self c.args.self.now c.look.new.self c.count.new.self c.look.ensures.takes c.look.ensures.rest
    (subst (λ b. BringsOne c.next.new.buffer c.next.result b c.next.new.self) (ap (λ (w : UdpView). w.inbox) c.self-2.view_is) c.next.ensures.brings)
    c.in-Failed.is c.in_err-count-in-Failed.ensures.failed (c.count.ensures.one ∙ ap (λ w. after_error c.in-Failed.error (with_inbox c.next.new.self w)) c.self-2.view_is))

pub returns-in-Datagram-clause-receives : goal.returns-in-Datagram-clause-receives
returns-in-Datagram-clause-receives c =
    receives_datagram ℕ c.next.new.buffer c.next.result c.in-Datagram.count c.next.new.self c.args.self.now c.look.new.self _ c.look.ensures.takes c.look.ensures.rest
    (subst (λ b. BringsOne c.next.new.buffer c.next.result b c.next.new.self) (ap (λ (w : UdpView). w.inbox) c.self-2.view_is) c.next.ensures.brings)
    c.in-Datagram.is (ap (with_inbox c.next.new.self) c.self-2.view_is)

pub returns-in_ok-count-in-Failed-clause-receives : goal.returns-in_ok-count-in-Failed-clause-receives
returns-in_ok-count-in-Failed-clause-receives c =
    receives_error c.next.new.buffer c.next.result c.in-Failed.error false c.next.new.self c.args.self.now c.look.new.self c.count.new.self c.look.ensures.takes c.look.ensures.rest
    (subst (λ b. BringsOne c.next.new.buffer c.next.result b c.next.new.self) (ap (λ (w : UdpView). w.inbox) c.self-2.view_is) c.next.ensures.brings)
    c.in-Failed.is c.in_ok-count-in-Failed.ensures.failed (c.count.ensures.one ∙ ap (λ w. after_error c.in-Failed.error (with_inbox c.next.new.self w)) c.self-2.view_is)
