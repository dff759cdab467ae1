use Rattle.std.proofs.Common.{refl, arith}
use Rattle.std.specs.Prelude.{is_err}
use Rattle.std.proofs.lemmas.Grind.{common_steps}
use Rattle.srm_guard.proofs.Guarding.{sends_sealed}
use Rattle.srm_guard.proofs.guard.GuardWire.send.Goals as goal

pub returns-clause-sends : goal.returns-clause-sends
returns-clause-sends g c =
    sends_sealed g.X.Wire.sends _ c.args.self.now _ c.send-2.new.self c.in-Some.seal c.close.new.self c.args.to c.args.datagram.now _ (is_err c.send-2.result)
    c.self.view_is c.in-Some.is (omega arith) (grind (arith, common_steps, c.if-not-close.ensures.0)) c.if-not-close.ensures.1 c.if-not-close.ensures.2 c.send-2.ensures.sends refl
