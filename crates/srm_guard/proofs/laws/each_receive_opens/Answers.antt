use Rattle.srm_guard.proofs.Receiving.{receives_open, sends_keep}
use Rattle.srm_guard.proofs.laws.each_receive_opens.Goals as goal

pub returns : goal.returns
returns g c = record { receives = receives_open g.X.Wire.receives; sends = sends_keep g.X.Wire.sends }
