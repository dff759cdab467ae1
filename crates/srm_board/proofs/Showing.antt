-- What befalls a member changes nothing of what was taken.
use Rattle.std.proofs.Common.{refl, ◌∙◌}
use Rattle.srm_slate.specs.RecordView.{RecordView}
use Rattle.srm_board.specs.Shows.{KeepsTaken}

pub keeps_on : (a b c : RecordView) → KeepsTaken a b → KeepsTaken b c → KeepsTaken a c
keeps_on a b c first more = record { taken = more.taken ∙ first.taken; is_lossy = more.is_lossy ∙ first.is_lossy; has_ended = more.has_ended ∙ first.has_ended }

pub keeps_all : (a : RecordView) → KeepsTaken a a
keeps_all a = record { taken = refl; is_lossy = refl; has_ended = refl }
