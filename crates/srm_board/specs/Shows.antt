-- What a board shows of an entry.
use Rattle.std.specs.Prelude.{◌≡◌}
use Rattle.srm_slate.specs.RecordView.{RecordView}

-- Whatever befalls the member, what its workers took stays, and so does whether that is whole and whether its run has ended.
pub record KeepsTaken (old new : RecordView) : Type 0 where
  pub taken : new.taken ≡ old.taken
  pub is_lossy : new.is_lossy ≡ old.is_lossy
  pub has_ended : new.has_ended ≡ old.has_ended
