-- What contracts see of what there is to show.
use Rattle.std.specs.Prelude.{ℕ, Bool, List}
use Rattle.srm_slate.specs.declared.hole.Hole.{Hole}
use Rattle.srm_slate.specs.declared.look.Counts.{Counts}
use Rattle.srm_slate.specs.declared.taken.Taken.{Taken}
use Rattle.srm_slate.specs.HappeningsView.{HappeningsView}

-- What was taken, in order, and whether memory ran out for a message: then what was taken behind it isn't there. How many drawops are missing, the
-- first of them by name, what befell the member, what passed, how many datagrams each member sent, whether the member was in the session before, and whether its run has ended.
pub record RecordView : Type 0 where
  pub taken : List Taken
  pub is_lossy : Bool
  pub missing : ℕ
  pub holes : List Hole
  pub happenings : HappeningsView
  pub counts : Counts
  pub heard : List ℕ
  pub is_stale : Bool
  pub has_ended : Bool
