use Rattle.srm_played.proofs.Playing.{right_after}
use Rattle.srm_played.proofs.played.Played.apply.Goals as goal

pub invariant_of-self-then-not-branch : goal.invariant_of-self-then-not-branch
invariant_of-self-then-not-branch c = right_after _ _ _ _ _ c.in_ok-advance.ensures.plays c.self.invariant

pub invariant_of-self-2 : goal.invariant_of-self-2
invariant_of-self-2 c = right_after _ _ _ _ _ c.in_ok-advance.ensures.plays c.self.invariant
