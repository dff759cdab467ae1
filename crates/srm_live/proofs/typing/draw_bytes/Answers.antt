use Rattle.std.proofs.Common.{rules}
use Rattle.srm_live.proofs.TypedLines.{draws_more, draws_left, draws_some, if_err, left_if, typed_if}
use Rattle.srm_live.proofs.typing.draw_bytes.Goals as goal

pub loop-byte-preserved : goal.loop-byte-preserved
loop-byte-preserved g c = draws_more _ _ _ _ _ _ _ _ _ _ _ _ c.loop-byte-test.true (search rules) c.loop-byte.invariant (typed_if _ _ _ _ _ _ _ _ c.in_ok-draw_byte.ensures.drawn (search rules))

pub returns-then-not-branch-clause-all : goal.returns-then-not-branch-clause-all
returns-then-not-branch-clause-all g c = draws_left _ _ _ _ _ _ _ _ _ _ c.loop-byte-test.true (search rules) c.loop-byte.invariant (left_if _ _ _ _ _ _ _ _ c.in_ok-draw_byte.ensures.drawn (search rules))

pub returns-in_err-draw_byte-clause-some : goal.returns-in_err-draw_byte-clause-some
returns-in_err-draw_byte-clause-some g c = if_err _ (draws_some _ _ _ _ _ _ _ _ _ c.loop-byte.invariant c.in_err-draw_byte.ensures.ends)
