use Rattle.std.proofs.Common.{◌≤◌, get_or, arith}
use Rattle.srm_pages.proofs.laws.board_keeps_its_rule.Goals as goal

pub returns-clause-seen : goal.returns-clause-seen
returns-clause-seen c = λ registers views h i j t v at taps at' w own.
    let exact = (h.fits i t at).exact taps w own in
    let bound = (h.fits j v at').bound w in
    let less : get_or v.seen w 0 ≤ get_or t.seen w 0 = omega arith in
    (exact, less)
