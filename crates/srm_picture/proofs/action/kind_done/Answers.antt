use Rattle.std.proofs.Common.{rules}
use Rattle.srm_picture.proofs.Showing.{of_input, of_other}
use Rattle.srm_picture.proofs.action.kind_done.Goals as goal

pub returns-in-Drew : goal.returns-in-Drew
returns-in-Drew c = search (rules, of_input)

pub returns-in-Gave : goal.returns-in-Gave
returns-in-Gave c = search (rules, of_input)

pub returns-in-Took : goal.returns-in-Took
returns-in-Took c = search (rules, of_input)

pub returns-in-Showed : goal.returns-in-Showed
returns-in-Showed c = search (rules, of_other)

pub returns-in-Ticked : goal.returns-in-Ticked
returns-in-Ticked c = search (rules, of_input)
