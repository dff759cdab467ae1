use Rattle.std.proofs.Common.{rules}
use Rattle.srm_picture.proofs.Showing.{of_refused}
use Rattle.srm_picture.proofs.action.kind_in.Goals as goal

pub returns-in-Refused : goal.returns-in-Refused
returns-in-Refused c = search (rules, of_refused)
