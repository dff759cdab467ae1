use Rattle.std.proofs.Common.{rules}
use Rattle.srm_bucket.proofs.Paying.{rest-nothing, rest-paid, rest-unpaid}
use Rattle.srm_bucket.proofs.queues.rest_after.Goals as goal

pub loop-item-init : goal.loop-item-init
loop-item-init g c = search rules

pub returns-in_err-rest : goal.returns-in_err-rest
returns-in_err-rest g c = search (rules, rest-unpaid)

pub loop-item-preserved : goal.loop-item-preserved
loop-item-preserved g c = search (rules, rest-paid)

pub returns : goal.returns
returns g c = search (rules, rest-nothing)
