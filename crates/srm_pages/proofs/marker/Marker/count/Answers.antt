use Rattle.std.proofs.Common.{rules}
use Rattle.srm_pages.proofs.Shown.{order_counted}
use Rattle.srm_pages.proofs.marker.Marker.count.Goals as goal

pub raise-requires-clause-order : goal.raise-requires-clause-order
raise-requires-clause-order c = search (rules, order_counted)
