use Rattle.srm_audited.proofs.Judged.{honest_ok, mismatch_err}
use Rattle.srm_audited.proofs.auditing.put_together.Goals as goal

pub returns-clause-honest : goal.returns-clause-honest
returns-clause-honest c =
    honest_ok c.args.told.items c.in-Ok.journals.items c.args.gots.items c.reconcile.result c.in-Ok.ensures c.reconcile.ensures.assembles c.reconcile.ensures.run c.reconcile.ensures.honest c.reconcile.ensures.takes
    c.reconcile.ensures.rest

pub returns-clause-refused : goal.returns-clause-refused
returns-clause-refused c = mismatch_err c.args.told.items c.in-Ok.journals.items c.args.gots.items c.reconcile.result c.in-Ok.ensures c.reconcile.ensures.refused
