use Rattle.std.proofs.Common.{subst, ◌∙◌, ap, map, refl}
use Rattle.std.specs.List.{AllByRecursion}
use Rattle.srm_world.specs.Claims.{IsLawfulJournal}
use Rattle.srm_audit.specs.declared.mismatch.Mismatch.TheVariants.{Memory}
use Rattle.srm_audit.specs.Audits.{AreFound}
use Rattle.srm_audit.specs.Finding.{IsFirstForeign}
use Rattle.srm_audit.specs.Endings.{ending_of}
use Rattle.srm_audit.specs.Refusals.{IsRefusedInOrder}
use Rattle.srm_audit.proofs.Openings.{foreign_at, refused, members_of, completed, handed_on}
use Rattle.srm_audit.proofs.Taking.{reconciles}
use Rattle.srm_audit.proofs.reconciling.assemble.Goals as goal

pub returns-in-Some-clause-err : goal.returns-in-Some-clause-err
returns-in-Some-clause-err c = foreign_at c.args.journals.items c.args.gots.now c.in-Some.place c.foreign.result (subst (λ q. IsFirstForeign q c.args.gots.now c.in-Some.place) c.deref-2.ensures.value c.in-Some.ensures) c.foreign.ensures

pub returns-in_err-endings-clause-err : goal.returns-in_err-endings-clause-err
returns-in_err-endings-clause-err c =
    let found : AreFound c.args.journals.items c.args.gots.now = subst (λ q. AreFound q c.args.gots.now) c.deref-2.ensures.value c.in_default.ensures in
    handed_on c.from_residual.result Memory (IsRefusedInOrder c.args.journals.items c.args.gots.now) c.from_residual.ensures.1 found

pub returns-in_err-starts-clause-err : goal.returns-in_err-starts-clause-err
returns-in_err-starts-clause-err c =
    let found : AreFound c.args.journals.items c.args.gots.now = subst (λ q. AreFound q c.args.gots.now) c.deref-2.ensures.value c.in_default.ensures in
    handed_on c.from_residual-in_err-starts.result Memory (IsRefusedInOrder c.args.journals.items c.args.gots.now) c.from_residual-in_err-starts.ensures.1 found

pub returns-in_err-take_all-clause-err : goal.returns-in_err-take_all-clause-err
returns-in_err-take_all-clause-err c =
    let found : AreFound c.args.journals.items c.args.gots.now = subst (λ q. AreFound q c.args.gots.now) c.deref-2.ensures.value c.in_default.ensures in
    handed_on c.from_residual-in_err-take_all.result Memory (IsRefusedInOrder c.args.journals.items c.args.gots.now) c.from_residual-in_err-take_all.ensures.1 found

pub returns-in_err-entries-clause-err : goal.returns-in_err-entries-clause-err
returns-in_err-entries-clause-err c =
    let found : AreFound c.args.journals.items c.args.gots.now = subst (λ q. AreFound q c.args.gots.now) c.deref-2.ensures.value c.in_default.ensures in
    let known : AllByRecursion IsLawfulJournal c.args.journals.items = subst (AllByRecursion IsLawfulJournal) c.deref.ensures.value c.know.ensures in
    handed_on c.from_residual-in_err-entries.result c.in_err-entries.field-0.0 (IsRefusedInOrder c.args.journals.items c.args.gots.now) c.from_residual-in_err-entries.ensures.1
    (refused c.args.journals.items c.args.gots.now c.deref-4.result.now c.in_ok-starts.merge c.in_err-entries.field-0.0 c.requires known found (c.deref-4.ensures.value ∙ c.in_ok-starts.ensures.starts) c.in_ok-starts.ensures.merge c.in_err-entries.ensures.err)

pub take_all-requires : goal.take_all-requires
take_all-requires c =
    let found : AreFound c.args.journals.items c.args.gots.now = subst (λ q. AreFound q c.args.gots.now) c.deref-2.ensures.value c.in_default.ensures in
    let are = c.in_ok-endings.ensures ∙ ap (map ending_of) c.deref-3.ensures.value in
    members_of c.args.journals.items c.args.gots.now c.deref-5.result.now found (c.deref-5.ensures.value ∙ are)

pub returns-clause-ok : goal.returns-clause-ok
returns-clause-ok c =
    let found : AreFound c.args.journals.items c.args.gots.now = subst (λ q. AreFound q c.args.gots.now) c.deref-2.ensures.value c.in_default.ensures in
    let known : AllByRecursion IsLawfulJournal c.args.journals.items = subst (AllByRecursion IsLawfulJournal) c.deref.ensures.value c.know.ensures in
    let are = c.in_ok-endings.ensures ∙ ap (map ending_of) c.deref-3.ensures.value in
    reconciles c.args.journals.items c.args.gots.now c.deref-5.result.now c.in_ok-entries.entries.items c.take_all.new.entries.items _ _ known c.requires found (c.deref-5.ensures.value ∙ are)
    (completed c.args.journals.items c.in_ok-starts.merge c.in_ok-entries.entries.items c.requires known c.in_ok-starts.ensures.merge c.in_ok-entries.ensures.ok) c.in_ok-take_all.ensures c.in_ok-starts.ensures.starts refl
