-- Which fault an error is.
use Rattle.std.proofs.Common.{◌≡◌, Result, Ok, Err, ap, sym, subst}
use Rattle.std.specs.Prelude.{◌↔◌}
use Rattle.srm_store.specs.declared.fault.StoreFault.{StoreFault}
use Rattle.srm_store.specs.declared.fault.StoreFault.TheVariants.{PageLimit, Memory}

pub same_fault : {X Y : Type 0} (e f : StoreFault) → ◌≡◌ {A = Result X StoreFault} (Err e) (Err f) → ◌≡◌ {A = Result Y StoreFault} (Err e) (Err f)
same_fault e f h = let same : e ≡ f = cc in ap Err same

pub no_page_limit : {X : Type 0} (r : Result X StoreFault) → r ≡ Err Memory → r ≡ Err PageLimit → ⊥
no_page_limit r h e = cc

-- A call that asks first whether pages find page slots fails as that asking says: where its fault is passed on, and where slots were found and nothing behind it is
-- refused so.

pub limit_handed_on : {Q : Type 0} (e : StoreFault) (r : Result (Unit {0}) StoreFault) → (◌≡◌ {A = Result (Unit {0}) StoreFault} (Err e) (Err PageLimit) ↔ Q) → r ≡ Err e → ((r ≡ Err PageLimit) ↔ Q)
limit_handed_on {Q} e r h is = subst (λ (x : Result (Unit {0}) StoreFault). (x ≡ Err PageLimit) ↔ Q) (sym is) h

pub limit_past : {Q : Type 0} {u : Unit {0}} (r : Result (Unit {0}) StoreFault) → (◌≡◌ {A = Result (Unit {0}) StoreFault} (Ok u) (Err PageLimit) ↔ Q) → (r ≡ Err PageLimit → ⊥) → ((r ≡ Err PageLimit) ↔ Q)
limit_past {Q} {u} r h other = (λ e. absurd (other e), λ q. absurd (never (h.1 q)))
  where
    never : ◌≡◌ {A = Result (Unit {0}) StoreFault} (Ok u) (Err PageLimit) → ⊥
    never e = cc
