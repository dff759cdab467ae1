use Rattle.std.proofs.Common.{◌≡◌, false, refl, sym, ap, ◌∙◌, subst, arith, List}
use Rattle.srm_names.specs.declared.page.Page.{Page}
use Rattle.srm_store.specs.PageTables.{IsPageTable, is_in, with_page}
use Rattle.srm_store.proofs.Slots.{named_pages}
use Rattle.srm_store.proofs.Pages.{table_more}
use Rattle.srm_store.proofs.page_table.PageTable.add.Goals as goal

absent : (c : goal.After-unwrap) → is_in c.self.inside.pages.items c.args.page ≡ false
absent c = ap (λ (ps : List Page). is_in ps c.args.page) (sym c.deref.ensures.value) ∙ sym c.holds.ensures ∙ c.if-not-holds.true

added : (c : goal.After-unwrap) → c.push.new.self.items ≡ with_page c.self.inside.pages.items c.args.page
added c = c.push.ensures.items ∙ rw c.unwrap.ensures refl ∙ sym (named_pages c.self.inside.pages.items c.args.page false (absent c))

pub invariant_of-self : goal.invariant_of-self
invariant_of-self c = record {
  table = subst IsPageTable (sym (added c)) (table_more c.self.inside.pages.items c.args.page c.self.invariant.table (rw c.self.view_is c.requires));
  room = omega (arith, c.push.ensures.capacity, c.self.invariant.room);
}

pub returns-then-not-holds : goal.returns-then-not-holds
returns-then-not-holds c = rw (← c.self.view_is) (added c)
