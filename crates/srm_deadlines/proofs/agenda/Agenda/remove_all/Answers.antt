use Rattle.std.proofs.Common.{sym, ap, subst, ◌∙◌, ◌≡◌, not, [], rules}
use Rattle.std.specs.Prelude.{filter, if◌then◌else◌}
use Rattle.std.proofs.lemmas.Fn.{filter_same}
use Rattle.srm_names.specs.Names.{among}
use Rattle.srm_deadlines.specs.declared.timed.Timed.{Timed}
use Rattle.srm_deadlines.specs.Agenda.{Agenda, of_name}
use Rattle.srm_deadlines.proofs.Agendas.{filtered, if_not}
use Rattle.srm_deadlines.proofs.Orders.{IsInOrder, filtered_in_order}
use Rattle.srm_deadlines.proofs.agenda.Agenda.remove_all.Goals as goal

pub invariant_of-self : goal.invariant_of-self
invariant_of-self c =
    let items : c.retain.new.self.items ≡ filter (λ (t : Timed). not (among c.args.names.now t.name)) c.self.inside.pairs.items =
    filter_same _ (λ (t : Timed). not (among c.args.names.now t.name)) _ (λ x b f k. search rules) _ _ c.retain.ensures.filtered in
    subst IsInOrder (sym items) (filtered_in_order _ _ c.self.invariant)

pub returns-clause-each : goal.returns-clause-each
returns-clause-each c =
    let items : c.retain.new.self.items ≡ filter (λ (t : Timed). not (among c.args.names.now t.name)) c.self.inside.pairs.items =
    filter_same _ (λ (t : Timed). not (among c.args.names.now t.name)) _ (λ x b f k. search rules) _ _ c.retain.ensures.filtered in
    λ n. ap (of_name n) items ∙ filtered (λ m. not (among c.args.names.now m)) c.self.inside.pairs.items n
    ∙ if_not (among c.args.names.now n) _ ∙ ap (λ (a : Agenda). if among c.args.names.now n then [] else of_name n a.pairs) c.self.view_is
