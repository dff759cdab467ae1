use Rattle.std.proofs.Common.{Some, refl, ap, subst, arith, ◌∙◌}
use Rattle.srm_store.specs.Places.{has_place, EndsInTime}
use Rattle.srm_store.proofs.Placing.{block_there, writes_in, still_in, inside_in, ends_written}
use Rattle.srm_store.proofs.places.Places.put.Goals as goal

pub index_mut-requires : goal.index_mut-requires
index_mut-requires c = omega (arith, block_there c.self.inside.blocks.items c.args.number (ap (λ bs. has_place bs c.args.number) c.self.view_is ∙ c.requires.there), c.self.inside.blocks.ok.0)

pub put-requires : goal.put-requires
put-requires c = inside_in _ _ c.args.number _ _ (Some c.args.drawop) c.self.view_is c.requires.there c.index_mut.ensures.value refl

pub invariant_of-self : goal.invariant_of-self
invariant_of-self c = ends_written _ _ c.args.number _ c.requires.last (subst EndsInTime c.self.view_is c.self.invariant) (writes_in _ _ c.args.number _ _ _ c.self.view_is c.requires.there c.index_mut.ensures.value c.put.ensures)

pub returns-clause-writes : goal.returns-clause-writes
returns-clause-writes c = writes_in _ _ c.args.number _ _ _ c.self.view_is c.requires.there c.index_mut.ensures.value c.put.ensures

pub returns-clause-still : goal.returns-clause-still
returns-clause-still c = still_in _ _ c.args.number _ _ _ c.self.view_is c.requires.there c.index_mut.ensures.value c.put.ensures
