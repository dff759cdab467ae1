use Rattle.std.proofs.Common.{[], ◌∷◌, ◌++◌}
use Rattle.srm_store.proofs.Rooming.{not_refused}
use Rattle.srm_entries.proofs.Holding.{on_page, has_place, ok_then}
use Rattle.srm_agent_state.proofs.keeping.keep.Goals as goal

pub unwrap-requires : goal.unwrap-requires
unwrap-requires c = not_refused c.insert.result (c.insert.ensures.slot (c.args.drawop.name.stream.page ∷ []) (on_page c.args.drawop.name) c.requires.slots) (c.insert.ensures.place (has_place c.args.drawop.name _ c.requires))

pub unwrap-requires-2 : goal.unwrap-requires-2
unwrap-requires-2 c = not_refused c.learn.result
    (c.learn.ensures.slot (c.args.drawop.name.stream.page ∷ []) (on_page c.args.drawop.name) (c.insert.ensures.slots.each (c.args.drawop.name.stream.page ∷ []) (on_page c.args.drawop.name) c.requires.slots))
    c.learn.ensures.memory

pub returns : goal.returns
returns c = record {
  each = λ inserted evidence settled h.
      let first = not_refused c.insert.result (c.insert.ensures.slot (c.args.drawop.name.stream.page ∷ []) (on_page c.args.drawop.name) c.requires.slots) (c.insert.ensures.place (has_place c.args.drawop.name _ c.requires)) in
      let second = not_refused c.learn.result
      (c.learn.ensures.slot (c.args.drawop.name.stream.page ∷ []) (on_page c.args.drawop.name) (c.insert.ensures.slots.each (c.args.drawop.name.stream.page ∷ []) (on_page c.args.drawop.name) c.requires.slots))
      c.learn.ensures.memory in
      ok_then c.learn.result second c.learn.ensures.fits (inserted ++ c.args.drawop ∷ []) evidence settled (ok_then c.insert.result first c.insert.ensures.fits inserted evidence settled h);
}
