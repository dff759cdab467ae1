use Rattle.std.proofs.Common.{◌≡◌, ◌++◌, List, map, take}
use Rattle.srm_names.specs.declared.drawop.Drawop.{Drawop}
use Rattle.srm_names.specs.FullName.{FullName}
use Rattle.srm_store.specs.Finals.{Settling}
use Rattle.srm_store.specs.Fits.{StoreFits}
use Rattle.srm_store.specs.Held.{page_of_name}
use Rattle.srm_store.specs.Stores.{HasSlots}
use Rattle.srm_agent_state.proofs.evidence.learn_all.Given as goal

abbrev pub invariant-loop-name : goal.invariant-loop-name
invariant-loop-name l = record {
  fits : (inserted : List Drawop) (evidence : List FullName) (settled : List Settling) → StoreFits inserted evidence settled l.fn.store → StoreFits inserted (evidence ++ take l.name-index l.names) settled l.store;
  finals : l.store.finals ≡ l.fn.store.finals;
  slots : HasSlots (map page_of_name l.names) l.store;
}
