-- What a store holds can be encoded, also once more is held or known.
use Rattle.std.proofs.Common.{ℕ, List, [], ◌∷◌, ◌++◌, sym, subst}
use Rattle.std.specs.Prelude.{Option, Some, None}
use Rattle.srm_names.specs.FullName.{FullName}
use Rattle.srm_names.specs.declared.drawop.Drawop.{Drawop}
use Rattle.srm_codec.specs.declared.datagram.Datagram.{Datagram}
use Rattle.srm_codec.specs.Spelling.{is_drawop, IsSpellable, names_in}
use Rattle.srm_store.specs.Fits.{StoreStays}
use Rattle.srm_store.specs.Stores.{StoreContent}
use Rattle.srm_names.proofs.Lists.{AllByRecursion-append}
use Rattle.srm_agent_state.specs.Growth.{LearnsNames, LearnsToo, HoldsToo}
use Rattle.srm_outbox.specs.DueItems.{HoldsSpellable}
use Rattle.srm_agent.specs.Heeding.{carrying}
use Rattle.srm_agent.specs.Drawing.{IsDraftOf}
use Rattle.srm_agent.specs.declared.agent.drafting.Draft.{Draft}

-- a store with room for more
pub still_spellable : (old new : StoreContent) → StoreStays old new → HoldsSpellable old → HoldsSpellable new
still_spellable old new stays h = record {
  inserted = h.inserted;
  evidence = h.evidence;
  settled = h.settled;
  fits = stays.each h.inserted h.evidence h.settled h.fits;
  spellable = h.spellable;
}

-- one that knows of more names
pub learnt_spellable : (names : List FullName) (old new : StoreContent) → LearnsNames names old new → HoldsSpellable old → HoldsSpellable new
learnt_spellable names old new learns h = record {
  inserted = h.inserted;
  evidence = h.evidence ++ names;
  settled = h.settled;
  fits = learns.each h.inserted h.evidence h.settled h.fits;
  spellable = h.spellable;
}

-- one that knows what a session message says
pub told_spellable : (g : Datagram) (old new : StoreContent) → LearnsToo g old new → HoldsSpellable old → HoldsSpellable new
told_spellable g old new learns h = record {
  inserted = h.inserted;
  evidence = h.evidence ++ names_in g;
  settled = _;
  fits = learns.each h.inserted h.evidence h.settled h.fits;
  spellable = h.spellable;
}

-- one that holds one more drawop, which can be spelled
pub kept_spellable : (d : Drawop) (old new : StoreContent) → HoldsToo d old new → is_drawop d → HoldsSpellable old → HoldsSpellable new
kept_spellable d old new holds one h = record {
  inserted = h.inserted ++ d ∷ [];
  evidence = h.evidence ++ d.name ∷ [];
  settled = h.settled;
  fits = holds.each h.inserted h.evidence h.settled h.fits;
  spellable = AllByRecursion-append is_drawop h.inserted (d ∷ []) h.spellable (one, tt);
}

-- the drawop of data or of a repair
pub carried_spellable : (repairer : Option ℕ) (d : Drawop) → IsSpellable (carrying repairer d) → is_drawop d
carried_spellable None d h = h
carried_spellable (Some repairer) d h = h.1

-- the drawop that a draft holds
pub drafted_spellable : (session : ℕ) (d : Drawop) (draft : Draft) → IsDraftOf session d draft → is_drawop d → is_drawop draft.held
drafted_spellable session d draft made one = subst is_drawop (sym made.held) one
