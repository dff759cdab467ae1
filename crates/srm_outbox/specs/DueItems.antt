-- What a tick hands in: requests and repairs of this member, each spelled, with the class that the shown page gives it.
use Rattle.std.specs.Prelude.{◌≡◌, ℕ, false, List, map}
use Rattle.std.specs.List.{AllByRecursion}
use Rattle.srm_names.specs.declared.page.Page.{Page}
use Rattle.srm_names.specs.declared.drawop.Drawop.{Drawop}
use Rattle.srm_names.specs.FullName.{FullName}
use Rattle.srm_codec.specs.declared.datagram.Datagram.{Datagram}
use Rattle.srm_codec.specs.Spelling.{sender_of, IsSpellable, is_drawop, is_session}
use Rattle.srm_store.specs.Finals.{Settling}
use Rattle.srm_store.specs.Fits.{StoreFits}
use Rattle.srm_store.specs.Stores.{StoreContent}
use Rattle.srm_bucket.specs.Calls.{Classed}
use Rattle.srm_bucket.specs.Mapping.{read_classed}
use Rattle.srm_bucket.specs.Waiting.{HasLength}
use Rattle.srm_outbox.specs.declared.due_items.DueItem.{DueItem}
use Rattle.srm_outbox.specs.declared.out.Outgoing.{Outgoing}
use Rattle.srm_entries.specs.Bucket.{due_item}
use Rattle.srm_outbox.specs.Outs.{datagram_of, IsOwn}

-- a datagram that a member may hand in
pub record MayHandIn (me : ℕ) (g : Datagram) : Type 0 where
  pub sender : sender_of g ≡ me
  pub charged : is_session g ≡ false
  pub spellable : IsSpellable g

-- each drawop that was inserted into a store can be spelled
pub record HoldsSpellable (s : StoreContent) : Type 0 where
  pub inserted : List Drawop
  pub evidence : List FullName
  pub settled : List Settling
  pub fits : StoreFits inserted evidence settled s
  pub spellable : AllByRecursion is_drawop inserted

-- an item as the bucket sees it
abbrev pub classed_of : DueItem → Classed Outgoing
classed_of a = record { class = a.class; item = a.item }

pub record IsDueItem (me session : ℕ) (showing : Page) (g : Datagram) (a : DueItem) : Type 0 where
  pub own : IsOwn me session a.item.value
  pub read : read_classed datagram_of (classed_of a) ≡ due_item showing g
  pub length : HasLength a.item

pub record AreDueItems (me session : ℕ) (showing : Page) (gs : List Datagram) (items : List DueItem) : Type 0 where
  pub own : AllByRecursion (λ a. IsOwn me session a.item.value) items
  pub read : map (λ a. read_classed datagram_of (classed_of a)) items ≡ map (due_item showing) gs
  pub lengths : AllByRecursion (λ a. HasLength a.item) items
