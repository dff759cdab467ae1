-- The requests and the repairs of an agent for what is due are those of whatever run it fits.
use Rattle.std.proofs.Common.{◌≡◌, ℕ, List, ◌++◌, Result, Ok, Err, ap, subst, ◌∙◌}
use Rattle.std.specs.Prelude.{IfOk, option_map}
use Rattle.std.specs.List.{filter_map}
use Rattle.srm_names.specs.FullName.{FullName}
use Rattle.srm_names.specs.declared.drawop.Drawop.{Drawop}
use Rattle.srm_codec.specs.declared.datagram.Datagram.{Datagram}
use Rattle.srm_codec.specs.declared.datagram.Datagram.TheVariants.{Repair}
use Rattle.srm_store.specs.Held.{held_at}
use Rattle.srm_store.specs.Finals.{Settling}
use Rattle.srm_store.specs.Fits.{StoreFits}
use Rattle.srm_outbox.specs.declared.due_items.DueItem.{DueItem}
use Rattle.srm_entries.specs.Configs.{Config}
use Rattle.srm_entries.specs.Entries.{held, evidence_in}
use Rattle.srm_entries.specs.Verdicts.{settlings}
use Rattle.srm_entries.specs.Packing.{packed}
use Rattle.srm_agent.specs.Contents.{AgentContent}
use Rattle.srm_agent.specs.DueItems.{DueItems}
use Rattle.srm_outbox.specs.DueItems.{AreDueItems}

pub due_items : {W D E : Type 0} (a : AgentContent W) (me session : ℕ) (asks fixes : List FullName) (gs : List Datagram) (items_of : D → List DueItem) (r : Result D E) → me ≡ a.config.me → session ≡ a.config.session
    → ((held : List Drawop) (evidence : List FullName) (settled : List Settling) → StoreFits held evidence settled a.store → gs ≡ packed me asks ++ filter_map (λ n. option_map (Repair me) (held_at held n)) fixes)
    → IfOk r (λ d. AreDueItems me session a.showing gs (items_of d)) → IfOk r (λ d. DueItems a asks fixes (items_of d))
due_items a me session asks fixes gs items_of (Err e) same_me same_session value are = tt
due_items a me session asks fixes gs items_of (Ok d) same_me same_session value are = record {
  datagrams = gs;
  spelled = subst (λ m. AreDueItems m a.config.session a.showing gs (items_of d)) same_me (subst (λ n. AreDueItems me n a.showing gs (items_of d)) same_session are);
  value = λ c made past h.
      value (held past) (evidence_in past) (settlings past) h.store
      ∙ ap (λ m. packed m asks ++ filter_map (λ n. option_map (Repair m) (held_at (held past) n)) fixes) (same_me ∙ ap (λ (s : Config). s.me) h.config);
}
